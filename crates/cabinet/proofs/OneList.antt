-- An accepted file is the file of exactly one mark and one list of letter counts and trees.
use mathlib.Core.Path.{◌≡◌, refl, sym, ap, ap₂, ◌∙◌}
use mathlib.Core.List.{List, [], ◌∷◌, ◌++◌, map}
use Prim.Native.Nat.{ℕ, zero, suc, ◌+◌, ◌≤◌, ◌<◌}
use native.Mathlib.Omega.{arith}
use lib.ListN.{length, get_or, take, drop, length-drop, length-map, take-append-drop, drop_of_length-le}
use lib.Seq.{take_at, drop_at, drop-drop, length-take-le}
use Rattle.suffix.specs.Search.{sum_below, tabulate, tabulate_from}
use Rattle.suffix.specs.Lyndon.{part}
use Rattle.suffix.specs.Tree.{tree_length}
use Rattle.refusal.specs.Conditions.{flaw_number, tree_refusal}
use Rattle.refusal.proofs.Numbers.{unless_taken, all_none}
use Rattle.shape.proofs.Conditions.{tree_flaw}
use Rattle.shape.proofs.Laws.{whole}
use Rattle.cabinet.specs.File.{contents_end, marked_file, body_in, count_in, mark_of, count_of, letters_of, end_before, body_of, counts_of, bodies_of}
use Rattle.cabinet.specs.Refusals.{bodies_flaw}
use Rattle.cabinet.specs.Claims.{Entry, entry_in, end_to_end, AreTrees, AcceptedIsOfOne}
use Rattle.cabinet.proofs.Marks.{marked, mark_met, one_mark}
use Rattle.cabinet.proofs.Files.{mark_back, counts_back, bodies_back}
use Rattle.cabinet.proofs.Conditions.{Right, end_more, body_fits, Accepted, accepted, reads}
use Rattle.cabinet.proofs.Laws.{file_again}

abbrev counts_in : List Entry → List ℕ
counts_in entries = map (λ entry. entry.letters) entries

-- ---- letter counts and trees end to end are of one list

one : (es fs : List Entry) → AreTrees es → AreTrees fs → counts_in es ≡ counts_in fs → end_to_end es ≡ end_to_end fs → es ≡ fs
one [] [] E F c t = refl
one [] (f ∷ fs) E F c t = absurd (omega (arith, ap length c))
one (e ∷ es) [] E F c t = absurd (omega (arith, ap length c))
one (e ∷ es) (f ∷ fs) E F c t =
    let n = ap (λ l. get_or l 0 0) c in
    let a = (whole e.letters e.tree E.0).bytes in
    let b = (whole f.letters f.tree F.0).bytes ∙ ap tree_length (sym n) in
    let k = tree_length e.letters in
    let tree = sym (take_at e.tree (end_to_end es) k a) ∙ ap (take k) t ∙ take_at f.tree (end_to_end fs) k b in
    let rest = sym (drop_at e.tree (end_to_end es) k a) ∙ ap (drop k) t ∙ drop_at f.tree (end_to_end fs) k b in
    ap₂ ◌∷◌ (ap₂ {A = ℕ} {B = List ℕ} {C = Entry} (λ m u. record { letters = m; tree = u }) n tree) (one es fs E.1 F.1 (ap (drop 1) c) rest)

-- every letter count of trees is small
short : (es : List Entry) → AreTrees es → (k : ℕ) → k < length (counts_in es) → count_in (counts_in es) k ≤ 1000000
short [] E k h = omega arith
short (e ∷ es) E zero h = (whole e.letters e.tree E.0).small
short (e ∷ es) E (suc k) h = short es E.1 k (omega arith)

-- ---- the list of an accepted file: m of its entries from k on

abbrev entry_of : List ℕ → ℕ → Entry
entry_of file k = record { letters = letters_of file k; tree = body_of file k }

entries_from : List ℕ → ℕ → ℕ → List Entry
entries_from file k zero = []
entries_from file k (suc m) = entry_of file k ∷ entries_from file (suc k) m

counts_from : (file : List ℕ) (k m : ℕ) → counts_in (entries_from file k m) ≡ tabulate_from k m (letters_of file)
unfolding entries_from tabulate_from
counts_from file k zero = refl
counts_from file k (suc m) = ap (λ l. letters_of file k ∷ l) (counts_from file (suc k) m)

module _ (file : List ℕ) (A : Accepted file) where
  abbrev count : ℕ
  count = count_of file

  R : Right file
  R = A.right

  body_at : (k : ℕ) → k < count → body_of file k ≡ take (tree_length (letters_of file k)) (drop (end_before file k) file)
  unfolding part
  body_at k h = ap (λ p. take (tree_length (letters_of file k)) (drop p file)) (R.places k h)

  bodies_from : (m k : ℕ) → k + m ≡ count → end_to_end (entries_from file k m) ≡ drop (end_before file k) file
  unfolding entries_from
  bodies_from zero k e =
      let z : k ≡ count = omega arith in
      let w : length file ≤ end_before file count = omega (arith, R.ends) in
      rw z (sym (drop_of_length-le file w))
  bodies_from (suc m) k e =
      let n = tree_length (letters_of file k) in
      let z : k < count = omega arith in
      ap₂ ◌++◌ (body_at k z) (bodies_from m (suc k) (omega arith) ∙ ap (λ s. drop s file) (end_more file R k) ∙ sym (drop-drop n (end_before file k) file))
      ∙ take-append-drop n (drop (end_before file k) file)

  body_sound : (k : ℕ) → k < count → tree_refusal (letters_of file k) (body_of file k) ≡ 0
  unfolding bodies_flaw part
  body_sound k h =
      let n = letters_of file k in
      let fits = length-take-le (tree_length n) (drop (end_before file k) file) (omega (arith, length-drop (end_before file k) file, body_fits file R k h)) in
      tree_flaw n (body_of file k) (R.short k h) (ap length (body_at k h) ∙ fits)
      ∙ ap (flaw_number n) (body_at k h)
      ∙ all_none (λ j. flaw_number (letters_of file j) (body_in file (contents_end count) (letters_of file) j)) count A.sound k h

  trees_from : (m k : ℕ) → k + m ≡ count → AreTrees (entries_from file k m)
  unfolding entries_from
  trees_from zero k e = tt
  trees_from (suc m) k e = (body_sound k (omega arith), trees_from m (suc k) (omega arith))

  length_from : (m k : ℕ) → length (entries_from file k m) ≡ m
  unfolding entries_from
  length_from zero k = refl
  length_from (suc m) k = ap suc (length_from m (suc k))

  entry_from : (m k j : ℕ) → j < m → entry_in (entries_from file k m) j ≡ entry_of file (k + j)
  unfolding entries_from
  entry_from zero k j h = absurd (omega arith)
  entry_from (suc m) k zero h = ap (entry_of file) (omega arith)
  entry_from (suc m) k (suc j) h = entry_from m (suc k) j (omega arith) ∙ ap (entry_of file) (omega arith)

  abbrev entries : List Entry
  entries = entries_from file 0 count

  counts_of_lem : counts_in entries ≡ counts_of file
  unfolding tabulate
  counts_of_lem = counts_from file 0 count

  bodies_of_lem : end_to_end entries ≡ bodies_of file
  unfolding sum_below
  bodies_of_lem = let z : end_before file 0 ≡ contents_end count = omega arith in rw z at (bodies_from count 0 (omega arith))

pub accepted_is_of_one : AcceptedIsOfOne
accepted_is_of_one file small e =
    let A = accepted file e in
    let trees = trees_from file A (count_of file) 0 (omega arith) in
    let M = marked file A.marked in
    record {
      mark = M.mark;
      entries = entries file A;
      storable = record { few = omega (arith, length_from file A (count_of file) 0, A.few); trees = trees };
      is = ap₂ (marked_file M.mark) (counts_of_lem file A) (bodies_of_lem file A) ∙ file_again file small A;
      met = mark_met file M;
      reads = λ k h.
          let w : k < count_of file = omega (arith, length_from file A (count_of file) 0) in
          let r = reads file k A w in
          let z : 0 + k ≡ k = omega arith in
          rw (entry_from file A (count_of file) 0 k w, z) (record { taken = r; met = unless_taken _ _ _ r ∙ mark_met file M; letters = unless_taken _ _ _ r; body = unless_taken _ _ _ r });
      only = λ other others K z.
          let few : length (counts_in others) ≤ 64 = omega (arith, length-map others (λ entry. entry.letters), K.few) in
          let shorts = short others K.trees in (
            one_mark other M.mark (sym (mark_back other (counts_in others) (end_to_end others)) ∙ ap mark_of z ∙ mark_met file M),
            one others (entries file A) K.trees trees
                (sym (counts_back other (counts_in others) (end_to_end others) few shorts) ∙ ap counts_of z ∙ sym (counts_of_lem file A))
                (sym (bodies_back other (counts_in others) (end_to_end others) few shorts) ∙ ap bodies_of z ∙ sym (bodies_of_lem file A)),
          );
    }
