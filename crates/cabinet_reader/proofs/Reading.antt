-- Contents that are looked through entry by entry.
use mathlib.Core.Path.{◌≡◌, sym, ap, ◌∙◌}
use mathlib.Core.Logic.{◌≢◌}
use mathlib.Core.Bool.{Bool, true, false, true≢false}
use mathlib.Core.List.{List, ◌++◌}
use Prim.Native.Nat.{ℕ, ◌+◌, ◌-◌, ◌≤◌, ◌<◌}
use native.Mathlib.Omega.{arith}
use lib.ListN.{length, take, drop, set, length-set, length-drop, take-append-drop}
use lib.Dec.{eqb}
use lib.Seq.{take_all, take_at, take-take, drop-drop, get_or-set_same, get_or-set_other}
use Rattle.std.specs.List.{starts_with}
use Rattle.std.proofs.lemmas.List.{drop-take}
use Rattle.std.proofs.lemmas.Slice.Eq.{starts_is}
use Rattle.std.proofs.lemmas.Bool.Decides.{Decides-eqb}
use Rattle.cabinet.specs.declared.Mark.{Mark}
use Rattle.cabinet.specs.File.{mark_bytes}
use Rattle.cabinet.proofs.Marks.{mark_length}
use Rattle.suffix.specs.Search.{sum_below}
use Rattle.suffix.specs.Lyndon.{part}
use Rattle.suffix.specs.Tree.{tree_length}
use Rattle.suffix.proofs.Search.{tabulate_is}
use Rattle.cabinet.specs.LittleEndian.{value_of, number_at}
use Rattle.cabinet.specs.File.{contents_end, count_in, count_of, place_of, letters_of, end_before, counts_of}
use Rattle.cabinet.specs.Refusals.{wrong_contents, file_flaw, write_refusal}
use Rattle.cabinet.proofs.Contents.{bytes_more}
use Rattle.cabinet.proofs.Bodies.{and_here, flaw_apart}
use Rattle.cabinet.proofs.Conditions.{Right, not_wrong, wrong}

-- whether the file starts with the letters of a mark
module _ (file : List ℕ) (m : Mark) {r : Bool} {p : List ℕ} (e : r ≡ starts_with eqb file p) (z : p ≡ mark_bytes m) where
  pub is_met : r ≡ true → take 4 file ≡ mark_bytes m
  is_met q =
      ap (take 4) ((starts_is Decides-eqb file p r e).0 q ∙ ap (λ l. l ++ drop (length p) file) z) ∙ take_at (mark_bytes m) (drop (length p) file) 4 (mark_length m)

  pub not_met : r ≡ false → take 4 file ≢ mark_bytes m
  not_met q h = true≢false (sym ((starts_is Decides-eqb file p r e).1 (drop 4 file) (sym (take-append-drop 4 file) ∙ ap (λ l. l ++ drop 4 file) (h ∙ sym z))) ∙ q)

-- k entries are right, and their bodies end at `end`
pub record RightTo (file : List ℕ) (k end : ℕ) : Type 0 where
  pub whole : contents_end (count_of file) ≤ length file
  pub ends : end ≡ end_before file k
  pub places : (j : ℕ) → j < k → place_of file j ≡ end_before file j
  pub short : (j : ℕ) → j < k → letters_of file j ≤ 1000000

module _ (file : List ℕ) where
  pub right_none : contents_end (count_of file) ≤ length file → RightTo file 0 (contents_end (count_of file))
  unfolding sum_below
  right_none h = record { whole = h; ends = omega arith; places = λ j w. absurd (omega arith); short = λ j w. absurd (omega arith) }

  pub too_short : length file < contents_end (count_of file) → wrong_contents file ≡ true
  too_short h = wrong file (λ R. omega (arith, R.whole))

  module _ {k end : ℕ} (S : RightTo file k end) where
    pub right_more : {next : ℕ} → next ≡ end + tree_length (letters_of file k) → place_of file k ≡ end → letters_of file k ≤ 1000000 → RightTo file (k + 1) next
    right_more z p n =
        record {
          whole = S.whole;
          ends = omega (arith, z, S.ends, bytes_more (letters_of file) k);
          places = and_here (λ i. place_of file i ≡ end_before file i) k S.places (p ∙ S.ends);
          short = and_here (λ i. letters_of file i ≤ 1000000) k S.short n;
        }

    module _ (c : k ≡ count_of file) where
      end_of : end ≡ end_before file (count_of file)
      end_of = S.ends ∙ ap (end_before file) c

      pub wrong_end : end ≢ length file → wrong_contents file ≡ true
      wrong_end q = wrong file (λ R. q (end_of ∙ sym R.ends))

      pub right_end : end ≡ length file → wrong_contents file ≡ false
      right_end e = not_wrong file (record { whole = S.whole; places = λ j w. S.places j (omega arith); ends = sym e ∙ end_of; short = λ j w. S.short j (omega arith) })

    module _ (h : k < count_of file) where
      pub wrong_entry : {place n : ℕ} → place ≡ place_of file k → n ≡ letters_of file k → (place ≡ end → n ≤ 1000000 → ⊥) → wrong_contents file ≡ true
      wrong_entry p z q = wrong file (λ R. q (p ∙ R.places k h ∙ sym S.ends) (omega (arith, z, R.short k h)))

-- the letter counts of k entries are in `counts`, which has room for all
pub record ListedTo (file counts : List ℕ) (k : ℕ) : Type 0 where
  pub size : length counts ≡ count_of file
  pub listed : (j : ℕ) → j < k → count_in counts j ≡ letters_of file j

module _ (file counts : List ℕ) where
  pub listed_none : length counts ≡ count_of file → ListedTo file counts 0
  listed_none e = record { size = e; listed = λ j h. absurd (omega arith) }

  module _ {k : ℕ} (L : ListedTo file counts k) where
    pub listed_more : k < count_of file → {n : ℕ} → n ≡ letters_of file k → ListedTo file (set counts k n) (k + 1)
    listed_more h {n = n} e =
        record {
          size = length-set counts k n ∙ L.size;
          listed =
              and_here (λ j. count_in (set counts k n) j ≡ letters_of file j) k (λ j w. get_or-set_other counts k j n 0 (omega arith) ∙ L.listed j w)
              (get_or-set_same counts k n 0 (omega (arith, L.size)) ∙ e);
        }

    pub all_listed : k ≡ count_of file → counts ≡ counts_of file
    all_listed c = tabulate_is (letters_of file) counts (count_of file) L.size (λ j h. L.listed j (omega arith))

-- what is left of the contents: all of them, and those behind entry k
pub all_left : (file : List ℕ) → take (length file - 8) (drop 8 file) ≡ drop (contents_end 0) file
all_left file = take_all (length file - 8) (drop 8 file) (omega (arith, length-drop 8 file))

module _ (file : List ℕ) (k : ℕ) {rest : List ℕ} (e : rest ≡ drop (contents_end k) file) where
  pub is_left : contents_end (k + 1) ≤ length file → 8 ≤ length rest
  is_left h = rw e (omega (arith, h, length-drop (contents_end k) file))

  pub left_then : {behind : List ℕ} → behind ≡ drop 8 rest → behind ≡ drop (contents_end (k + 1)) file
  left_then b = let z : contents_end (k + 1) ≡ contents_end k + 8 = omega arith in rw (b, e, z) (drop-drop 8 (contents_end k) file)

  module _ {entry : List ℕ} (z : entry ≡ take 8 rest) where
    in_entry : (a m : ℕ) → a + m ≡ 8 → 4 ≤ m → number_at entry a ≡ number_at file (contents_end k + a)
    unfolding number_at part
    in_entry a m s h =
        ap value_of
        (ap (λ l. take 4 (drop a l)) (z ∙ ap (λ n. take n rest) (sym s))
        ∙ ap (take 4) (drop-take a m rest)
        ∙ take-take 4 m (drop a rest) h
        ∙ ap (λ l. take 4 (drop a l)) e
        ∙ ap (take 4) (drop-drop a (contents_end k) file))

    pub place_split : number_at entry 0 ≡ place_of file k
    place_split = in_entry 0 8 (omega arith) (omega arith) ∙ ap (number_at file) (omega arith)

    pub letters_split : number_at entry 4 ≡ letters_of file k
    letters_split = in_entry 4 4 (omega arith) (omega arith) ∙ ap (number_at file) (omega arith)

-- what the reader finds in contents, entry by entry
pub ruleset contents = (right_none, too_short, right_more, wrong_end, right_end, listed_none, listed_more, all_listed, all_left, is_left)

-- the verdict on the letter counts and the bodies apart from the file
pub read_apart : (file : List ℕ) → count_of file ≤ 64 → Right file → {counts : List ℕ} {at size : ℕ} → counts ≡ counts_of file → at ≡ contents_end (count_of file) → size ≡ length file - at
    → write_refusal counts (take size (drop at file)) (length file) ≡ file_flaw file
read_apart file few R {counts = counts} {at = at} {size = size} c a z =
    ap (λ l. write_refusal counts l (length file)) (take_all size (drop at file) (omega (arith, length-drop at file))) ∙ rw (c, a) (flaw_apart file few R)
