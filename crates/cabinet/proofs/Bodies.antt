-- Bodies, and their flaws, in the file and apart from it.
use mathlib.Core.Path.{◌≡◌, sym, ap, ap₂, ◌∙◌}
use mathlib.Core.Logic.{◌≢◌}
use mathlib.Core.List.{List}
use Prim.Native.Nat.{ℕ, ◌+◌, ◌≤◌, ◌<◌}
use native.Mathlib.Omega.{arith}
use lib.ListN.{length, take, drop, length-drop}
use lib.Seq.{drop-drop, length-take-le}
use Rattle.suffix.specs.Search.{sum_below}
use Rattle.suffix.specs.Lyndon.{part}
use Rattle.suffix.specs.Tree.{tree_length}
use Rattle.suffix.proofs.Cases.{Same, same, other, same?}
use Rattle.suffix.proofs.Search.{tabulate_same, tabulate_length, tabulate_entry}
use Rattle.refusal.specs.Numbers.{first_of}
use Rattle.refusal.proofs.Numbers.{first_at, none_first}
use Rattle.refusal.specs.Conditions.{flaw_number, tree_refusal}
use Rattle.shape.proofs.Conditions.{tree_flaw}
use Rattle.cabinet.specs.File.{contents_end, body_bytes, body_in, count_in, count_of, letters_of, counts_of, bodies_of}
use Rattle.cabinet.specs.Refusals.{bodies_flaw, file_flaw, write_refusal}
use Rattle.cabinet.proofs.Contents.{bytes_same, bytes_more}
use Rattle.cabinet.proofs.Conditions.{Right, write_flaw}

-- bodies whose first is at `first`, and the same bytes from there on
module _ (bytes : List ℕ) (first : ℕ) (f g : ℕ → ℕ) where
  pub body_moved : (k : ℕ) → ((j : ℕ) → j < k → f j ≡ g j) → f k ≡ g k → body_in bytes first f k ≡ body_in (drop first bytes) 0 g k
  unfolding part
  body_moved k q e =
      let z : 0 + body_bytes g k ≡ body_bytes f k = omega (arith, bytes_same f g k q) in
      rw (z, e, drop-drop (body_bytes f k) first bytes)

  pub flaw_moved : (count : ℕ) → ((j : ℕ) → j < count → f j ≡ g j) → bodies_flaw bytes first f count ≡ bodies_flaw (drop first bytes) 0 g count
  unfolding bodies_flaw
  flaw_moved count q =
      ap first_of
      (tabulate_same (λ k. flaw_number (f k) (body_in bytes first f k)) (λ k. flaw_number (g k) (body_in (drop first bytes) 0 g k)) count
      (λ k h. ap₂ flaw_number (q k h) (body_moved k (λ j w. q j (omega arith)) (q k h))))

-- of what a file with right contents says, the writer would refuse a flaw of its bodies and nothing else
module _ (file : List ℕ) (few : count_of file ≤ 64) (R : Right file) where
  abbrev count : ℕ
  count = count_of file

  counted : length (counts_of file) ≡ count
  counted = tabulate_length (letters_of file) count

  listed : (k : ℕ) → k < count → count_in (counts_of file) k ≡ letters_of file k
  listed = tabulate_entry (letters_of file) count

  bytes : body_bytes (count_in (counts_of file)) (length (counts_of file)) ≡ body_bytes (letters_of file) count
  bytes = ap (body_bytes (count_in (counts_of file))) counted ∙ bytes_same (count_in (counts_of file)) (letters_of file) count listed

  pub flaw_apart : write_refusal (counts_of file) (bodies_of file) (length file) ≡ file_flaw file
  flaw_apart =
      write_flaw (counts_of file) (bodies_of file) (length file)
      (record { few = omega (arith, counted, few); short = λ k h. let w : k < count = omega (arith, counted) in omega (arith, listed k w, R.short k w) })
      (omega (arith, length-drop (contents_end count) file, R.ends, bytes)) (omega (arith, counted, R.ends, bytes))
      ∙ ap (λ k. bodies_flaw (bodies_of file) 0 (count_in (counts_of file)) k) counted
      ∙ sym (flaw_moved file (contents_end count) (letters_of file) (count_in (counts_of file)) count (λ k h. sym (listed k h)))

-- the verdict on a body as a tree is that on its flaws
pub body_flaw : (bytes : List ℕ) (start n k : ℕ) {m : ℕ} → m ≡ n → n ≤ 1000000 → start + tree_length n ≤ length bytes → k ≡ tree_length n
    → tree_refusal m (take k (drop start bytes)) ≡ flaw_number n (part bytes start (tree_length n))
unfolding part
body_flaw bytes start n k z h w e = rw (z, e) (tree_flaw n (take (tree_length n) (drop start bytes)) h (length-take-le (tree_length n) (drop start bytes) (omega (arith, length-drop start bytes))))

-- ---- bodies looked through one by one

-- what holds below k, and at k, holds below k + 1
pub and_here : (P : ℕ → Type 0) (k : ℕ) → ((j : ℕ) → j < k → P j) → P k → (j : ℕ) → j < k + 1 → P j
and_here P k below here j h = go (same? j k)
  where
    go : Same j k → P j
    go (same e) = rw e here
    go (other e) = below j (omega arith)

-- the first k bodies have no flaw, and end at `end`
pub record SoundTo (bytes : List ℕ) (first : ℕ) (letters : ℕ → ℕ) (k end : ℕ) : Type 0 where
  pub ends : end ≡ first + body_bytes letters k
  pub sound : (j : ℕ) → j < k → flaw_number (letters j) (body_in bytes first letters j) ≡ 0

module _ (bytes : List ℕ) (first : ℕ) (letters : ℕ → ℕ) where
  pub sound_none : SoundTo bytes first letters 0 first
  unfolding sum_below
  sound_none = record { ends = omega arith; sound = λ j h. absurd (omega arith) }

  module _ {k end : ℕ} (S : SoundTo bytes first letters k end) where
    here : flaw_number (letters k) (part bytes end (tree_length (letters k))) ≡ flaw_number (letters k) (body_in bytes first letters k)
    here = ap (λ e. flaw_number (letters k) (part bytes e (tree_length (letters k)))) S.ends

    pub sound_more : {next : ℕ} → next ≡ end + tree_length (letters k) → flaw_number (letters k) (part bytes end (tree_length (letters k))) ≡ 0
        → SoundTo bytes first letters (k + 1) next
    sound_more z e = record { ends = omega (arith, z, S.ends, bytes_more letters k); sound = and_here (λ j. flaw_number (letters j) (body_in bytes first letters j) ≡ 0) k S.sound (sym here ∙ e) }

    module _ (count : ℕ) where
      pub all_sound : k ≡ count → 0 ≡ bodies_flaw bytes first letters count
      unfolding bodies_flaw
      all_sound c = sym (none_first (λ j. flaw_number (letters j) (body_in bytes first letters j)) count (λ j h. S.sound j (omega arith)))

      pub flaw_here : k < count → {number : ℕ} → number ≡ flaw_number (letters k) (part bytes end (tree_length (letters k))) → number ≢ 0 → number ≡ bodies_flaw bytes first letters count
      unfolding bodies_flaw
      flaw_here h e q = let z = e ∙ here in z ∙ sym (first_at (λ j. flaw_number (letters j) (body_in bytes first letters j)) count k h S.sound (λ w. q (z ∙ w)))
