-- Lines: how long they are, and the text that they make.
use mathlib.Core.Path.{◌≡◌, refl}
use mathlib.Core.Logic.{◌≢◌}
use mathlib.Core.Bool.{Bool, true, false, cond}
use mathlib.Core.List.{List, [], ◌∷◌, ◌++◌}
use Prim.Native.Nat.{ℕ, zero, suc, ◌+◌, ◌*◌, ◌^◌, ◌≤◌, ◌<◌}
use native.Mathlib.Nat.{pow-le-pow_right}
use native.Mathlib.Numerals.{add-one}
use native.Mathlib.Omega.{arith}
use lib.ListN.{length, get_or, length-append}
use Rattle.suffix.specs.Tree.{tree_length}
use Rattle.suffix.proofs.Cases.{Same, same, other, same?}
use Rattle.suffix.proofs.Search.{tabulate_length}
use Rattle.refusal.proofs.Numbers.{unless_taken, unless_refused_lem}
use Rattle.writing.specs.Text.{decimal, hexes}
use Rattle.writing.proofs.Places.{decimal_most}
use Rattle.writing.proofs.Hexes.{hexes_size}
use Rattle.shape.specs.Shape.{shape_of}
use Rattle.tree_string.specs.TreeString.{order, number_in, tree_string}
use Rattle.all_trees.specs.Trees.{trees_of}
use Rattle.all_trees.proofs.Laws.{trees_are_all, trees_most}
use Rattle.small_trees.specs.Answers.{size_outside, next, last, first_refusal}
use Rattle.small_trees.proofs.Answering.{inside, first_0}
use Rattle.trees_text.specs.Text.{symbols_text, line_of, line_text, lines_text, no_size_text, size_text}
use Rattle.trees_text.specs.Lines.{stops}

pub stops_last : (b : Bool) → stops (cond b last next) ≡ b
stops_last true = refl
stops_last false = refl

-- ---- how long they are

pub symbols_more : (s : List ℕ) (k : ℕ) → symbols_text s (k + 1) ≡ symbols_text s k ++ 32 ∷ decimal (get_or s k 0)
unfolding symbols_text
symbols_more s k = rw add-one

symbols_most : (s : List ℕ) (k : ℕ) → length (symbols_text s k) ≤ 21 * k
unfolding symbols_text
symbols_most s zero = omega arith
symbols_most s (suc k) = omega (arith, symbols_most s k, length-append (symbols_text s k) (32 ∷ decimal (get_or s k 0)), decimal_most (get_or s k 0))

line_size : (t s : List ℕ) → length (line_of t s) ≡ length (hexes t (length t)) + (length (symbols_text s (length s)) + 1)
unfolding line_of
line_size t s = simp length-append

-- a line of a small tree
pub line_most : (n : ℕ) (t : List ℕ) → n ≤ 12 → length t ≡ tree_length n → (0 < length (line_text n t)) × (length (line_text n t) ≤ 300)
unfolding line_text tree_string
line_most n t h e =
    let s = tree_string n t in
    let z : length s ≡ n = tabulate_length (number_in (order (shape_of n t) 0)) n in
    (omega (arith, line_size t s), omega (arith, line_size t s, hexes_size t (length t), symbols_most s (length s)))

module _ (n : ℕ) (size : size_outside n ≡ false) where
  pub listed_most : (k : ℕ) → k < length (trees_of n) → (0 < length (line_text n (get_or (trees_of n) k []))) × (length (line_text n (get_or (trees_of n) k [])) ≤ 300)
  listed_most k h = line_most n (get_or (trees_of n) k []) (inside n size) ((trees_are_all n).trees k h).size

  pub lines_more : (k : ℕ) → length (lines_text n (suc k)) ≡ length (lines_text n k) + length (line_text n (get_or (trees_of n) k []))
  unfolding lines_text
  lines_more k = length-append (lines_text n k) (line_text n (get_or (trees_of n) k []))

  lines_most : (k : ℕ) → k ≤ length (trees_of n) → length (lines_text n k) ≤ 300 * k
  unfolding lines_text
  lines_most zero h = omega arith
  lines_most (suc k) h = omega (arith, lines_most k (omega arith), lines_more k, listed_most k (omega arith))

  pub lines_few : (k : ℕ) → k ≤ length (trees_of n) → length (lines_text n k) < 2 ^ 64
  lines_few k h =
      let p : 2 ^ (2 * n) ≤ 2 ^ 24 = pow-le-pow_right {n = 2} (omega arith) {i = 2 * n} {j = 24} (omega (arith, inside n size)) in
      omega (arith, lines_most k h, trees_most n)

  pub lines_up : (j k : ℕ) → j ≤ k → length (lines_text n j) ≤ length (lines_text n k)
  unfolding lines_text
  lines_up j zero h = let z : j ≡ 0 = omega arith in rw z (omega arith)
  lines_up j (suc k) h = go (same? j (suc k)) (λ w. lines_up j k w)
    where
      go : Same j (suc k) → (j ≤ k → length (lines_text n j) ≤ length (lines_text n k)) → length (lines_text n j) ≤ length (lines_text n (suc k))
      go (same z) ih = rw z (omega arith)
      go (other z) ih = omega (arith, ih (omega arith), lines_more k)

-- ---- the whole text for a size

pub text_lines : (n : ℕ) → size_outside n ≡ false → size_text n ≡ lines_text n (length (trees_of n))
unfolding size_text
text_lines n e = unless_taken (first_refusal n (tree_length n)) (lines_text n (length (trees_of n))) no_size_text (first_0 n (tree_length n) e refl)

pub text_none : (n : ℕ) → first_refusal n (tree_length n) ≢ 0 → size_text n ≡ no_size_text
unfolding size_text
text_none n h = unless_refused_lem (first_refusal n (tree_length n)) (lines_text n (length (trees_of n))) no_size_text h
