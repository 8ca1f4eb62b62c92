-- Where the brackets of the tree open: the opening of r stands at bit 2 r + 1 less the brackets that are then open. Row r sets that
-- bit, which was 0, and changes no other.
use mathlib.Core.Path.{◌≡◌, refl, sym, ◌∙◌}
use mathlib.Core.Logic.{◌≢◌}
use mathlib.Core.Bool.{Bool, true, false}
use mathlib.Core.List.{List, ◌∷◌, ◌++◌}
use Prim.Native.Nat.{ℕ, zero, suc, ◌+◌, ◌-◌, ◌<◌}
use native.Mathlib.Nat.{add-zero}
use native.Mathlib.Omega.{arith}
use lib.ListN.{length, get_or, replicate, replicate-append-replicate}
use Rattle.suffix.specs.Search.{count_below}
use Rattle.suffix.specs.Tree.{tree_after, closed_by, unclosed, rows_write}
use Rattle.suffix.proofs.Levels.{level, closed_by_lem, level_is}
use Rattle.suffix.proofs.Written.{rows_write_lem}

-- bit k is set from before to after, and no other is changed
pub record SetsBit (before after : List Bool) (k : ℕ) : Type 0 where
  pub was : get_or before k false ≡ false
  pub is : get_or after k false ≡ true
  pub others : (j : ℕ) → j ≢ k → get_or after j false ≡ get_or before j false

one_more : (x : Bool) {b a : List Bool} {k : ℕ} → SetsBit b a k → SetsBit (x ∷ b) (x ∷ a) (suc k)
one_more x {b} {a} {k} S = record { was = S.was; is = S.is; others = others }
  where
    others : (j : ℕ) → j ≢ suc k → get_or (x ∷ a) j false ≡ get_or (x ∷ b) j false
    others zero h = refl
    others (suc j) h = S.others j (omega arith)

closings : (n k : ℕ) {b a : List Bool} → SetsBit b a k → SetsBit (replicate n false ++ b) (replicate n false ++ a) (n + k)
closings zero k S = let z : 0 + k ≡ k = omega arith in rw z S
closings (suc n) k S = let z : suc n + k ≡ suc (n + k) = omega arith in rw z (one_more false (closings n k S))

no_bit : (n k : ℕ) → get_or (replicate n false) k false ≡ false
no_bit zero k = refl
no_bit (suc n) zero = refl
no_bit (suc n) (suc k) = no_bit n k

first : (m n : ℕ) → SetsBit (replicate m false) (true ∷ replicate n false) 0
first m n = record { was = no_bit m 0; is = refl; others = others }
  where
    others : (j : ℕ) → j ≢ 0 → get_or (true ∷ replicate n false) j false ≡ get_or (replicate m false) j false
    others zero h = absurd (h refl)
    others (suc j) h = no_bit n j ∙ sym (no_bit m (suc j))

-- the bit at which i + t opens, counted from where row i starts to write
record Opening (y : List ℕ) (i t : ℕ) : Type 0 where
  bit : ℕ
  at : bit + level y (i + t) ≡ suc (unclosed y i + t + t)
  sets : SetsBit (rows_write y i t) (rows_write y i (suc t)) bit

opening : (y : List ℕ) (i t : ℕ) → i + t < length y → Opening y i t
unfolding rows_write
opening y i zero h =
    let z : i + 0 ≡ i = omega arith in
    let e : closed_by y i + (unclosed y i - closed_by y i) ≡ unclosed y i = omega (arith, closed_by_lem y i (omega arith), level_is y i (omega arith)) in
    record {
      bit = closed_by y i;
      at = rw z (omega (arith, closed_by_lem y i (omega arith)));
      sets =
          rw (replicate-append-replicate (closed_by y i) (unclosed y i - closed_by y i) false, e, add-zero) at
          (closings (closed_by y i) 0 (first (unclosed y i - closed_by y i) (level y i)));
    }
opening y i (suc t) h =
    let O = opening y (suc i) t (omega arith) in
    let z : i + suc t ≡ suc i + t = omega arith in
    record {
      bit = closed_by y i + suc O.bit;
      at = rw z (omega (arith, O.at, closed_by_lem y i (omega arith)));
      sets = closings (closed_by y i) (suc O.bit) (one_more true O.sets);
    }

pub row_sets : (y : List ℕ) (r k : ℕ) → r < length y → k + level y r ≡ suc (r + r) → SetsBit (tree_after y r) (tree_after y (suc r)) k
unfolding unclosed count_below
row_sets y r k h e =
    let O = opening y 0 r (omega arith) in
    let z : 0 + r ≡ r = omega arith in
    let b : O.bit ≡ k = omega (arith, rw z at O.at) in
    rw (b, rows_write_lem y r (omega arith), rows_write_lem y (suc r) h) at O.sets
