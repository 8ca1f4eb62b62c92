-- How many lists of brackets close all that is open.
use mathlib.Core.Path.{◌≡◌, refl, ap}
use Prim.Native.Nat.{ℕ, zero, suc, ◌+◌, ◌*◌}
use native.Mathlib.Omega.{arith}
use lib.ListN.{length}
use Rattle.all_trees.specs.Trees.{chosen, all_brackets}
use Rattle.all_trees.specs.Claims.{factorial}
use Rattle.all_trees.proofs.BracketLists.{both_length}
use Rattle.all_trees.proofs.Closing.{kept, fallen, kept_more, kept_none}

-- of the lists of m = d + 2 j brackets (d + 1) m! / ((d + j + 1)! j!) close all, where d are open before them
abbrev Counted : ℕ → Type 0
Counted m = (d j : ℕ) → m ≡ d + 2 * j → length (kept d m) * (factorial (suc (d + j)) * factorial j) ≡ suc d * factorial m

module _ (m : ℕ) (c : Counted m) where
  -- those that begin with an opening
  openings : (d j : ℕ) → suc m ≡ d + 2 * j → length (kept (suc d) m) * (factorial (suc (d + j)) * factorial j) ≡ j * (suc (suc d) * factorial m)
  openings d zero e = rw (kept_none m (suc d) (omega arith)) (omega arith)
  openings d (suc j) e =
      let z : suc d + j ≡ d + suc j = omega arith in
      omega (arith, ap (suc j *◌) (rw z at (c (suc d) j (omega arith))))

  -- those that begin with a closing
  closings : (d j : ℕ) → suc m ≡ d + 2 * j → length (fallen d m) * (factorial (suc (d + j)) * factorial j) ≡ suc (d + j) * (d * factorial m)
  closings zero j e = omega arith
  closings (suc d) j e =
      let z : suc d + j ≡ suc (d + j) = omega arith in
      rw z (omega (arith, ap (suc (suc (d + j)) *◌) (c d j (omega arith))))

pub counted : (m : ℕ) → Counted m
unfolding kept all_brackets chosen
counted zero zero zero e = refl
counted zero zero (suc j) e = absurd (omega arith)
counted zero (suc d) j e = absurd (omega arith)
counted (suc m) d j e =
    rw (kept_more d m, both_length (kept (suc d) m) (fallen d m))
    (omega (arith, openings m (counted m) d j e, closings m (counted m) d j e, ap (λ x. suc d * (x * factorial m)) e))
