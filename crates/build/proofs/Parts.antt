-- A tree that is lent in part, or not at all: it is written as far as it goes.
use mathlib.Core.Path.{◌≡◌, refl, ap, ◌∙◌}
use mathlib.Core.List.{List, [], ◌∷◌}
use Prim.Native.Nat.{ℕ, zero, suc, ◌+◌, ◌≤◌, ◌<◌}
use native.Mathlib.Omega.{arith}
use lib.ListN.{length, get_or, set, take, replicate, length-take}
use lib.Seq.{get_or-take, take-length}

pub replicate_part : (k n v : ℕ) → k ≤ n → take k (replicate n v) ≡ replicate k v
replicate_part zero n v h = refl
replicate_part (suc k) zero v h = absurd (omega arith)
replicate_part (suc k) (suc n) v h = ap (λ u. v ∷ u) (replicate_part k n v (omega arith))

-- all of it
pub part_whole : (k : ℕ) (b : List ℕ) {t : List ℕ} → t ≡ take k b → k ≡ length b → t ≡ b
part_whole k b q e = q ∙ ap (λ i. take i b) e ∙ take-length b

-- place j, where the part has it, is raised by w
pub part_room : (k : ℕ) (b : List ℕ) (j w : ℕ) → get_or b j 0 + w < 256 → j < length (take k b) → get_or (take k b) j 0 + w < 256
part_room k b j w h i = let z : j < k = omega (arith, i, length-take k b) in omega (arith, h, get_or-take k b j 0 z)

pub part_raised : (k : ℕ) (b : List ℕ) (j w : ℕ) → set (take k b) j (get_or (take k b) j 0 + w) ≡ take k (set b j (get_or b j 0 + w))
part_raised zero b j w = refl
part_raised (suc k) [] j w = refl
part_raised (suc k) (x ∷ b) zero w = refl
part_raised (suc k) (x ∷ b) (suc j) w = ap (λ u. x ∷ u) (part_raised k b j w)
