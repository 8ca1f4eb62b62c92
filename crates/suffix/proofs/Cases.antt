-- Ways in which numbers and tests fall out, for proofs by cases.
use mathlib.Core.Path.{◌≡◌, refl, sym}
use mathlib.Core.Logic.{◌≢◌}
use mathlib.Core.Bool.{Bool, true, false, ◌&&◌, true≢false}
use Prim.Native.Nat.{ℕ, zero, suc, ◌≤◌, ◌<◌}
use native.Mathlib.Omega.{arith}

-- two numbers compare in one of three ways
pub data Tri (a b : ℕ) : Type 0 where
  lt : a < b → Tri a b
  eq : a ≡ b → Tri a b
  gt : b < a → Tri a b

pub tri : (a b : ℕ) → Tri a b
tri zero zero = eq refl
tri zero (suc b) = lt (omega arith)
tri (suc a) zero = gt (omega arith)
tri (suc a) (suc b) = up (tri a b)
  where
    up : Tri a b → Tri (suc a) (suc b)
    up (lt h) = lt (omega arith)
    up (eq h) = eq (omega arith)
    up (gt h) = gt (omega arith)

-- they are equal or not
pub data Same (a b : ℕ) : Type 0 where
  same : a ≡ b → Same a b
  other : a ≢ b → Same a b

pub same? : (a b : ℕ) → Same a b
same? a b = go (tri a b)
  where
    go : Tri a b → Same a b
    go (lt h) = other (omega arith)
    go (eq h) = same h
    go (gt h) = other (omega arith)

-- a test holds or fails
pub data Test (b : Bool) : Type 0 where
  holds : b ≡ true → Test b
  fails : b ≡ false → Test b

pub test : (b : Bool) → Test b
test true = holds refl
test false = fails refl

-- a ≤ b where the contrary cannot be
pub le_unless : (a b : ℕ) → (b < a → ⊥) → a ≤ b
le_unless a b q = go (tri a b)
  where
    go : Tri a b → a ≤ b
    go (lt h) = omega arith
    go (eq h) = omega arith
    go (gt h) = absurd (q h)

pub both_true : (a b : Bool) → a && b ≡ true → (a ≡ true) × (b ≡ true)
both_true true true e = (refl, refl)
both_true true false e = absurd (true≢false (sym e))
both_true false b e = absurd (true≢false (sym e))
