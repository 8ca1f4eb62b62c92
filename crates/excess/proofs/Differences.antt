-- Differences of natural numbers, as integers.
use mathlib.Core.Path.{◌≡◌, sym, ap, ◌∙◌}
use Prim.Native.Nat.{ℕ, suc, ◌+◌, ◌-◌, ◌≤◌, ◌<◌}
use native.Mathlib.Omega.{arith}
use lib.Dec.{ltb}
use lib.IntN.{ℤ, pos, negsuc, sub_ℕ, neg_ℤ, ◌+ℤ◌, ◌-ℤ◌}
use lib.Signed.{mag, lt_z}
use borrow.Author.Tests.{lt-ltb, le-ltb}
use Rattle.suffix.proofs.Cases.{Tri, lt, eq, gt, tri}

pub sub_up : (a b : ℕ) → b ≤ a → sub_ℕ a b ≡ pos (a - b)
sub_up a b h = rw (le-ltb a b h)

pub sub_down : (a b : ℕ) → a < b → sub_ℕ a b ≡ negsuc (b - suc a)
sub_down a b h = rw (lt-ltb a b h)

pub sub_same : (a b c d : ℕ) → a + d ≡ c + b → sub_ℕ a b ≡ sub_ℕ c d
sub_same a b c d e = go (tri a b)
  where
    go : Tri a b → sub_ℕ a b ≡ sub_ℕ c d
    go (lt h) = rw (sub_down a b h, sub_down c d (omega arith)) (ap negsuc (omega arith))
    go (eq h) = rw (sub_up a b (omega arith), sub_up c d (omega arith)) (ap pos (omega arith))
    go (gt h) = rw (sub_up a b (omega arith), sub_up c d (omega arith)) (ap pos (omega arith))

pub add_sub : (s a b : ℕ) → pos s +ℤ sub_ℕ a b ≡ sub_ℕ (s + a) b
add_sub s a b = go (tri a b)
  where
    up : b ≤ a → pos s +ℤ sub_ℕ a b ≡ sub_ℕ (s + a) b
    up h = rw (sub_up a b h, sub_up (s + a) b (omega arith)) (ap pos (omega arith))

    go : Tri a b → pos s +ℤ sub_ℕ a b ≡ sub_ℕ (s + a) b
    go (lt h) = rw (sub_down a b h) (sub_same s (suc (b - suc a)) (s + a) b (omega arith))
    go (eq h) = up (omega arith)
    go (gt h) = up (omega arith)

pub neg_sub : (a b : ℕ) → neg_ℤ (sub_ℕ a b) ≡ sub_ℕ b a
neg_sub a b = go (tri a b)
  where
    go : Tri a b → neg_ℤ (sub_ℕ a b) ≡ sub_ℕ b a
    go (lt h) = rw (sub_down a b h, sub_up b a (omega arith)) (ap pos (omega arith))
    go (eq h) = let z : a - b ≡ 0 = omega arith in rw (sub_up a b (omega arith), sub_up b a (omega arith), z) (ap pos (omega arith))
    go (gt h) = let z : a - b ≡ suc (a - suc b) = omega arith in rw (sub_up a b (omega arith), sub_down b a h, z)

pub sub_sub : (s a b : ℕ) → pos s -ℤ sub_ℕ a b ≡ sub_ℕ (s + b) a
sub_sub s a b = ap (λ z. pos s +ℤ z) (neg_sub a b) ∙ add_sub s b a

-- the sum of two differences
pub sub_plus : (a b c d : ℕ) → sub_ℕ a b +ℤ sub_ℕ c d ≡ sub_ℕ (a + c) (b + d)
sub_plus a b c d = go (tri a b) (tri c d)
  where
    up : b ≤ a → sub_ℕ a b +ℤ sub_ℕ c d ≡ sub_ℕ (a + c) (b + d)
    up h = rw (sub_up a b h) (add_sub (a - b) c d ∙ sub_same (a - b + c) d (a + c) (b + d) (omega arith))

    down : a < b → d ≤ c → sub_ℕ a b +ℤ sub_ℕ c d ≡ sub_ℕ (a + c) (b + d)
    down h k = rw (sub_down a b h, sub_up c d k) (sub_same (c - d) (suc (b - suc a)) (a + c) (b + d) (omega arith))

    go : Tri a b → Tri c d → sub_ℕ a b +ℤ sub_ℕ c d ≡ sub_ℕ (a + c) (b + d)
    go (lt h) (lt k) = rw (sub_down a b h, sub_down c d k, sub_down (a + c) (b + d) (omega arith)) (ap negsuc (omega arith))
    go (lt h) (eq k) = down h (omega arith)
    go (lt h) (gt k) = down h (omega arith)
    go (eq h) t = up (omega arith)
    go (gt h) t = up (omega arith)

-- which of two differences is less
pub sub_less : (a b c d : ℕ) → lt_z (sub_ℕ a b) (sub_ℕ c d) ≡ ltb (a + d) (c + b)
sub_less a b c d = go (tri a b) (tri c d)
  where
    same_test : (w x y z : ℕ) → (w < x → y < z) → (x ≤ w → z ≤ y) → ltb w x ≡ ltb y z
    same_test w x y z f g = pick (tri w x)
      where
        pick : Tri w x → ltb w x ≡ ltb y z
        pick (lt h) = lt-ltb w x h ∙ sym (lt-ltb y z (f h))
        pick (eq h) = le-ltb w x (omega arith) ∙ sym (le-ltb y z (g (omega arith)))
        pick (gt h) = le-ltb w x (omega arith) ∙ sym (le-ltb y z (g (omega arith)))

    both : b ≤ a → d ≤ c → lt_z (sub_ℕ a b) (sub_ℕ c d) ≡ ltb (a + d) (c + b)
    both h k = rw (sub_up a b h, sub_up c d k) (same_test (a - b) (c - d) (a + d) (c + b) (λ w. omega arith) (λ w. omega arith))

    go : Tri a b → Tri c d → lt_z (sub_ℕ a b) (sub_ℕ c d) ≡ ltb (a + d) (c + b)
    go (lt h) (lt k) = rw (sub_down a b h, sub_down c d k) (same_test (d - suc c) (b - suc a) (a + d) (c + b) (λ w. omega arith) (λ w. omega arith))
    go (lt h) (eq k) = rw (sub_down a b h, sub_up c d (omega arith)) (sym (lt-ltb (a + d) (c + b) (omega arith)))
    go (lt h) (gt k) = rw (sub_down a b h, sub_up c d (omega arith)) (sym (lt-ltb (a + d) (c + b) (omega arith)))
    go (eq h) (lt k) = rw (sub_up a b (omega arith), sub_down c d k) (sym (le-ltb (a + d) (c + b) (omega arith)))
    go (gt h) (lt k) = rw (sub_up a b (omega arith), sub_down c d k) (sym (le-ltb (a + d) (c + b) (omega arith)))
    go (eq h) (eq k) = both (omega arith) (omega arith)
    go (eq h) (gt k) = both (omega arith) (omega arith)
    go (gt h) (eq k) = both (omega arith) (omega arith)
    go (gt h) (gt k) = both (omega arith) (omega arith)

pub mag_sub : (a b : ℕ) → mag (sub_ℕ a b) ≤ a + b
mag_sub a b = go (tri a b)
  where
    go : Tri a b → mag (sub_ℕ a b) ≤ a + b
    go (lt h) = rw (sub_down a b h) (omega arith)
    go (eq h) = rw (sub_up a b (omega arith)) (omega arith)
    go (gt h) = rw (sub_up a b (omega arith)) (omega arith)

-- a sum is no farther from 0 than its parts together
pub mag_plus : (z : ℤ) (c d : ℕ) → mag (z +ℤ sub_ℕ c d) ≤ suc (mag z) + c + d
mag_plus (pos v) c d = rw (add_sub v c d) (omega (arith, mag_sub (v + c) d))
mag_plus (negsuc v) c d =
    let e : negsuc v ≡ sub_ℕ 0 (suc v) = ap negsuc {x = v} {y = suc v - 1} (omega arith) ∙ sym (sub_down 0 (suc v) (omega arith)) in
    rw (ap (λ z. z +ℤ sub_ℕ c d) e ∙ sub_plus 0 (suc v) c d) (omega (arith, mag_sub (0 + c) (suc v + d)))
