-- What is in a table that is cleared from a place on.
use mathlib.Core.Path.{◌≡◌, refl, sym, ap, ◌∙◌}
use mathlib.Core.List.{List, [], ◌∷◌}
use Prim.Native.Nat.{ℕ, zero, suc, ◌-◌, ◌≤◌, ◌<◌}
use native.Mathlib.Omega.{arith}
use borrow.Rule.Slice.PartMut.{put_mid}
use Rattle.std.proofs.lemmas.List.{drop_all, append-nil}
use lib.ListN.{length, get_or, set, replicate}
use Rattle.entries.specs.Cleared.{cleared_from}

pub cleared_length : (k v : ℕ) (t : List ℕ) → length (cleared_from k v t) ≡ length t
unfolding cleared_from
cleared_length k v [] = refl
cleared_length zero v (x ∷ t) = ap suc (cleared_length zero v t)
cleared_length (suc k) v (x ∷ t) = ap suc (cleared_length k v t)

-- no place is left, and every place is
pub cleared_none : (k v : ℕ) (t : List ℕ) → length t ≤ k → cleared_from k v t ≡ t
unfolding cleared_from
cleared_none k v [] h = refl
cleared_none zero v (x ∷ t) h = absurd (omega arith)
cleared_none (suc k) v (x ∷ t) h = ap (λ u. x ∷ u) (cleared_none k v t (omega arith))

pub cleared_all : (v : ℕ) (t : List ℕ) → cleared_from 0 v t ≡ replicate (length t) v
unfolding cleared_from
cleared_all v [] = refl
cleared_all v (x ∷ t) = ap (λ u. v ∷ u) (cleared_all v t)

-- a place before k is read, and written
pub cleared_get : (k v i : ℕ) (t : List ℕ) → i < k → get_or (cleared_from k v t) i 0 ≡ get_or t i 0
unfolding cleared_from
cleared_get k v i [] h = refl
cleared_get zero v i (x ∷ t) h = absurd (omega arith)
cleared_get (suc k) v zero (x ∷ t) h = refl
cleared_get (suc k) v (suc i) (x ∷ t) h = cleared_get k v i t (omega arith)

-- and one from k on
pub cleared_value : (k v i : ℕ) (t : List ℕ) → k ≤ i → i < length t → get_or (cleared_from k v t) i 0 ≡ v
unfolding cleared_from
cleared_value k v i [] h g = absurd (omega arith)
cleared_value zero v zero (x ∷ t) h g = refl
cleared_value zero v (suc i) (x ∷ t) h g = cleared_value zero v i t (omega arith) (omega arith)
cleared_value (suc k) v zero (x ∷ t) h g = absurd (omega arith)
cleared_value (suc k) v (suc i) (x ∷ t) h g = cleared_value k v i t (omega arith) (omega arith)

pub cleared_set : (k v i x : ℕ) (t : List ℕ) → i < k → cleared_from k v (set t i x) ≡ set (cleared_from k v t) i x
unfolding cleared_from
cleared_set k v i x [] h = refl
cleared_set zero v i x (z ∷ t) h = absurd (omega arith)
cleared_set (suc k) v zero x (z ∷ t) h = refl
cleared_set (suc k) v (suc i) x (z ∷ t) h = ap (λ u. z ∷ u) (cleared_set k v i x t (omega arith))

-- place k is written: with any x, and with v
pub cleared_more : (k v x : ℕ) (t : List ℕ) → cleared_from (suc k) v (set t k x) ≡ set (cleared_from k v t) k x
unfolding cleared_from
cleared_more k v x [] = refl
cleared_more zero v x (z ∷ t) = refl
cleared_more (suc k) v x (z ∷ t) = ap (λ u. z ∷ u) (cleared_more k v x t)

pub cleared_same : (k v : ℕ) (t : List ℕ) → cleared_from (suc k) v (set t k v) ≡ cleared_from k v t
unfolding cleared_from
cleared_same k v [] = refl
cleared_same zero v (z ∷ t) = refl
cleared_same (suc k) v (z ∷ t) = ap (λ u. z ∷ u) (cleared_same k v t)

-- the part from k on is filled
pub filled : (k v : ℕ) (t u : List ℕ) → k ≤ length t → u ≡ replicate (length t - k) v → put_mid k (length t - k) t u ≡ cleared_from k v t
unfolding cleared_from
filled zero v t u h e = rw (e, drop_all (length t - 0) t (omega arith)) (append-nil _ ∙ ap (λ n. replicate n v) (omega arith) ∙ sym (cleared_all v t))
filled (suc k) v [] u h e = absurd (omega arith)
filled (suc k) v (x ∷ t) u h e =
    let z : suc (length t) - suc k ≡ length t - k = omega arith in
    rw z (ap (λ w. x ∷ w) (filled k v t u (omega arith) (rw z at e)))
