-- What a walk tells of the brackets that it passed.
use mathlib.Core.Path.{◌≡◌, ◌∙◌}
use mathlib.Core.Bool.{Bool, true}
use mathlib.Core.List.{List}
use Prim.Native.Nat.{ℕ, zero, suc, ◌+◌, ◌-◌, ◌*◌, ◌≤◌, ◌<◌}
use native.Mathlib.Omega.{arith}
use lib.ListN.{length}
use Rattle.suffix.proofs.Cases.{Same, same, other, same?, Test, holds, fails, test}
use Rattle.refusal.specs.Conditions.{bit_of}
use Rattle.shape.proofs.Heights.{opened, Above, OneBelow, opens, shuts}
use Rattle.search.specs.Searching.{fell_at, ended_at, walk_on, walk_back, forward_found, backward_found}
use Rattle.search.specs.declared.Found.{Found}
use Rattle.search.proofs.Walks.{on_opening, on_closing, back_opening, back_closing}
use Rattle.search.proofs.Within.{Within, forward_is, backward_is}

-- on from bit k and the sum v: the sum falls at one bit, and not before; or it does not fall up to bit e, where it is w
pub record FallsOn (g : ℕ → Bool) (k v at : ℕ) : Type 0 where
  pub after : k < at
  pub clear : (j : ℕ) → k ≤ j → j < at → Above g k v j
  pub falls : OneBelow g k v at

pub record EndsOn (g : ℕ → Bool) (k v e w : ℕ) : Type 0 where
  pub clear : (j : ℕ) → k ≤ j → j ≤ e → Above g k v j
  pub sum : e + w + 2 * opened g k ≡ v + k + 2 * opened g e

pub data TellsOn (g : ℕ → Bool) (k v e : ℕ) : Found → Type 0 where
  fell : (at : ℕ) → at ≤ e → FallsOn g k v at → TellsOn g k v e (fell_at at)
  ended : (w : ℕ) → EndsOn g k v e w → TellsOn g k v e (ended_at e w)

module _ (g : ℕ → Bool) where
  -- one bracket more at the start
  module _ (k v v' e : ℕ) (step : v' + suc k + 2 * opened g k ≡ v + k + 2 * opened g (suc k)) where
    at_start : (j : ℕ) → k ≤ j → (suc k ≤ j → Above g (suc k) v' j) → Above g k v j
    at_start j h f = go (same? j k)
      where
        go : Same j k → Above g k v j
        go (same z) = rw z (omega arith)
        go (other z) = omega (arith, step, f (omega arith))

    more_on : {r : Found} → TellsOn g (suc k) v' e r → TellsOn g k v e r
    more_on (fell at h F) =
        fell at h
        (record { after = omega (arith, F.after); clear = λ j a b. at_start j a (λ c. F.clear j c b); falls = omega (arith, step, F.falls) })
    more_on (ended w E) = ended w (record { clear = λ j a b. at_start j a (λ c. E.clear j c b); sum = omega (arith, step, E.sum) })

  tells_on : (m k v e : ℕ) → k + m ≡ e → TellsOn g k v e (walk_on g m k v)
  unfolding walk_on
  tells_on zero k v e q = rw z (ended v (record { clear = λ j a b. (let y : j ≡ e = omega arith in rw y (omega arith)); sum = omega arith }))
    where
      z : k ≡ e
      z = omega arith
  tells_on (suc m) k v e q = go (test (g k)) v (λ w. tells_on m (suc k) w e (omega arith))
    where
      go : Test (g k) → (v : ℕ) → ((w : ℕ) → TellsOn g (suc k) w e (walk_on g m (suc k) w)) → TellsOn g k v e (walk_on g (suc m) k v)
      go (holds b) v ih = rw (on_opening g m k v b) (more_on k v (suc v) e (omega (arith, opens g k b)) (ih (suc v)))
      go (fails b) zero ih =
          rw (on_closing g m k 0 b)
          (fell (suc k) (omega arith)
          (record { after = omega arith; clear = λ j a c. (let y : j ≡ k = omega arith in rw y (omega arith)); falls = omega (arith, shuts g k b) }))
      go (fails b) (suc v) ih = rw (on_closing g m k (suc v) b) (more_on k (suc v) v e (omega (arith, shuts g k b)) (ih v))

-- back from bit k: at an opening the sum falls; or it does not fall up to bit 0
pub record FallsBack (g : ℕ → Bool) (k v at : ℕ) : Type 0 where
  pub before : at < k
  pub is_open : g at ≡ true
  pub clear : (j : ℕ) → at < j → j ≤ k → Above g k v j
  pub falls : OneBelow g k v at

pub record EndsBack (g : ℕ → Bool) (k v : ℕ) : Type 0 where
  pub clear : (j : ℕ) → j ≤ k → Above g k v j

pub data TellsBack (g : ℕ → Bool) (k v : ℕ) : Found → Type 0 where
  fell : (at : ℕ) → FallsBack g k v at → TellsBack g k v (fell_at at)
  ended : (w : ℕ) → EndsBack g k v → TellsBack g k v (ended_at 0 w)

module _ (g : ℕ → Bool) where
  -- one bracket more at the end
  module _ (k v v' : ℕ) (step : v' + k + 2 * opened g (suc k) ≡ v + suc k + 2 * opened g k) where
    at_end : (j : ℕ) → j ≤ suc k → (j ≤ k → Above g k v' j) → Above g (suc k) v j
    at_end j h f = go (same? j (suc k))
      where
        go : Same j (suc k) → Above g (suc k) v j
        go (same z) = rw z (omega arith)
        go (other z) = omega (arith, step, f (omega arith))

    more_back : {r : Found} → TellsBack g k v' r → TellsBack g (suc k) v r
    more_back (fell at F) =
        fell at
        (record { before = omega (arith, F.before); is_open = F.is_open; clear = λ j a b. at_end j b (λ c. F.clear j a c); falls = omega (arith, step, F.falls) })
    more_back (ended w E) = ended w (record { clear = λ j b. at_end j b (λ c. E.clear j c) })

  tells_back : (k v : ℕ) → TellsBack g k v (walk_back g k v)
  unfolding walk_back
  tells_back zero v = ended v (record { clear = λ j b. (let y : j ≡ 0 = omega arith in rw y (omega arith)) })
  tells_back (suc k) v = go (test (g k)) v (λ w. tells_back k w)
    where
      go : Test (g k) → (v : ℕ) → ((w : ℕ) → TellsBack g k w (walk_back g k w)) → TellsBack g (suc k) v (walk_back g (suc k) v)
      go (holds b) zero ih =
          rw (back_opening g k 0 b)
          (fell k (record { before = omega arith; is_open = b; clear = λ j a c. (let y : j ≡ suc k = omega arith in rw y (omega arith)); falls = omega (arith, opens g k b) }))
      go (holds b) (suc v) ih = rw (back_opening g k (suc v) b) (more_back k (suc v) v (omega (arith, opens g k b)) (ih v))
      go (fails b) v ih = rw (back_closing g k v b) (more_back k v (suc v) (omega (arith, shuts g k b)) (ih (suc v)))

-- what a search finds that is asked for in order
pub forward_tells : (t : List ℕ) (a e : ℕ) → Within (length t) a e → {r : Found} → r ≡ forward_found t a e → TellsOn (bit_of t) a 0 e r
forward_tells t a e W q = rw (q ∙ forward_is t a e W) (tells_on (bit_of t) (e - a) a 0 e (omega (arith, W.ordered)))

pub backward_tells : (t : List ℕ) (a : ℕ) → Within (length t) 0 a → {r : Found} → r ≡ backward_found t a → TellsBack (bit_of t) a 0 r
backward_tells t a W q = rw (q ∙ backward_is t a W) (tells_back (bit_of t) a 0)
