-- What a search through the whole tree tells of it.
use mathlib.Core.Path.{◌≡◌, refl}
use mathlib.Core.Bool.{true, false, true≢false, false≢true}
use mathlib.Core.List.{List}
use Prim.Native.Nat.{ℕ, ◌*◌, ◌≤◌}
use native.Mathlib.Omega.{arith}
use borrow.Author.Tests.{eqb-true, eqb-false}
use lib.ListN.{length}
use Rattle.suffix.specs.Tree.{tree_length}
use Rattle.refusal.specs.Conditions.{bit_of, spare_bit_set, closed_too_early, left_open, flaw_number}
use Rattle.shape.proofs.Heights.{opened_none}
use Rattle.shape.proofs.Conditions.{early, not_early, left_open_lem, all_closed, flaw_7, flaw_8, flaw_0}
use Rattle.search.specs.declared.Found.{Found}
use Rattle.search.specs.Searching.{forward_found}
use Rattle.search.proofs.Laws.{EndsOn, TellsOn, fell, ended, forward_tells}

module _ (n : ℕ) (t : List ℕ) where
  whole_fell : {r : Found} → TellsOn (bit_of t) 0 0 (2 * n) r → r.fell ≡ true → closed_too_early n t ≡ true
  whole_fell (fell at h F) e = early n t at h (omega (arith, F.falls, opened_none (bit_of t)))
  whole_fell (ended w E) e = absurd (false≢true e)

  above : {w : ℕ} → EndsOn (bit_of t) 0 0 (2 * n) w → closed_too_early n t ≡ false
  above E = not_early n t (λ k h. omega (arith, E.clear k (omega arith) (omega arith), opened_none (bit_of t)))

  whole_above : {r : Found} → TellsOn (bit_of t) 0 0 (2 * n) r → r.fell ≡ false → closed_too_early n t ≡ false
  whole_above (fell at h F) e = absurd (true≢false e)
  whole_above (ended w E) e = above E

  whole_closed : {r : Found} → TellsOn (bit_of t) 0 0 (2 * n) r → r.closed ≡ true → left_open n t ≡ false
  whole_closed (fell at h F) e = absurd (false≢true e)
  whole_closed (ended w E) e = all_closed n t (omega (arith, eqb-true w 0 e, E.sum, opened_none (bit_of t)))

  whole_open : {r : Found} → TellsOn (bit_of t) 0 0 (2 * n) r → r.fell ≡ false → r.closed ≡ false → left_open n t ≡ true
  whole_open (fell at h F) e c = absurd (true≢false e)
  whole_open (ended w E) e c = left_open_lem n t (above E) (omega (arith, eqb-false w 0 c, E.sum, opened_none (bit_of t)))

  -- the flaw of a tree without spare bits, by a search through the whole of it
  module _ (few : n ≤ 1000000) (bytes : length t ≡ tree_length n) (spare : spare_bit_set n t ≡ false) where
    tells : TellsOn (bit_of t) 0 0 (2 * n) (forward_found t 0 (2 * n))
    tells = forward_tells t 0 (2 * n) (record { few = omega arith; inside = omega arith; ordered = omega arith }) refl

    pub flaw_fell : (forward_found t 0 (2 * n)).fell ≡ true → flaw_number n t ≡ 7
    flaw_fell e = flaw_7 n t spare (whole_fell tells e)

    pub flaw_closed : (forward_found t 0 (2 * n)).fell ≡ false → (forward_found t 0 (2 * n)).closed ≡ true → flaw_number n t ≡ 0
    flaw_closed e c = flaw_0 n t spare (whole_above tells e) (whole_closed tells c)

    pub flaw_open : (forward_found t 0 (2 * n)).fell ≡ false → (forward_found t 0 (2 * n)).closed ≡ false → flaw_number n t ≡ 8
    flaw_open e c = flaw_8 n t spare (whole_above tells e) (whole_open tells e c)
