-- Where all symbols of a string differ, no suffix matches another.
use mathlib.Core.Path.{◌≡◌, refl, ◌∙◌}
use mathlib.Core.Logic.{◌⊎◌, inl, inr}
use mathlib.Core.List.{List}
use Prim.Native.Nat.{ℕ, ◌+◌, ◌<◌}
use native.Mathlib.Omega.{arith}
use lib.ListN.{length, get_or}
use Rattle.suffix.specs.Order.{lce}
use Rattle.suffix.specs.Nearest.{previous, next, previous_match, next_match}
use Rattle.suffix.proofs.Cases.{Same, same, other, same?}
use Rattle.suffix.proofs.Sequence.{agree_none}
use Rattle.suffix.proofs.Order.{extended, extended_in, lce_is}
use Rattle.suffix.proofs.Nearest.{previous_low, next_at_lem, next_le}
use Rattle.suffix.proofs.Rows.{previous_match_none, previous_match_some, next_match_none, next_match_some}

module _ (s : List ℕ) (differ : (i j : ℕ) → i < length s → j < length s → get_or s i 0 ≡ get_or s j 0 → i ≡ j) where
  no_match : (i j : ℕ) → i < j → j < length s → lce s i j ≡ 0
  no_match i j h w =
      lce_is s i j (omega arith) (omega arith) (omega arith) 0
      (record { same = agree_none (extended s); differ = λ e. (let z = differ i j (omega arith) w (omega (arith, first i (omega arith), first j w, e)) in omega arith) })
    where
      first : (i : ℕ) → i < length s → extended s (i + 0) ≡ 1 + get_or s i 0
      first i h = let z : i + 0 ≡ i = omega arith in rw z (omega (arith, extended_in s i h))

  pub no_previous_match : (i : ℕ) → i < length s → previous_match s i ≡ 0
  no_previous_match i h = go (previous_low s i h)
    where
      go : (previous s i < i) ⊎ (previous s i ≡ length s) → previous_match s i ≡ 0
      go (inl w) = previous_match_some s i (previous s i) (omega arith) refl ∙ no_match (previous s i) i w h
      go (inr w) = previous_match_none s i w

  pub no_next_match : (i : ℕ) → i < length s → next_match s i ≡ 0
  no_next_match i h = go (same? (next s i) (length s))
    where
      go : Same (next s i) (length s) → next_match s i ≡ 0
      go (same z) = next_match_none s i z
      go (other z) = next_match_some s i (next s i) z refl ∙ no_match i (next s i) (next_at_lem s i h).after (omega (arith, next_le s i))
