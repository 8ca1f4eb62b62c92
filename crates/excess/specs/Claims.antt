-- What is claimed of bytes of brackets; the law of its name, in small letters with `_`, proves it in proofs/Halves.antt.
use Rattle.std.specs.Prelude.{◌≡◌, ℕ, ◌/◌, ◌%◌, ◌+ℤ◌}
use Rattle.excess.specs.Excess.{lower, byte_excess, byte_min_excess, half_excess, half_min_excess}

-- Document 02, T-05: "combine two. The rule about each byte's sum and lowest running sum holds as before": the lower half of a byte comes first
abbrev pub HalvesMakeBytes : Type 0
HalvesMakeBytes =
    (b : ℕ) → (byte_excess b ≡ half_excess (b % 16) +ℤ half_excess (b / 16))
    × (byte_min_excess b ≡ lower (half_min_excess (b % 16)) (half_excess (b % 16) +ℤ half_min_excess (b / 16)))
