-- The spare bits of a tree are the high bits of its last byte.
use mathlib.Core.Path.{◌≡◌, refl, sym, ap, ◌∙◌}
use mathlib.Core.Logic.{◌≢◌}
use mathlib.Core.Bool.{Bool, true, false, not, beq, true≢false}
use mathlib.Core.List.{List}
use Prim.Native.Nat.{ℕ, ◌+◌, ◌-◌, ◌*◌, ◌/◌, ◌%◌, ◌^◌, ◌<◌}
use native.Mathlib.Omega.{arith}
use lib.Dec.{eqb}
use lib.ListN.{length, get_or}
use Rattle.suffix.specs.Search.{any_below, all_below}
use Rattle.suffix.specs.Tree.{tree_length}
use Rattle.suffix.proofs.Search.{all_at, any_same}
use Rattle.refusal.specs.Conditions.{byte_bit, bit_of, spare_bit_set}

pub no_spare_bits : (n : ℕ) (t : List ℕ) → length t ≡ tree_length n → n % 4 ≡ 0 → spare_bit_set n t ≡ false
unfolding spare_bit_set any_below
no_spare_bits n t h e = let z : 8 * length t - 2 * n ≡ 0 = omega arith in rw z

-- one test over all bytes: a byte's bits from 2 r on are all 0 exactly where what is above them is 0
rule : ℕ → ℕ → Bool
rule r b = beq (not (eqb (b / 2 ^ (2 * r)) 0)) (any_below (8 - 2 * r) (λ k. byte_bit b (2 * r + k)))

rule_holds : all_below 4 (λ r. all_below 256 (rule r)) ≡ true
unfolding all_below any_below rule byte_bit
rule_holds = refl

same_bool : (a b : Bool) → beq a b ≡ true → a ≡ b
same_bool true true e = refl
same_bool true false e = absurd (true≢false (sym e))
same_bool false true e = absurd (true≢false (sym e))
same_bool false false e = refl

high_bits : (r b : ℕ) → r < 4 → b < 256 → not (eqb (b / 2 ^ (2 * r)) 0) ≡ any_below (8 - 2 * r) (λ k. byte_bit b (2 * r + k))
unfolding rule
high_bits r b h k = same_bool _ _ (all_at (rule r) 256 (all_at (λ r. all_below 256 (rule r)) 4 rule_holds r h) b k)

pub spare_last : (n : ℕ) (t : List ℕ) → length t ≡ tree_length n → n % 4 ≢ 0 → get_or t (n / 4) 0 < 256 → not (eqb (get_or t (n / 4) 0 / 2 ^ (2 * (n % 4))) 0) ≡ spare_bit_set n t
unfolding spare_bit_set bit_of
spare_last n t h e w =
    let l : (n + 3) / 4 ≡ n / 4 + 1 = omega arith in
    let z : 8 * length t - 2 * n ≡ 8 - 2 * (n % 4) = omega arith in
    high_bits (n % 4) (get_or t (n / 4) 0) (omega arith) w
    ∙ any_same (λ k. byte_bit (get_or t (n / 4) 0) (2 * (n % 4) + k)) (λ k. bit_of t (2 * n + k)) (8 - 2 * (n % 4)) (λ k u. bit k u)
    ∙ sym (ap (λ m. any_below m (λ k. bit_of t (2 * n + k))) z)
  where
    bit : (k : ℕ) → k < 8 - 2 * (n % 4) → byte_bit (get_or t (n / 4) 0) (2 * (n % 4) + k) ≡ bit_of t (2 * n + k)
    bit k u =
        let x : (2 * n + k) / 8 ≡ n / 4 = omega arith in
        let y : (2 * n + k) % 8 ≡ 2 * (n % 4) + k = omega arith in
        rw (x, y)
