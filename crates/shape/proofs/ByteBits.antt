-- A byte and its eight bits.
use mathlib.Core.Path.{◌≡◌, refl, sym, ap, ◌∙◌}
use mathlib.Core.Bool.{Bool, true, false, cond}
use mathlib.Core.List.{List}
use Prim.Native.Nat.{ℕ, zero, suc, ◌+◌, ◌*◌, ◌/◌, ◌%◌, ◌^◌, ◌≤◌, ◌<◌}
use native.Mathlib.Omega.{arith}
use lib.Dec.{eqb}
use lib.ListN.{length, get_or}
use lib.Seq.{ext_get_or}
use Rattle.suffix.specs.Search.{sum_below, tabulate}
use Rattle.suffix.specs.Tree.{byte_of}
use Rattle.suffix.proofs.Search.{tabulate_entry, sum_same}
use Rattle.refusal.specs.Conditions.{byte_bit, bit_of}

abbrev digit : Bool → ℕ
digit b = cond b 1 0

digit_most : (b : Bool) → digit b ≤ 1
digit_most true = omega arith
digit_most false = omega arith

digit_bit : (b : Bool) → eqb (digit b) 1 ≡ b
digit_bit true = refl
digit_bit false = refl

all_most : (b : ℕ → Bool) → (digit (b 0) ≤ 1) × (digit (b 1) ≤ 1) × (digit (b 2) ≤ 1) × (digit (b 3) ≤ 1) × (digit (b 4) ≤ 1) × (digit (b 5) ≤ 1) × (digit (b 6) ≤ 1) × (digit (b 7) ≤ 1)
all_most b = (digit_most (b 0), digit_most (b 1), digit_most (b 2), digit_most (b 3), digit_most (b 4), digit_most (b 5), digit_most (b 6), digit_most (b 7))

-- the digits of a sum of weighted digits
weighted : (b : ℕ → Bool) (i : ℕ) → i < 8 → sum_below 8 (λ i. 2 ^ i * digit (b i)) / 2 ^ i % 2 ≡ digit (b i)
unfolding sum_below
weighted b zero h = omega (arith, all_most b)
weighted b (suc zero) h = omega (arith, all_most b)
weighted b (suc (suc zero)) h = omega (arith, all_most b)
weighted b (suc (suc (suc zero))) h = omega (arith, all_most b)
weighted b (suc (suc (suc (suc zero)))) h = omega (arith, all_most b)
weighted b (suc (suc (suc (suc (suc zero))))) h = omega (arith, all_most b)
weighted b (suc (suc (suc (suc (suc (suc zero)))))) h = omega (arith, all_most b)
weighted b (suc (suc (suc (suc (suc (suc (suc zero))))))) h = omega (arith, all_most b)
weighted b (suc (suc (suc (suc (suc (suc (suc (suc i)))))))) h = absurd (omega arith)

-- bit k of the bytes of g
pub bytes_bit : (g : ℕ → Bool) (m k : ℕ) → k < 8 * m → bit_of (tabulate m (byte_of g)) k ≡ g k
unfolding bit_of byte_bit byte_of
bytes_bit g m k h =
    let z : 8 * (k / 8) + k % 8 ≡ k = omega arith in
    rw (tabulate_entry (byte_of g) m (k / 8) (omega arith), weighted (λ i. g (8 * (k / 8) + i)) (k % 8) (omega arith), digit_bit, z)

-- a byte is the sum of its weighted digits
pub bit_digit : (b i : ℕ) → cond (byte_bit b i) 1 0 ≡ b / 2 ^ i % 2
unfolding byte_bit
bit_digit b i = go (b / 2 ^ i % 2) (omega arith)
  where
    go : (v : ℕ) → v < 2 → digit (eqb v 1) ≡ v
    go zero h = refl
    go (suc zero) h = refl
    go (suc (suc v)) h = absurd (omega arith)

-- by halves
halves : (d q : ℕ → ℕ) → ((i : ℕ) → i < 8 → q i ≡ 2 * q (suc i) + d i) → q 8 ≡ 0 → q 0 ≡ sum_below 8 (λ i. 2 ^ i * d i)
unfolding sum_below
halves d q h e = omega (arith, h 0 (omega arith), h 1 (omega arith), h 2 (omega arith), h 3 (omega arith), h 4 (omega arith), h 5 (omega arith), h 6 (omega arith), h 7 (omega arith))

half : (b i : ℕ) → i < 8 → b / 2 ^ i ≡ 2 * (b / 2 ^ suc i) + b / 2 ^ i % 2
half b zero h = omega arith
half b (suc zero) h = omega arith
half b (suc (suc zero)) h = omega arith
half b (suc (suc (suc zero))) h = omega arith
half b (suc (suc (suc (suc zero)))) h = omega arith
half b (suc (suc (suc (suc (suc zero))))) h = omega arith
half b (suc (suc (suc (suc (suc (suc zero)))))) h = omega arith
half b (suc (suc (suc (suc (suc (suc (suc zero))))))) h = omega arith
half b (suc (suc (suc (suc (suc (suc (suc (suc i)))))))) h = absurd (omega arith)

pub byte_is : (b : ℕ) → b < 256 → b ≡ sum_below 8 (λ i. 2 ^ i * cond (byte_bit b i) 1 0)
byte_is b h =
    let z : b / 1 ≡ b = omega arith in
    rw z at (halves (λ i. digit (byte_bit b i)) (λ i. b / 2 ^ i) (λ i g. rw bit_digit (half b i g)) (omega arith))

-- bytes with the same bits
pub bytes_by_bits : (t u : List ℕ) → length t ≡ length u → ((j : ℕ) → get_or t j 0 < 256) → ((j : ℕ) → get_or u j 0 < 256)
    → ((k : ℕ) → k < 8 * length t → bit_of t k ≡ bit_of u k) → t ≡ u
unfolding bit_of
bytes_by_bits t u l a b q =
    ext_get_or 0 t u l
    (λ j h.
    byte_is (get_or t j 0) (a j)
    ∙ sum_same (λ i. 2 ^ i * digit (byte_bit (get_or t j 0) i)) (λ i. 2 ^ i * digit (byte_bit (get_or u j 0) i)) 8 (λ i g. ap (λ c. 2 ^ i * digit c) (bit j i h g))
    ∙ sym (byte_is (get_or u j 0) (b j)))
  where
    bit : (j i : ℕ) → j < length t → i < 8 → byte_bit (get_or t j 0) i ≡ byte_bit (get_or u j 0) i
    bit j i h g =
        let x : (8 * j + i) / 8 ≡ j = omega arith in
        let z : (8 * j + i) % 8 ≡ i = omega arith in
        rw (x, z) at (q (8 * j + i) (omega arith))
