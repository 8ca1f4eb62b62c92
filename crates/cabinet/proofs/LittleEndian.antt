-- Numbers of four bytes, written and read.
use mathlib.Core.Path.{◌≡◌, refl, sym, ap, ap₂, ◌∙◌}
use mathlib.Core.List.{List, [], ◌∷◌, ◌++◌}
use Prim.Native.Nat.{ℕ, zero, suc, ◌+◌, ◌*◌, ◌/◌, ◌%◌, ◌≤◌, ◌<◌}
use native.Mathlib.Omega.{arith}
use lib.ListN.{length, get_or, take, drop, length-drop, take-append-drop}
use lib.Seq.{take_at, drop_at, drop-cons, drop-drop, get_or-drop, length-take-le}
use Rattle.std.specs.Int.{w32, to_le_bytes, from_le_bytes}
use Rattle.suffix.specs.Lyndon.{part}
use Rattle.shape.specs.Claims.{AreBytes}
use Rattle.cabinet.specs.LittleEndian.{bytes_of, value_of, four_bytes, number_at}

-- the four bytes of a number are four, and of this value; and four bytes of this value are these
pub four_length : (v : ℕ) → length (four_bytes v) ≡ 4
unfolding bytes_of
four_length v = refl

-- the bytes of a number, as the library has them
pub low_bytes : (v : ℕ) → to_le_bytes w32 v ≡ four_bytes v
unfolding bytes_of
low_bytes v =
    let third : v / 65536 % 256 ≡ v / 256 / 256 % 256 = omega arith in
    let fourth : v / 16777216 % 256 ≡ v / 256 / 256 / 256 % 256 = omega arith in
    rw (third, fourth)

value_back : (v : ℕ) → v < 4294967296 → value_of (four_bytes v) ≡ v
unfolding bytes_of value_of
value_back v h = omega arith

low : (b x v : ℕ) → b < 256 → v ≡ b + 256 * x → (v % 256 ≡ b) × (v / 256 ≡ x)
low b x v h e = (omega arith, omega arith)

bytes_back : (bytes : List ℕ) (k : ℕ) → length bytes ≡ k → AreBytes bytes → bytes_of k (value_of bytes) ≡ bytes
unfolding bytes_of value_of
bytes_back [] k e small = rw (sym e)
bytes_back (b ∷ bytes) k e small =
    let z = low b (value_of bytes) (b + 256 * value_of bytes) (small 0) refl in
    rw (sym e) (ap₂ ◌∷◌ z.0 (ap (bytes_of (length bytes)) z.1 ∙ bytes_back bytes (length bytes) refl (λ j. small (suc j))))

taken_small : (k : ℕ) (bytes : List ℕ) → AreBytes bytes → AreBytes (take k bytes)
taken_small zero bytes small j = omega arith
taken_small (suc k) [] small j = omega arith
taken_small (suc k) (b ∷ bytes) small zero = small 0
taken_small (suc k) (b ∷ bytes) small (suc j) = taken_small k bytes (λ i. small (suc i)) j

-- four bytes at a place of a file
module _ (file : List ℕ) (at : ℕ) (h : at + 4 ≤ length file) where
  next : (k m : ℕ) → m ≡ suc k → k < length file → drop k file ≡ get_or file k 0 ∷ drop m file
  next k m e w = rw e (drop-cons file k 0 w)

  four : part file at 4 ≡ get_or file at 0 ∷ get_or file (at + 1) 0 ∷ get_or file (at + 2) 0 ∷ get_or file (at + 3) 0 ∷ []
  unfolding part
  four =
      rw (
        next at (at + 1) (omega arith) (omega arith),
        next (at + 1) (at + 2) (omega arith) (omega arith),
        next (at + 2) (at + 3) (omega arith) (omega arith),
        next (at + 3) (at + 4) (omega arith) (omega arith),
      )

  -- as the library has their number
  pub number_is : {bytes : List ℕ} {k : ℕ} → bytes ≡ take k (drop at file) → k ≡ 4 → from_le_bytes w32 bytes ≡ number_at file at
  unfolding number_at value_of part
  number_is e z = rw (e, z, four) (omega arith)

  module _ (small : AreBytes file) where
    -- the number read, written again
    pub number_again : four_bytes (number_at file at) ++ drop (at + 4) file ≡ drop at file
    unfolding number_at part
    number_again =
        ap (λ l. l ++ drop (at + 4) file) (bytes_back (take 4 (drop at file)) 4 (length-take-le 4 (drop at file) (omega (arith, length-drop at file))) (λ j. taken_small 4 (drop at file) (λ i. rw get_or-drop (small (at + i))) j))
        ∙ ap (λ l. take 4 (drop at file) ++ l) (sym (drop-drop 4 at file))
        ∙ take-append-drop 4 (drop at file)

-- the number written at a place of a file, read
pub number_in : (before : List ℕ) (v : ℕ) (behind : List ℕ) (at : ℕ) → length before ≡ at → v < 4294967296 → number_at (before ++ (four_bytes v ++ behind)) at ≡ v
unfolding number_at part
number_in before v behind at e h = rw (drop_at before (four_bytes v ++ behind) at e, take_at (four_bytes v) behind 4 (four_length v)) (value_back v h)
