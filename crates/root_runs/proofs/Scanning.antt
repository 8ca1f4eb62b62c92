-- The scan to the left: x letters agree so far.
use mathlib.Core.Path.{◌≡◌, sym, ap, ◌∙◌}
use mathlib.Core.Logic.{◌≢◌}
use mathlib.Core.Bool.{Bool, true, false}
use mathlib.Core.List.{List}
use Prim.Native.Nat.{ℕ, suc, ◌+◌, ◌-◌, ◌≤◌, ◌<◌, min}
use native.Mathlib.Omega.{arith}
use lib.Dec.{eqb}
use lib.ListN.{length, get_or}
use borrow.Author.Tests.{eqb-true, eqb-false}
use Rattle.std.specs.Prelude.{map}
use Rattle.ranks.proofs.Ranks.{rank_here}
use Rattle.suffix.proofs.Cases.{Same, same, other, same?}
use Rattle.repeats.specs.Roots.{left_of}
use Rattle.repeats.proofs.Periods.{left_unique}
use Rattle.repeats.proofs.Meaning.{letter}
use Rattle.repeats.proofs.Accepting.{left_is}

pub record Agreeing (y : List ℕ) (i j x : ℕ) : Type 0 where
  pub most : x ≤ suc (j - i)
  pub room : x ≤ i
  pub same : (k : ℕ) → k < x → letter y (i - suc k) ≡ letter y (j - suc k)

-- two letters of a string are compared
pub compared : {S : Type 0} (rank : S → ℕ) (string : List S) (a b : ℕ) {left right : S} {t : Bool} → t ≡ eqb (rank left) (rank right)
    → left ≡ get_or string a left → right ≡ get_or string b right → a < length string → b < length string
    → t ≡ eqb (letter (map rank string) a) (letter (map rank string) b)
compared rank string a b t l r h g = rw (rank_here rank string a l h, rank_here rank string b r g) at t

module _ (y : List ℕ) (i j : ℕ) where
  pub agree_none : Agreeing y i j 0
  agree_none = record { most = omega arith; room = omega arith; same = λ k h. absurd (omega arith) }

  module _ (x : ℕ) (A : Agreeing y i j x) where
    at : (a b : ℕ) → a ≡ b → letter y a ≡ letter y b
    at a b e = ap (letter y) e

    -- the test of the next two
    module _ {b : Bool} (t : b ≡ eqb (letter y (i - 1 - x)) (letter y (j - 1 - x))) where
      alike : b ≡ true → letter y (i - 1 - x) ≡ letter y (j - 1 - x)
      alike e = eqb-true _ _ (sym t ∙ e)

      unlike : b ≡ false → letter y (i - 1 - x) ≢ letter y (j - 1 - x)
      unlike e = eqb-false _ _ (sym t ∙ e)

    pub agree_more : x < i → x ≤ j - i → {b : Bool} → b ≡ eqb (letter y (i - 1 - x)) (letter y (j - 1 - x)) → b ≡ true → Agreeing y i j (x + 1)
    agree_more h g t q = record { most = omega arith; room = omega arith; same = λ k w. go k w (same? k x) }
      where
        go : (k : ℕ) → k < x + 1 → Same k x → letter y (i - suc k) ≡ letter y (j - suc k)
        go k w (same z) = at (i - suc k) (i - 1 - x) (omega arith) ∙ alike t q ∙ at (j - 1 - x) (j - suc k) (omega arith)
        go k w (other z) = A.same k (omega arith)

    -- the scan stops: at the string's start or at one letter more than the period, or at a difference
    stops : i ≤ j → (x < suc (j - i) → x < i → letter y (i - suc x) ≢ letter y (j - suc x)) → x ≡ left_of y i j
    stops h s = left_unique (letter y) (record { most = A.most; room = A.room; same = A.same; stop = s }) (left_is y (suc (j - i)) i j h)

    pub at_most : i ≤ j → {most : ℕ} → most ≡ min i (j - i + 1) → most ≤ x → x ≡ left_of y i j
    at_most h e g = stops h (λ a b. absurd (omega arith))

    pub at_difference : i ≤ j → {b : Bool} → b ≡ eqb (letter y (i - 1 - x)) (letter y (j - 1 - x)) → b ≡ false → x ≡ left_of y i j
    at_difference h t q = stops h (λ a b e. unlike t q (at (i - 1 - x) (i - suc x) (omega arith) ∙ e ∙ at (j - suc x) (j - 1 - x) (omega arith)))

-- the next two letters of a string are tested
module _ {S : Type 0} (rank : S → ℕ) (string : List S) (i j x : ℕ) (A : Agreeing (map rank string) i j x) {left right : S}
    (l : left ≡ get_or string (i - 1 - x) left) (r : right ≡ get_or string (j - 1 - x) right) (after : i < j) (fits : j ≤ length string) (more : x < i) where
  pub letters_more : x ≤ j - i → {b : Bool} → b ≡ eqb (rank left) (rank right) → b ≡ true → Agreeing (map rank string) i j (x + 1)
  letters_more h t q = agree_more (map rank string) i j x A more h (compared rank string (i - 1 - x) (j - 1 - x) t l r (omega arith) (omega arith)) q

  pub letters_differ : {b : Bool} → b ≡ eqb (rank left) (rank right) → b ≡ false → x ≡ left_of (map rank string) i j
  letters_differ t q = at_difference (map rank string) i j x A (omega arith) (compared rank string (i - 1 - x) (j - 1 - x) t l r (omega arith) (omega arith)) q
