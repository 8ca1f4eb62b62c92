-- The string that the rows are of, in either order: how long it is, and the rank at a place.
use mathlib.Core.Path.{◌≡◌, refl, sym, ap, ◌∙◌}
use mathlib.Core.Logic.{◌≢◌}
use mathlib.Core.Bool.{Bool, true, false}
use mathlib.Core.List.{List, map}
use Prim.Native.Nat.{ℕ, ◌≤◌, ◌<◌}
use native.Mathlib.Omega.{arith}
use lib.ListN.{length, get_or, length-map}
use Rattle.ranks.specs.Ranks.{greatest_rank, oriented, oriented_rank}
use Rattle.ranks.proofs.Ranks.{oriented_length, oriented_entry}

-- other ranks are other ones in the reverse order too
pub oriented_other : (reverse : Bool) (a b : ℕ) → a ≤ greatest_rank → b ≤ greatest_rank → a ≢ b → oriented_rank reverse a ≢ oriented_rank reverse b
oriented_other false a b h g e = e
oriented_other true a b h g e = λ q. e (omega (arith, q))

module _ {S : Type 0} (rank : S → ℕ) (reverse : Bool) (string : List S) where
  pub string_length : length (oriented reverse (map rank string)) ≡ length string
  string_length = oriented_length greatest_rank reverse (map rank string) ∙ length-map string rank

  pub string_entry : (i : ℕ) → i < length string → {a : ℕ} → a ≡ get_or (map rank string) i 0 → oriented_rank reverse a ≡ get_or (oriented reverse (map rank string)) i 0
  string_entry i h e = ap (oriented_rank reverse) e ∙ sym (oriented_entry reverse (map rank string) i (omega (arith, length-map string rank)))

  -- places of the same rank, and of other ranks
  pub same_entry : (i j : ℕ) → i < length string → j < length string → get_or (map rank string) i 0 ≡ get_or (map rank string) j 0
      → get_or (oriented reverse (map rank string)) i 0 ≡ get_or (oriented reverse (map rank string)) j 0
  same_entry i j h k e = sym (string_entry i h refl) ∙ string_entry j k e

  pub other_entry : (i j : ℕ) {a b : ℕ} → a ≡ get_or (map rank string) i 0 → b ≡ get_or (map rank string) j 0 → a ≤ greatest_rank → b ≤ greatest_rank
      → i < length string → j < length string → get_or (map rank string) i 0 ≢ get_or (map rank string) j 0
      → get_or (oriented reverse (map rank string)) i 0 ≢ get_or (oriented reverse (map rank string)) j 0
  other_entry i j {a} {b} p q f h k l e z = oriented_other reverse a b f h (λ w. e (sym p ∙ w ∙ q)) (string_entry i k p ∙ z ∙ sym (string_entry j l q))
