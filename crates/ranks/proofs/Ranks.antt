-- Ranks in their order, and in the reverse one; strings of letters and of symbols.
use mathlib.Core.Path.{◌≡◌, refl, sym, ap, ◌∙◌}
use mathlib.Core.Logic.{inl, inr}
use mathlib.Core.Bool.{Bool, true, false}
use mathlib.Core.List.{List, [], ◌∷◌}
use Prim.Native.Nat.{ℕ, zero, suc, ◌+◌, ◌-◌, ◌≤◌, ◌<◌}
use native.Mathlib.Omega.{arith}
use lib.ListN.{length, get_or, drop, length-map}
use Rattle.std.specs.Prelude.{map}
use Rattle.std.proofs.lemmas.List.{get_or-map}
use borrow.Author.Tests.{le-leb, lt-leb}
use Rattle.suffix.proofs.Cases.{Tri, lt, eq, gt, tri}
use Rattle.ranks.specs.Ranks.{rank, ranks, greatest_rank, oriented_from, oriented, oriented_rank}
use Rattle.ranks.specs.Claims.{NotSmall}

-- by computation, on both sides of each bound
bounds : ranks (64 ∷ 65 ∷ 90 ∷ 91 ∷ 96 ∷ 97 ∷ 98 ∷ 121 ∷ 122 ∷ 123 ∷ 255 ∷ []) ≡ 64 ∷ 65 ∷ 90 ∷ 91 ∷ 96 ∷ 65 ∷ 66 ∷ 89 ∷ 90 ∷ 123 ∷ 255 ∷ []
unfolding rank
bounds = refl

-- what the rank of a letter is, by its value
pub data Ranked (letter : ℕ) : Type 0 where
  small : 97 ≤ letter → letter ≤ 122 → rank letter ≡ letter - 32 → Ranked letter
  other : NotSmall letter → rank letter ≡ letter → Ranked letter

pub ranked : (letter : ℕ) → Ranked letter
unfolding rank
ranked letter = go (tri letter 97) (tri letter 122)
  where
    below : letter < 97 → Ranked letter
    below h = other (inl (omega arith)) (rw (lt-leb 97 letter h, rank))

    above : 122 < letter → Ranked letter
    above h = let g : 97 ≤ letter = omega arith in other (inr (omega arith)) (rw (le-leb 97 letter g, lt-leb letter 122 h, rank))

    between : 97 ≤ letter → letter ≤ 122 → Ranked letter
    between h g = let p : 65 + (letter - 97) ≡ letter - 32 = omega arith in small h g (rw (le-leb 97 letter h, le-leb letter 122 g, rank) p)

    go : Tri letter 97 → Tri letter 122 → Ranked letter
    go (lt h) b = below h
    go (eq h) b = between (omega arith) (omega arith)
    go (gt h) (lt g) = between (omega arith) (omega arith)
    go (gt h) (eq g) = between (omega arith) (omega arith)
    go (gt h) (gt g) = above g

pub ranks_length : (letters : List ℕ) → length (ranks letters) ≡ length letters
ranks_length letters = length-map letters rank

pub ranks_entry : (letters : List ℕ) (i : ℕ) → i < length letters → get_or (ranks letters) i 0 ≡ rank (get_or letters i 0)
ranks_entry [] i h = absurd (omega arith)
ranks_entry (x ∷ letters) zero h = refl
ranks_entry (x ∷ letters) (suc i) h = ranks_entry letters i (omega arith)

-- the rank of a byte is a byte
pub rank_byte : (letter : ℕ) → letter < 256 → rank letter < 256
rank_byte letter h = go (ranked letter)
  where
    go : Ranked letter → rank letter < 256
    go (small a b p) = omega arith
    go (other a p) = omega arith

pub ranks_most : (letters : List ℕ) → ((i : ℕ) → i < length letters → get_or letters i 0 < 256) → (i : ℕ) → i < length (ranks letters) → get_or (ranks letters) i 0 ≤ greatest_rank
ranks_most letters bytes i h =
    let g : i < length letters = omega (arith, ranks_length letters) in
    omega (arith, ranks_entry letters i g, rank_byte (get_or letters i 0) (bytes i g))

-- the rank of the letter at a place of a string
pub rank_here : {S : Type 0} (rank : S → ℕ) (string : List S) (i : ℕ) {letter : S} → letter ≡ get_or string i letter → i < length string → rank letter ≡ get_or (map rank string) i 0
rank_here rank string i {letter = letter} e h = ap rank e ∙ sym (get_or-map rank string i letter 0 h)

-- the ranks of a suffix
pub ranks_drop : (i : ℕ) (letters : List ℕ) → ranks (drop i letters) ≡ drop i (ranks letters)
ranks_drop zero letters = refl
ranks_drop (suc i) [] = refl
ranks_drop (suc i) (x ∷ letters) = ranks_drop i letters

pub oriented_length : (top : ℕ) (reverse : Bool) (y : List ℕ) → length (oriented_from top reverse y) ≡ length y
oriented_length top false y = refl
oriented_length top true y = length-map y (λ x. top - x)

pub reversed_entry : (top : ℕ) (y : List ℕ) (i : ℕ) → i < length y → get_or (oriented_from top true y) i 0 ≡ top - get_or y i 0
reversed_entry top [] i h = absurd (omega arith)
reversed_entry top (x ∷ y) zero h = refl
reversed_entry top (x ∷ y) (suc i) h = reversed_entry top y i (omega arith)

pub oriented_entry : (reverse : Bool) (y : List ℕ) (i : ℕ) → i < length y → get_or (oriented reverse y) i 0 ≡ oriented_rank reverse (get_or y i 0)
oriented_entry false y i h = refl
oriented_entry true y i h = reversed_entry greatest_rank y i h
