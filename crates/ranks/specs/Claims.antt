-- What is claimed of ranks (T-04). Each claim is a type; the law of its name, in small letters with `_`, proves it in proofs/Laws.antt.
use Rattle.std.specs.Prelude.{◌≡◌, ◌⊎◌, List, ℕ, ◌+◌, ◌<◌, length, get_or}
use Rattle.suffix.specs.Order.{lce}
use Rattle.suffix.specs.Nearest.{previous, next}
use Rattle.suffix.specs.Tree.{tree_bytes}
use Rattle.ranks.specs.Ranks.{rank, ranks}

-- "bytes 97 to 122 compare as 65 to 90": small letter k as capital k, from 0
abbrev pub SmallRankAsCapitals : Type 0
SmallRankAsCapitals = (k : ℕ) → k < 26 → (rank (97 + k) ≡ 65 + k) × (rank (65 + k) ≡ 65 + k)

-- "all other bytes keep their value."
abbrev pub NotSmall : ℕ → Type 0
NotSmall letter = (letter < 97) ⊎ (122 < letter)

abbrev pub OthersKeepTheirValue : Type 0
OthersKeepTheirValue = (letter : ℕ) → NotSmall letter → rank letter ≡ letter

-- so where no small letter stands, nothing changes
abbrev pub Unmasked : List ℕ → Type 0
Unmasked letters = (i : ℕ) → i < length letters → NotSmall (get_or letters i 0)

abbrev pub UnmaskedAreTheirRanks : Type 0
UnmaskedAreTheirRanks = (letters : List ℕ) → Unmasked letters → ranks letters ≡ letters

-- "the trade counts a masked base as the same base": two bytes are the same letter where they are equal, or one is the other in small
pub record Masks (small capital : ℕ) : Type 0 where
  pub letter : ℕ
  pub below : letter < 26
  pub is_small : small ≡ 97 + letter
  pub is_capital : capital ≡ 65 + letter

abbrev pub SameLetter : ℕ → ℕ → Type 0
SameLetter a b = (a ≡ b) ⊎ (Masks a b ⊎ Masks b a)

abbrev pub SameLetterSameRank : Type 0
SameLetterSameRank = (a b : ℕ) → (SameLetter a b → rank a ≡ rank b) × (rank a ≡ rank b → SameLetter a b)

-- two strings that differ in masking alone
pub record SameLetters (letters others : List ℕ) : Type 0 where
  pub lengths : length letters ≡ length others
  pub at : (i : ℕ) → i < length letters → SameLetter (get_or letters i 0) (get_or others i 0)

abbrev pub SameLettersSameRanks : Type 0
SameLettersSameRanks = (letters others : List ℕ) → (SameLetters letters others → ranks letters ≡ ranks others) × (ranks letters ≡ ranks others → SameLetters letters others)

-- the ranks, read as bytes, are the same letters with none of them small: the same string in capitals
pub record InCapitals (letters capitals : List ℕ) : Type 0 where
  pub same : SameLetters letters capitals
  pub unmasked : Unmasked capitals

abbrev pub RanksAreCapitals : Type 0
RanksAreCapitals = (letters : List ℕ) → InCapitals letters (ranks letters) × (ranks (ranks letters) ≡ ranks letters)

-- "Trees already filed keep the old order", that of the values. Both orders give a string the same entries, matches and tree where it has no small
-- letter, or no byte from 65 to 96
abbrev pub NotBetween : ℕ → Type 0
NotBetween letter = (letter < 65) ⊎ (96 < letter)

abbrev pub NoneBetween : List ℕ → Type 0
NoneBetween letters = (i : ℕ) → i < length letters → NotBetween (get_or letters i 0)

pub record SameInBothOrders (letters : List ℕ) : Type 0 where
  pub previous : (i : ℕ) → previous (ranks letters) i ≡ previous letters i
  pub next : (i : ℕ) → next (ranks letters) i ≡ next letters i
  pub match : (i j : ℕ) → lce (ranks letters) i j ≡ lce letters i j
  pub tree : (R : ℕ) → tree_bytes (ranks letters) R ≡ tree_bytes letters R

abbrev pub OrdersAgree : Type 0
OrdersAgree = (letters : List ℕ) → Unmasked letters ⊎ NoneBetween letters → SameInBothOrders letters
