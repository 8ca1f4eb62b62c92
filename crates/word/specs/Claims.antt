-- What is claimed of the longest-word question. Each claim is a type; the law of its name, in small letters with `_`, proves it in
-- proofs/Laws.antt.
use Rattle.std.specs.Prelude.{◌≡◌, List, ℕ, ◌+◌, ◌-◌, ◌<◌, length, get_or}
use Rattle.std.specs.Borrow.{u8, u32}
use Rattle.std.specs.Mem.{type_size}
use Rattle.suffix.specs.Nearest.{next}
use Rattle.suffix.specs.Lyndon.{longest_lyndon}
use Rattle.refusal.specs.Conditions.{word_refusal}
use Rattle.word.specs.Word.{word_part}

-- "The longest Lyndon word from i has length next[i] − i (documents 000 and 004)": so long is the part wherever it is not refused, of letters and
-- of symbols, y their ranks
abbrev pub WordIsLongest : Type 0
WordIsLongest =
    (letters y : List ℕ) (i : ℕ) → length y ≡ length letters → word_refusal (length letters) i ≡ 0
    → (length (word_part letters y i) ≡ next y i - i) × (length (word_part letters y i) ≡ longest_lyndon y i)

-- "returns that part of the caller's string itself": its letters or symbols as they stand, of which their ranks y tell the number alone
abbrev pub WordAsItStands : Type 0
WordAsItStands =
    (letters y : List ℕ) (i k : ℕ) → word_refusal (length letters) i ≡ 0 → k < longest_lyndon y i
    → get_or (word_part letters y i) k 0 ≡ get_or letters (i + k) 0

-- a letter is one byte, and a symbol a "32-bit unsigned" number: so many bytes does a part that starts at i stand behind the string's start
abbrev pub OneByteOrFour : Type 0
OneByteOrFour = (type_size u8 ≡ 1) × (type_size u32 ≡ 4)
