-- Document 01, "Who can cause which refusal": the condition of each number, and which numbers each operation returns.
use Rattle.std.specs.Prelude.{Bool, false, not, ◌&&◌, ◌||◌, List, [], ◌∷◌, ℕ, suc, ◌+◌, ◌-◌, ◌*◌, ◌/◌, ◌%◌, ◌^◌, eqb, ltb, leb, length, get_or}
use Rattle.suffix.specs.Search.{any_below, count_below}
use Rattle.suffix.specs.Tree.{tree_length}
use Rattle.refusal.specs.Numbers.{lowest, lowest_from}

-- "1: n above 1,000,000."
abbrev pub too_long : ℕ → Bool
too_long n = ltb 1000000 n

-- "2: a lent table not exactly n entries of 32 bits long"
abbrev pub table_length_off : ℕ → ℕ → Bool
table_length_off n lent = not (eqb lent n)

-- "3: the tree not exactly ceil(n/4) bytes."
abbrev pub tree_length_off : ℕ → ℕ → Bool
tree_length_off n lent = not (eqb lent (tree_length n))

-- "4: more rows asked than n."
abbrev pub too_many_rows : ℕ → ℕ → Bool
too_many_rows n rows = ltb n rows

-- "5: a position not below n."
abbrev pub position_outside : ℕ → ℕ → Bool
position_outside n i = leb n i

-- From "The tree": "Bit k is in byte floor(k/8) with weight 2 to the power (k mod 8)." The bit of weight 2 ^ i in a byte, and bit k of
-- the bytes t; bits that t does not have count as 0, and then 3 applies, which is lower than 6, 7 and 8.
unfoldable pub byte_bit : ℕ → ℕ → Bool
byte_bit b i = eqb (b / 2 ^ i % 2) 1

unfoldable pub bit_of : List ℕ → ℕ → Bool
bit_of t k = byte_bit (get_or t (k / 8) 0) (k % 8)

-- "6: a spare bit is 1": one of those from 2n on
unfoldable pub spare_bit_set : ℕ → List ℕ → Bool
spare_bit_set n t = any_below (8 * length t - 2 * n) (λ k. bit_of t (2 * n + k))

-- the openings and the closings among the first k bits
abbrev pub openings : List ℕ → ℕ → ℕ
openings t k = count_below k (bit_of t)

abbrev pub closings : List ℕ → ℕ → ℕ
closings t k = count_below k (λ j. not (bit_of t j))

-- "7: some first bits of the 2n hold more closings than openings."
unfoldable pub closed_too_early : ℕ → List ℕ → Bool
closed_too_early n t = any_below (suc (2 * n)) (λ k. ltb (openings t k) (closings t k))

-- "8: no such place, but not all are closed."
unfoldable pub left_open : ℕ → List ℕ → Bool
left_open n t = not (closed_too_early n t) && ltb (closings t (2 * n)) (openings t (2 * n))

-- what whoever wrote the tree got wrong: 6, 7 or 8, else 0
abbrev pub flaw_number : ℕ → List ℕ → ℕ
flaw_number n t = lowest_from 6 (spare_bit_set n t ∷ closed_too_early n t ∷ left_open n t ∷ [])

-- "four tables for the build", of these lengths
abbrev pub a_table_length_off : (n previous next previous_match next_match : ℕ) → Bool
a_table_length_off n previous next previous_match next_match =
    table_length_off n previous || table_length_off n next || table_length_off n previous_match || table_length_off n next_match

-- "Build: 1 to 4.", of so many rows of n letters, over four tables of these lengths and a tree of so many bytes
unfoldable pub build_refusal : (n rows previous next previous_match next_match bytes : ℕ) → ℕ
build_refusal n rows previous next previous_match next_match bytes =
    lowest (too_long n ∷ a_table_length_off n previous next previous_match next_match ∷ tree_length_off n bytes ∷ too_many_rows n rows ∷ [])

-- of the four tables alone, without rows and tree: 1 and 2
unfoldable pub tables_refusal : (n previous next previous_match next_match : ℕ) → ℕ
tables_refusal n previous next previous_match next_match = lowest (too_long n ∷ a_table_length_off n previous next previous_match next_match ∷ [])

-- "Reading: 1, 2, 3, 6, 7, 8.", of the bytes t as a tree of n positions; "previous and next for reading a tree", of these lengths
unfoldable pub read_refusal : ℕ → List ℕ → (previous next : ℕ) → ℕ
read_refusal n t previous next =
    lowest
    (too_long n
    ∷ (table_length_off n previous || table_length_off n next)
    ∷ tree_length_off n (length t)
    ∷ false
    ∷ false
    ∷ spare_bit_set n t
    ∷ closed_too_early n t
    ∷ left_open n t
    ∷ [])

-- "Tree questions: 1, 3, 5 to 8.", for position i
unfoldable pub question_refusal : ℕ → List ℕ → ℕ → ℕ
question_refusal n t i =
    lowest
    (too_long n ∷ false ∷ tree_length_off n (length t) ∷ false ∷ position_outside n i ∷ spare_bit_set n t ∷ closed_too_early n t ∷ left_open n t ∷ [])

-- what reading and questions share: whether the bytes t are a tree of n positions
unfoldable pub tree_refusal : ℕ → List ℕ → ℕ
tree_refusal n t = lowest (too_long n ∷ false ∷ tree_length_off n (length t) ∷ false ∷ false ∷ spare_bit_set n t ∷ closed_too_early n t ∷ left_open n t ∷ [])

-- "Longest word: 1, 5."
unfoldable pub word_refusal : ℕ → ℕ → ℕ
word_refusal n i = lowest (too_long n ∷ false ∷ false ∷ false ∷ position_outside n i ∷ [])
