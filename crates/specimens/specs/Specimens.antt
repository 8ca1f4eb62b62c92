-- Document 01, "Specimens": M1 to M12, each as what is asked and what is to be answered.
use Rattle.std.specs.Prelude.{◌≡◌, List, [], ◌∷◌, ℕ, length, replicate}
use Rattle.suffix.specs.Search.{tabulate}
use Rattle.suffix.specs.Tree.{tree_length}
use Rattle.suffix.specs.Lyndon.{longest_lyndon}
use Rattle.ranks.specs.Ranks.{ranks}
use Rattle.refusal.specs.Conditions.{read_refusal, word_refusal}
use Rattle.reuse.specs.Steps.{comparisons}
use Rattle.outcome.specs.Built.{Figures, finished, halted, Lent, answer, lent_at_exit}
use Rattle.word.specs.Word.{word_part, word_start}

-- what may be asked: the answer of a build of R rows, the sum of its comparisons, or one of the four tables or the tree that it leaves;
-- the Lyndon length of every position; the refusal of a tree of n positions; the refusal of the longest-word question, its word, and where
-- that starts
pub data Question : Type 0 where
  answers : List ℕ → ℕ → Question
  count : List ℕ → ℕ → Question
  previous : List ℕ → ℕ → Question
  next : List ℕ → ℕ → Question
  previous_match : List ℕ → ℕ → Question
  next_match : List ℕ → ℕ → Question
  tree : List ℕ → ℕ → Question
  lengths : List ℕ → Question
  read : ℕ → List ℕ → Question
  refusal_of_word : List ℕ → ℕ → Question
  word : List ℕ → ℕ → Question
  start_of_word : List ℕ → ℕ → Question

pub data Reply : Type 0 where
  figures : Figures → Reply
  entries : List ℕ → Reply
  number : ℕ → Reply

-- memory of the right lengths, all 255 before the build
abbrev pub room : ℕ → Lent
room n =
    let t : List ℕ = replicate n 255 in
    record { tables = record { previous = t; next = t; previous_match = t; next_match = t }; tree = replicate (tree_length n) 255 }

-- what a build of R rows leaves there
abbrev pub left : List ℕ → ℕ → Lent
left letters R = lent_at_exit (ranks letters) R (room (length letters))

-- what the definitions give, those by which the operations are specified
abbrev pub given : Question → Reply
given (answers letters R) = figures (answer (ranks letters) R (room (length letters)))
given (count letters R) = number (comparisons (ranks letters) R)
given (previous letters R) = entries (left letters R).tables.previous
given (next letters R) = entries (left letters R).tables.next
given (previous_match letters R) = entries (left letters R).tables.previous_match
given (next_match letters R) = entries (left letters R).tables.next_match
given (tree letters R) = entries (left letters R).tree
given (lengths letters) = entries (tabulate (length letters) (longest_lyndon (ranks letters)))
given (read n t) = number (read_refusal n t n n)
given (refusal_of_word letters i) = number (word_refusal (length letters) i)
given (word letters i) = entries (word_part letters (ranks letters) i)
given (start_of_word letters i) = number (word_start letters i)

pub record Specimen : Type 0 where
  pub question : Question
  pub reply : Reply

abbrev is : Question → Reply → Specimen
is q r = record { question = q; reply = r }

-- the letters of a, ab, ba, aab, aaaa, banana
abbrev pub a : List ℕ
a = 97 ∷ []

abbrev pub ab : List ℕ
ab = 97 ∷ 98 ∷ []

abbrev pub ba : List ℕ
ba = 98 ∷ 97 ∷ []

abbrev pub aab : List ℕ
aab = 97 ∷ 97 ∷ 98 ∷ []

abbrev pub aaaa : List ℕ
aaaa = 97 ∷ 97 ∷ 97 ∷ 97 ∷ []

abbrev pub banana : List ℕ
banana = 98 ∷ 97 ∷ 110 ∷ 97 ∷ 110 ∷ 97 ∷ []

-- the letters of BanAnA, and of a_
abbrev pub ban_an_a : List ℕ
ban_an_a = 66 ∷ 97 ∷ 110 ∷ 65 ∷ 110 ∷ 65 ∷ []

abbrev pub underscore : List ℕ
underscore = 97 ∷ 95 ∷ []

-- of M1 to M8 the answer has the comparisons as T-02 splits them, equal and unequal, and count their sum, which document 01 gives
abbrev pub table : List Specimen
table =
    -- "M1 empty, R 0: finished, 0 comparisons, reach 0, no tree bytes."
    is (answers [] 0) (figures (finished 0 0 0 0))
    ∷ is (count [] 0) (number 0)
    ∷ is (tree [] 0) (entries [])
    -- "M2 `a`: previous 1, next 1, 0 comparisons, reach 1, tree 01."
    ∷ is (previous a 1) (entries (1 ∷ []))
    ∷ is (next a 1) (entries (1 ∷ []))
    ∷ is (answers a 1) (figures (finished 1 0 0 1))
    ∷ is (count a 1) (number 0)
    ∷ is (tree a 1) (entries (0x01 ∷ []))
    -- "M3 `ab`: previous 2 0, next 2 2, 1 comparison, reach 1, tree 03."
    ∷ is (previous ab 2) (entries (2 ∷ 0 ∷ []))
    ∷ is (next ab 2) (entries (2 ∷ 2 ∷ []))
    ∷ is (answers ab 2) (figures (finished 2 0 1 1))
    ∷ is (count ab 2) (number 1)
    ∷ is (tree ab 2) (entries (0x03 ∷ []))
    -- "M4 `ba`: previous 2 2, next 1 2, 1 comparison, reach 1, tree 05."
    ∷ is (previous ba 2) (entries (2 ∷ 2 ∷ []))
    ∷ is (next ba 2) (entries (1 ∷ 2 ∷ []))
    ∷ is (answers ba 2) (figures (finished 2 0 1 1))
    ∷ is (count ba 2) (number 1)
    ∷ is (tree ba 2) (entries (0x05 ∷ []))
    -- "M5 `aab`: previous 3 0 1, next 3 3 3, previous-match 0 1 0, 3 comparisons, reach 2, tree 07."
    ∷ is (previous aab 3) (entries (3 ∷ 0 ∷ 1 ∷ []))
    ∷ is (next aab 3) (entries (3 ∷ 3 ∷ 3 ∷ []))
    ∷ is (previous_match aab 3) (entries (0 ∷ 1 ∷ 0 ∷ []))
    ∷ is (answers aab 3) (figures (finished 3 1 2 2))
    ∷ is (count aab 3) (number 3)
    ∷ is (tree aab 3) (entries (0x07 ∷ []))
    -- "M6 `aaaa`: next 1 2 3 4, next-match 3 2 1 0, 3 comparisons, reach 4, tree 55."
    ∷ is (next aaaa 4) (entries (1 ∷ 2 ∷ 3 ∷ 4 ∷ []))
    ∷ is (next_match aaaa 4) (entries (3 ∷ 2 ∷ 1 ∷ 0 ∷ []))
    ∷ is (answers aaaa 4) (figures (finished 4 3 0 4))
    ∷ is (count aaaa 4) (number 3)
    ∷ is (tree aaaa 4) (entries (0x55 ∷ []))
    -- "M7 banana, R 6: as above; next-match 0 3 0 1 0 0, reach 6.": above are the figures of the tables program.
    -- T-02: "For banana they are 3 and 3."
    ∷ is (previous banana 6) (entries (6 ∷ 6 ∷ 1 ∷ 6 ∷ 3 ∷ 6 ∷ []))
    ∷ is (next banana 6) (entries (1 ∷ 3 ∷ 3 ∷ 5 ∷ 5 ∷ 6 ∷ []))
    ∷ is (next_match banana 6) (entries (0 ∷ 3 ∷ 0 ∷ 1 ∷ 0 ∷ 0 ∷ []))
    ∷ is (lengths banana) (entries (1 ∷ 2 ∷ 1 ∷ 2 ∷ 1 ∷ 1 ∷ []))
    ∷ is (answers banana 6) (figures (finished 6 3 3 6))
    ∷ is (count banana 6) (number 6)
    ∷ is (tree banana 6) (entries (0xCD ∷ 0x04 ∷ []))
    -- "M8 banana, R 4: halted; previous 6 6 1 6 6 6, next 1 3 3 6 6 6, next-match 0 3 0 0 0 0, 6 comparisons, reach 6, tree 4D 00."
    ∷ is (previous banana 4) (entries (6 ∷ 6 ∷ 1 ∷ 6 ∷ 6 ∷ 6 ∷ []))
    ∷ is (next banana 4) (entries (1 ∷ 3 ∷ 3 ∷ 6 ∷ 6 ∷ 6 ∷ []))
    ∷ is (next_match banana 4) (entries (0 ∷ 3 ∷ 0 ∷ 0 ∷ 0 ∷ 0 ∷ []))
    ∷ is (answers banana 4) (figures (halted 4 3 3 6))
    ∷ is (count banana 4) (number 6)
    ∷ is (tree banana 4) (entries (0x4D ∷ 0x00 ∷ []))
    -- "M9 tree 02 with n 2: refused 7. M10 tree 0F with n 2: 8. M11 tree 15 with n 2: 6."
    ∷ is (read 2 (0x02 ∷ [])) (number 7)
    ∷ is (read 2 (0x0F ∷ [])) (number 8)
    ∷ is (read 2 (0x15 ∷ [])) (number 6)
    -- "M12 longest word in banana at 1: `an`; at 6: refused 5."
    ∷ is (refusal_of_word banana 1) (number 0)
    ∷ is (word banana 1) (entries (97 ∷ 110 ∷ []))
    ∷ is (start_of_word banana 1) (number 1)
    ∷ is (refusal_of_word banana 6) (number 5)
    ∷ is (word banana 6) (entries [])
    ∷ is (start_of_word banana 6) (number 0)
    -- T-04: "bytes 97 to 122 compare as 65 to 90": as M7, M8 and M12, but that the word is the caller's own bytes
    ∷ is (previous ban_an_a 6) (entries (6 ∷ 6 ∷ 1 ∷ 6 ∷ 3 ∷ 6 ∷ []))
    ∷ is (next ban_an_a 6) (entries (1 ∷ 3 ∷ 3 ∷ 5 ∷ 5 ∷ 6 ∷ []))
    ∷ is (next_match ban_an_a 6) (entries (0 ∷ 3 ∷ 0 ∷ 1 ∷ 0 ∷ 0 ∷ []))
    ∷ is (lengths ban_an_a) (entries (1 ∷ 2 ∷ 1 ∷ 2 ∷ 1 ∷ 1 ∷ []))
    ∷ is (answers ban_an_a 6) (figures (finished 6 3 3 6))
    ∷ is (tree ban_an_a 6) (entries (0xCD ∷ 0x04 ∷ []))
    ∷ is (answers ban_an_a 4) (figures (halted 4 3 3 6))
    ∷ is (tree ban_an_a 4) (entries (0x4D ∷ 0x00 ∷ []))
    ∷ is (word ban_an_a 1) (entries (97 ∷ 110 ∷ []))
    ∷ is (word ban_an_a 3) (entries (65 ∷ 110 ∷ []))
    -- a ranks as A, below _: so no letter of `a_` is smaller than its first
    ∷ is (lengths underscore) (entries (2 ∷ 1 ∷ []))
    ∷ []

abbrev pub all_given : List Specimen → List Reply
all_given [] = []
all_given (s ∷ others) = given s.question ∷ all_given others

abbrev pub all_replies : List Specimen → List Reply
all_replies [] = []
all_replies (s ∷ others) = s.reply ∷ all_replies others

-- "M1 to M12 stand together in a table covered by one fact."
abbrev pub SpecimensHold : Type 0
SpecimensHold = all_given table ≡ all_replies table
