-- Document 01, "The tree" and "Who can cause which refusal": what questions put to a tree answer.
use Rattle.std.specs.Prelude.{◌&&◌, List, ℕ, ◌*◌, eqb, get_or}
use Rattle.suffix.specs.Search.{least_from}
use Rattle.refusal.specs.Answers.{Figures, answered}
use Rattle.refusal.specs.Conditions.{bit_of, openings, question_refusal}
use Rattle.shape.specs.Shape.{previous_table, next_table}

-- "bit place of the opening": the least of the 2n bits that opens and has i openings before it
unfoldable pub place_of : ℕ → List ℕ → ℕ → ℕ
place_of n t i = least_from 0 (2 * n) (λ k. bit_of t k && eqb (openings t k) i) (2 * n)

-- "Questions to a tree: previous, next, and bit place of the opening, for one position."
unfoldable pub previous_answer : ℕ → List ℕ → ℕ → Figures
previous_answer n t i = answered (question_refusal n t i) (get_or (previous_table n t) i 0)

unfoldable pub next_answer : ℕ → List ℕ → ℕ → Figures
next_answer n t i = answered (question_refusal n t i) (get_or (next_table n t) i 0)

unfoldable pub place_answer : ℕ → List ℕ → ℕ → Figures
place_answer n t i = answered (question_refusal n t i) (place_of n t i)
