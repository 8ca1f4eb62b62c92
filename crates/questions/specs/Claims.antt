-- What is claimed of questions put to a tree; the law of its name, in small letters with `_`, proves it in proofs/Laws.antt.
use Rattle.std.specs.Prelude.{◌≡◌, List, ℕ, ◌≤◌, ◌<◌, length}
use Rattle.suffix.specs.Nearest.{previous, next}
use Rattle.suffix.specs.Tree.{tree_bytes}
use Rattle.refusal.specs.Answers.{value}
use Rattle.questions.specs.Answers.{previous_answer, next_answer}

-- questions put to the tree of a finished build
abbrev pub QuestionsOfTheFinished : Type 0
QuestionsOfTheFinished =
    (y : List ℕ) (i : ℕ) → let n = length y in n ≤ 1000000 → i < n
    → (previous_answer n (tree_bytes y n) i ≡ value (previous y i)) × (next_answer n (tree_bytes y n) i ≡ value (next y i))
