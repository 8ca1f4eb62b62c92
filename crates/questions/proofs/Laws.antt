-- The claim of specs/Claims.antt, proved.
use mathlib.Core.Path.{◌≡◌, sym, ap, ◌∙◌}
use lib.ListN.{length, get_or}
use Rattle.suffix.specs.Nearest.{previous, next}
use Rattle.suffix.specs.Tree.{tree_bytes}
use Rattle.suffix.proofs.Search.{tabulate_entry}
use Rattle.refusal.specs.Conditions.{question_refusal}
use Rattle.shape.specs.Shape.{previous_table, next_table}
use Rattle.shape.proofs.Conditions.{tree_flaw, question_flaw}
use Rattle.shape.proofs.Laws.{whole, finished_tree}
use Rattle.refusal.specs.Answers.{value}
use Rattle.questions.specs.Answers.{previous_answer, next_answer}
use Rattle.questions.specs.Claims.{QuestionsOfTheFinished}
use Rattle.refusal.proofs.Answers.{answered_value}

pub questions_of_the_finished : QuestionsOfTheFinished
unfolding previous_answer next_answer
questions_of_the_finished y i h g =
    let n = length y in
    let t = tree_bytes y n in
    let F = finished_tree y h in
    let W = whole n t F.accepted in
    let e : question_refusal n t i ≡ 0 = question_flaw n t i h W.bytes g ∙ sym (tree_flaw n t h W.bytes) ∙ F.accepted in
    let p : get_or (previous_table n t) i 0 ≡ previous y i = ap (λ s. get_or s i 0) F.previous ∙ tabulate_entry (previous y) n i g in
    let x : get_or (next_table n t) i 0 ≡ next y i = ap (λ s. get_or s i 0) F.next ∙ tabulate_entry (next y) n i g in
    (sym (answered_value (question_refusal n t i) (get_or (previous_table n t) i 0) e) ∙ ap value p, sym (answered_value (question_refusal n t i) (get_or (next_table n t) i 0) e) ∙ ap value x)
