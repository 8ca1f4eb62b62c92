-- The claims of specs/Claims.antt, each proved.
use mathlib.Core.Path.{◌≡◌, ap}
use mathlib.Core.List.{List}
use Prim.Native.Nat.{ℕ}
use Rattle.ranks.proofs.Laws.{unmasked_are_their_ranks, same_letters_same_ranks}
use Rattle.outcome.specs.Built.{answer, lent_at_exit}
use Rattle.checker.specs.Checked as checker
use Rattle.repeats.specs.Answers as repeats
use Rattle.replies.specs.Replies.{word_reply}
use Rattle.replies.specs.Claims.{AnsweredAlike, MaskingChangesNoAnswer, WideningChangesNoAnswer}

-- one and the same string
alike : {y z : List ℕ} → y ≡ z → AnsweredAlike y z
alike e =
    record {
      build = λ R before. ap (λ y. answer y R before) e;
      build_leaves = λ R before. ap (λ y. lent_at_exit y R before) e;
      word = λ i. ap (λ y. word_reply y i) e;
      runs = λ work lists. ap (λ y. repeats.answer y work lists) e;
      runs_lists = λ work lists. ap (λ y. repeats.lists_after y work lists) e;
      runs_work = λ work lists. ap (λ y. repeats.work_after y work lists) e;
      check = λ claimed work. ap (λ y. checker.finding y claimed work) e;
      check_leaves = λ claimed work. ap (λ y. checker.work_at_exit y claimed work) e;
    }

pub masking_changes_no_answer : MaskingChangesNoAnswer
masking_changes_no_answer letters others S = alike ((same_letters_same_ranks letters others).0 S)

pub widening_changes_no_answer : WideningChangesNoAnswer
widening_changes_no_answer letters h = alike (unmasked_are_their_ranks letters h)
