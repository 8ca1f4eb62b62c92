-- Which strings are answered alike. Each claim is a type; the law of its name, in small letters with `_`, proves it in proofs/Laws.antt.
use Rattle.std.specs.Prelude.{◌≡◌, true, false, List, [], ℕ}
use Rattle.suffix.specs.Rows.{Tables}
use Rattle.ranks.specs.Ranks.{ranks, string_of}
use Rattle.ranks.specs.Claims.{Unmasked, SameLetters}
use Rattle.outcome.specs.Built.{Lent, answer, lent_at_exit}
use Rattle.checker.specs.Checked as checker
use Rattle.repeats.specs.Refusals.{Lists}
use Rattle.repeats.specs.Answers as repeats
use Rattle.replies.specs.Replies.{word_reply}

-- a build, the longest-word question, the report of all runs and a check answer the same of both, and leave the same in the same memory
pub record AnsweredAlike (y z : List ℕ) : Type 0 where
  pub build : (R : ℕ) (before : Lent) → answer y R before ≡ answer z R before
  pub build_leaves : (R : ℕ) (before : Lent) → lent_at_exit y R before ≡ lent_at_exit z R before
  pub word : (i : ℕ) → word_reply y i ≡ word_reply z i
  pub runs : (work : List (List ℕ)) (lists : Lists) → repeats.answer y work lists ≡ repeats.answer z work lists
  pub runs_lists : (work : List (List ℕ)) (lists : Lists) → repeats.lists_after y work lists ≡ repeats.lists_after z work lists
  pub runs_work : (work : List (List ℕ)) (lists : Lists) → repeats.work_after y work lists ≡ repeats.work_after z work lists
  pub check : (claimed : List ℕ) (work : Tables) → checker.finding y claimed work ≡ checker.finding z claimed work
  pub check_leaves : (claimed : List ℕ) (work : Tables) → checker.work_at_exit y claimed work ≡ checker.work_at_exit z claimed work

-- T-04: "the trade counts a masked base as the same base": so it is of letters that differ in masking alone, as a string and the same in capitals
abbrev pub MaskingChangesNoAnswer : Type 0
MaskingChangesNoAnswer = (letters others : List ℕ) → SameLetters letters others → AnsweredAlike (ranks letters) (ranks others)

-- T-07: "Symbols compare as numbers, with no masking.": so it is of letters, none of them small, and of symbols of the same values
abbrev pub WideningChangesNoAnswer : Type 0
WideningChangesNoAnswer = (letters : List ℕ) → Unmasked letters → AnsweredAlike (string_of false letters []) (string_of true [] letters)
