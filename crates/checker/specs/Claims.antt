-- What is claimed of a check. Each claim is a type; the law of its name, in small letters with `_`, proves it in proofs/Laws.antt.
use Rattle.std.specs.Prelude.{◌≡◌, ◌≢◌, List, ℕ, ◌<◌, length, get_or}
use Rattle.suffix.specs.Search.{tabulate}
use Rattle.suffix.specs.Nearest.{next}
use Rattle.suffix.specs.Rows.{Tables}
use Rattle.outcome.specs.Built.{Lent, refusal_of, lent_at_exit}
use Rattle.checker.specs.Checked.{right, wrong_at, check_refusal, finding, work_at_exit}

-- "say 'right' exactly if every entry is the defined one, else give the least position whose entry is wrong"
pub record Finds (y claimed : List ℕ) (work : Tables) : Type 0 where
  pub if_right : finding y claimed work ≡ right → claimed ≡ tabulate (length y) (next y)
  pub right_if : claimed ≡ tabulate (length y) (next y) → finding y claimed work ≡ right
  pub wrong_is : (i : ℕ) → finding y claimed work ≡ wrong_at i → (i < length y) × (get_or claimed i 0 ≢ next y i)
  pub least : (i : ℕ) → finding y claimed work ≡ wrong_at i → (k : ℕ) → k < i → get_or claimed k 0 ≡ next y k
  pub wrong_if : (i : ℕ) → i < length y → get_or claimed i 0 ≢ next y i → ((k : ℕ) → k < i → get_or claimed k 0 ≡ next y k) → finding y claimed work ≡ wrong_at i

abbrev pub FindsTheLeastWrong : Type 0
FindsTheLeastWrong = (y claimed : List ℕ) (work : Tables) → check_refusal y claimed work ≡ 0 → Finds y claimed work

-- A finished build and a check of its next table: it is right, and "Four work tables hold what a finished build leaves in its four".
pub record Agree (y : List ℕ) (after : Lent) (work : Tables) : Type 0 where
  pub found : finding y after.tables.next work ≡ right
  pub left : work_at_exit y after.tables.next work ≡ after.tables

abbrev pub BuiltThenChecked : Type 0
BuiltThenChecked =
    (y : List ℕ) (before after : Lent) (work : Tables) → refusal_of y (length y) before ≡ 0 → after ≡ lent_at_exit y (length y) before
    → check_refusal y after.tables.next work ≡ 0 → Agree y after work
