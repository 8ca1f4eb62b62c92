-- `refusal::tables_verdict` meets its contract.
use native.Mathlib.Omega.{arith}
use Rattle.refusal.proofs.Tables.{says_one, says_two, says_none}
use Rattle.refusal.proofs.tables_verdict.Goals as goal
use Rattle.refusal.proofs.tables_verdict.Goals.{then-previous-n-via-then-previous-n, then-previous-n-via-else-previous-n+then-next-n, then-previous-n-via-else-previous-n+else-next-n+then-previous_match-n, then-previous-n-via-else-previous-n+else-next-n+else-previous_match-n+then-next_match-n}

pub returns-then-n-gt1000000 : goal.returns-then-n-gt1000000
returns-then-n-gt1000000 c = says_one _ _ _ _ _ (omega arith) (omega arith)

pub returns-then-previous-n : goal.returns-then-previous-n
returns-then-previous-n c =
    says_two _ _ _ _ _ (omega arith)
    (λ t.
    elim c.then-previous-n.branch [
      | then-previous-n-via-then-previous-n w ↦ omega arith
      | then-previous-n-via-else-previous-n+then-next-n w ↦ omega arith
      | then-previous-n-via-else-previous-n+else-next-n+then-previous_match-n w ↦ omega arith
      | then-previous-n-via-else-previous-n+else-next-n+else-previous_match-n+then-next_match-n w ↦ omega arith
    ])
    (omega arith)

pub returns : goal.returns
returns c =
    says_none _ _ _ _ _ (record { few = omega arith; previous = omega arith; next = omega arith; previous_match = omega arith; next_match = omega arith }) (omega arith)
