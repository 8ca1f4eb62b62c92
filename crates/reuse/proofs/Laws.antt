-- The laws that prove specs/Claims.antt.
use mathlib.Core.Path.{sym, ◌∙◌}
use mathlib.Core.Logic.{inl, inr}
use Prim.Native.Nat.{suc, ◌-◌, ◌<◌}
use native.Mathlib.Omega.{arith}
use Rattle.reuse.specs.Steps.{asked, after_rows}
use Rattle.reuse.specs.Claims.{StepsAreExact, Recorded, HoldTheSame, RecordedBefore, StepTwoIsRecorded, RowsEnd}
use Rattle.reuse.proofs.Settle.{Filled, settle_shifted, settle_recorded}
use Rattle.reuse.proofs.Row.{Done, Holds, at_asked, advances_hold}
use Rattle.reuse.proofs.Exact.{row_starts, row_ends, rows_done, exact}

pub steps_are_exact : StepsAreExact
steps_are_exact = exact

pub step_two_is_recorded : StepTwoIsRecorded
step_two_is_recorded y r k s t l m pos small e w = go (rw e at (advances_hold y r small k (row_starts y r pos small (after_rows y r) D)))
  where
    D : Done y r (after_rows y r)
    D = rows_done y r pos (omega arith)

    -- what row r wrote is above l - d in next, and not in previous
    same_there : Filled y r (suc l) t → l < r → HoldTheSame t (after_rows y r).tables (l - s.shift) (r - s.shift)
    same_there T h =
        record {
          next = T.next_low (l - s.shift) (omega arith) (omega arith) ∙ sym (D.next (l - s.shift) (omega arith));
          next_match = T.next_match_low (l - s.shift) (omega arith) (omega arith) ∙ sym (D.next_match (l - s.shift) (omega arith));
          previous = T.previous (r - s.shift) (omega arith) ∙ sym (D.previous (r - s.shift) (omega arith));
          previous_match = T.previous_match (r - s.shift) (omega arith) ∙ sym (D.previous_match (r - s.shift) (omega arith));
        }

    before : HoldTheSame t (after_rows y r).tables (l - s.shift) (r - s.shift) → Recorded t (l - s.shift) (r - s.shift) → Recorded (after_rows y r).tables (l - s.shift) (r - s.shift)
    before H (inl q) = inl (sym H.next ∙ q)
    before H (inr q) = inr (sym H.previous ∙ q)

    go : Holds y r (asked s t l m) → RecordedBefore y r s t l
    go (at_asked A) =
        let H : HoldTheSame t (after_rows y r).tables (l - s.shift) (r - s.shift) = same_there A.asked.filled A.asked.edge.before in
        let q = settle_recorded small A.asked w in
        record { in_use = settle_shifted small A.asked w; inside = q.0; recorded = before H q.1; kept = H }

pub rows_end : RowsEnd
rows_end y r pos small = row_ends y r pos small (after_rows y r) (rows_done y r pos (omega arith))
