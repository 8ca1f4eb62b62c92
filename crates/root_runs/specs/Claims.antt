-- What is claimed of the report of a place. The claim is a type; the law of its name, in small letters with `_`, proves it in
-- proofs/Laws.antt.
use Rattle.std.specs.Prelude.{◌≡◌, List, ℕ, ◌≤◌, length}
use Rattle.repeats.specs.Gathered.{report_of}
use Rattle.root_runs.specs.States.{Within}
use Rattle.root_runs.specs.Bounds.{report_within}

-- where both lie in the string, it is the report of the roots
abbrev pub WithinAsReported : Type 0
WithinAsReported =
    (y : List ℕ) (i j m k l : ℕ) → length y ≤ 1000000 → Within (length y) i j m → Within (length y) i k l → report_within y i j m k l ≡ report_of y i j m k l
