-- What a place reports, whatever numbers are given for its next and next-match.
use Rattle.std.specs.Prelude.{Bool, true, false, not, ◌&&◌, List, ℕ, ◌+◌, ltb, leb, length}
use Rattle.refusal.specs.Conditions.{too_long}
use Rattle.repeats.specs.Runs.{Run, no_run}
use Rattle.repeats.specs.Gathered.{report_of}

-- a place i with next j and next-match m, in a string of n letters or symbols
unfoldable pub is_within : (n i j m : ℕ) → Bool
is_within n i j m = ltb i j && leb (j + m) n

-- so are both, and the string is not too long
unfoldable pub are_within : (n i j m k l : ℕ) → Bool
are_within n i j m k l = not (too_long n) && (is_within n i j m && is_within n i k l)

-- else no run
unfoldable pub report_within : List ℕ → (i j m k l : ℕ) → Run
report_within y i j m k l = elim (are_within (length y) i j m k l) [ true ↦ report_of y i j m k l | false ↦ no_run ]
