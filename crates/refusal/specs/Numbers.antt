-- Document 01, "Who can cause which refusal", and document 02: the number of each refusal, and which one is returned.
use Rattle.std.specs.Prelude.{Bool, true, false, List, [], ◌∷◌, ℕ, suc, eqb, Result, Ok, Err}
use Rattle.refusal.specs.declared.Refusal.{Refusal}
use Rattle.refusal.specs.declared.Refusal.TheVariants.{TooLong, TableLength, TreeLength, TooManyRows, PositionOutside, SpareBitSet, ClosedTooEarly, LeftOpen, NotMarked, TooManyEntries, WrongContents, ListLengths, TooManyRuns, SizeOutside}

-- "1: n above 1,000,000." to "8: no such place, but not all are closed."; T-01: "10 for a count above 64; 11 where the contents are cut
-- short" and the rest of that sentence; T-03: "12 where the three lists differ in length, and 13 exactly where there are more runs than entries";
-- T-04: "9 now means a file under 8 bytes or with neither mark."; T-09: "14 for a size outside 1 to 12"
abbrev pub number_of : Refusal → ℕ
number_of TooLong = 1
number_of TableLength = 2
number_of TreeLength = 3
number_of TooManyRows = 4
number_of PositionOutside = 5
number_of SpareBitSet = 6
number_of ClosedTooEarly = 7
number_of LeftOpen = 8
number_of NotMarked = 9
number_of TooManyEntries = 10
number_of WrongContents = 11
number_of ListLengths = 12
number_of TooManyRuns = 13
number_of SizeOutside = 14

-- the number of a verdict: 0 where nothing is refused
abbrev pub verdict_number : Result (Unit {0}) Refusal → ℕ
verdict_number (Ok accepted) = 0
verdict_number (Err k) = number_of k

-- "The lowest number that applies is returned, and none is returned otherwise." The conditions stand in the order of their
-- numbers, the first of them having number k; 0 is none.
unfoldable pub lowest_from : ℕ → List Bool → ℕ
lowest_from k [] = 0
lowest_from k (true ∷ conditions) = k
lowest_from k (false ∷ conditions) = lowest_from (suc k) conditions

-- of conditions 1, 2, 3 and so on
unfoldable pub lowest : List Bool → ℕ
lowest conditions = lowest_from 1 conditions

-- Document 02's requests give the order of their tests, which decides there: of the numbers of the tests in that order, 0 where a test finds
-- nothing, the first that is not 0
unfoldable pub first_of : List ℕ → ℕ
first_of [] = 0
first_of (number ∷ numbers) = elim (eqb number 0) [ true ↦ first_of numbers | false ↦ number ]

-- the number of a test: the refusal's where its condition applies
abbrev pub number_if : Bool → Refusal → ℕ
number_if true refusal = number_of refusal
number_if false refusal = 0

-- one thing where nothing is refused, another where something is
unfoldable pub unless_refused : {A : Type 0} → ℕ → A → A → A
unless_refused number a other = elim (eqb number 0) [ true ↦ a | false ↦ other ]
