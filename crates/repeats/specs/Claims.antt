-- What is claimed of runs. Each claim is a type; the law of its name, in small letters with `_`, proves it in proofs/Laws.antt.
use Rattle.std.specs.Prelude.{◌≡◌, ◌≢◌, ◌⊎◌, Bool, true, false, List, [], ◌∷◌, map, ℕ, ◌-◌, ◌≤◌, ◌<◌, length}
use Rattle.ranks.specs.Ranks.{ranks, oriented_from}
use Rattle.repeats.specs.Runs.{Run, IsRun, is_run}
use Rattle.repeats.specs.Report.{Before, before, ListsRuns, runs}
use Rattle.repeats.specs.Roots.{AtMost, IsRoot, Root, accepted, reported}
use Rattle.repeats.specs.Gathered.{gathered}
use Rattle.repeats.specs.Refusals.{Lists, runs_refusal}
use Rattle.repeats.specs.Answers.{zeros, lists_after, work_after}

abbrev pub TestsTellRuns : Type 0
TestsTellRuns = (y : List ℕ) (r : Run) → (is_run y r ≡ true → IsRun y r) × (IsRun y r → is_run y r ≡ true)

abbrev pub TestTellsOrder : Type 0
TestTellsOrder = (r q : Run) → (before r q ≡ true → Before r q) × (Before r q → before r q ≡ true)

-- "The report lists every run of a string once, by start and then by period": and no other list does
abbrev pub ReportIsExact : Type 0
ReportIsExact = (y : List ℕ) → ListsRuns y (runs y) × ((l : List Run) → ListsRuns y l → l ≡ runs y)

-- "For banana it is one run: 1, 6, 2."
abbrev pub BananaHasOneRun : Type 0
BananaHasOneRun = runs (ranks (98 ∷ 97 ∷ 110 ∷ 97 ∷ 110 ∷ 97 ∷ [])) ≡ record { start = 1; end = 6; period = 2 } ∷ []

-- T-14: "any string of n ≥ 1 symbols has fewer than n runs"
abbrev pub FewerRunsThanLetters : Type 0
FewerRunsThanLetters = (y : List ℕ) → 1 ≤ length y → length (runs y) < length y

-- ---- what is refused

-- T-14: "so 13 never occurs with lists of n − 1 entries or more"
abbrev pub EnoughRoom : Type 0
EnoughRoom =
    (y : List ℕ) (work : List (List ℕ)) (lists : Lists) → length y - 1 ≤ length lists.starts → runs_refusal y work lists ≢ 13

-- what is left by a refusal: the lists; and the work tables, but for 13
pub record Leaves (y : List ℕ) (work : List (List ℕ)) (lists : Lists) : Type 0 where
  pub same_lists : runs_refusal y work lists ≢ 0 → lists_after y work lists ≡ lists
  pub same_work : runs_refusal y work lists ≢ 0 → runs_refusal y work lists ≢ 13 → work_after y work lists ≡ work
  pub cleared : (runs_refusal y work lists ≡ 0) ⊎ (runs_refusal y work lists ≡ 13) → work_after y work lists ≡ map zeros work

abbrev pub RefusalsLeave : Type 0
RefusalsLeave = (y : List ℕ) (work : List (List ℕ)) (lists : Lists) → Leaves y work lists

-- ---- the two orders

-- a run is the same under the reverse order
abbrev pub ReversedHasTheSame : Type 0
ReversedHasTheSame =
    (top : ℕ) (y : List ℕ) → AtMost top y
    → ((r : Run) → (IsRun y r → IsRun (oriented_from top true y) r) × (IsRun (oriented_from top true y) r → IsRun y r)) × (runs (oriented_from top true y) ≡ runs y)

pub record LeadToRuns (top : ℕ) (y : List ℕ) : Type 0 where
  -- every run has one root, at one place under one order
  pub some : (r : Run) → IsRun y r → Root top y r
  pub once : (r : Run) → IsRun y r → (a b : Root top y r) → (a.place ≡ b.place) × (a.reverse ≡ b.reverse)
  -- a place is accepted under an order exactly if it is the root of a run, and that run is reported
  pub sound : (reverse : Bool) (i : ℕ) → accepted top y reverse i ≡ true
      → IsRun y (reported top y reverse i) × IsRoot top y (reported top y reverse i) reverse i
  pub complete : (r : Run) (reverse : Bool) (i : ℕ) → IsRun y r → IsRoot top y r reverse i
      → (accepted top y reverse i ≡ true) × (reported top y reverse i ≡ r)
  -- the places that report are among 1 to n - 1, each under one order only
  pub within : (reverse : Bool) (i : ℕ) → accepted top y reverse i ≡ true → (1 ≤ i) × (i < length y)
  pub one_order : (i : ℕ) → accepted top y false i ≡ true → accepted top y true i ≡ false
  -- what they report, in order, is the report
  pub gathers : gathered top y (length y) ≡ runs y

-- "The Lyndon roots under the byte order and under its reverse (document 000) lead to them."
abbrev pub RootsLeadToRuns : Type 0
RootsLeadToRuns = (top : ℕ) (y : List ℕ) → AtMost top y → LeadToRuns top y
