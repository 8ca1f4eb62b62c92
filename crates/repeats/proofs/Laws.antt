-- The claims of specs/Claims.antt.
use mathlib.Core.Path.{◌≡◌, refl, sym}
use mathlib.Core.Logic.{◌⊎◌, inl, inr}
use mathlib.Core.Bool.{Bool, true, false}
use mathlib.Core.List.{[], ◌∷◌, map}
use Prim.Native.Nat.{ℕ}
use native.Mathlib.Omega.{arith}
use lib.ListN.{length}
use borrow.Author.Tests.{ltb-true, eq-eqb, ne_eqb}
use Rattle.suffix.specs.Search.{all_below, any_below}
use Rattle.suffix.specs.Order.{lcp, lce}
use Rattle.suffix.specs.Periods.{has_period}
use Rattle.ranks.specs.Ranks.{rank, oriented_from}
use Rattle.refusal.specs.declared.Refusal.TheVariants.{TooLong, TableLength, ListLengths, TooManyRuns}
use Rattle.refusal.specs.Numbers.{number_if, first_of}
use Rattle.refusal.specs.Conditions.{too_long}
use Rattle.refusal.proofs.Numbers.{unless_refused_lem}
use Rattle.repeats.specs.Runs.{Run, IsRun, is_run}
use Rattle.repeats.specs.Report.{ListsRuns, run_at, runs_from, runs_after, runs}
use Rattle.repeats.specs.Refusals.{list_lengths_differ, work_length_off, too_many_runs, runs_refusal}
use Rattle.repeats.specs.Answers.{zeros, lists_after, work_after}
use Rattle.repeats.specs.Claims as claims
use Rattle.repeats.proofs.Meaning.{run_told, tell_run}
use Rattle.repeats.proofs.Reversed.{reversed_run}
use Rattle.repeats.proofs.Ordering.{before_told, before_yes}
use Rattle.repeats.proofs.Listing.{lists_runs, lists_only}
use Rattle.repeats.proofs.Roots.{accepted_within, reported_run, reported_root, root_reports, run_root, root_once, one_order}
use Rattle.repeats.proofs.Gathering.{gathered_is, fewer_runs, runs_most}

pub tests_tell_runs : claims.TestsTellRuns
tests_tell_runs y r = (run_told y r, tell_run y r)

pub test_tells_order : claims.TestTellsOrder
test_tells_order r q = (before_told r q, before_yes)

pub report_is_exact : claims.ReportIsExact
report_is_exact y = (lists_runs y, lists_only y)

pub fewer_runs_than_letters : claims.FewerRunsThanLetters
fewer_runs_than_letters y h = omega (arith, fewer_runs y (omega arith))

pub banana_has_one_run : claims.BananaHasOneRun
unfolding rank runs runs_after runs_from run_at is_run has_period all_below any_below lce lcp
banana_has_one_run = refl

pub reversed_has_the_same : claims.ReversedHasTheSame
reversed_has_the_same top y B = (both, sym (lists_only (oriented_from top true y) (runs y) L))
  where
    both : (r : Run) → (IsRun y r → IsRun (oriented_from top true y) r) × (IsRun (oriented_from top true y) r → IsRun y r)
    both = reversed_run top y B

    L : ListsRuns (oriented_from top true y) (runs y)
    L =
        record {
          runs_only = λ r m. (both r).0 ((lists_runs y).runs_only r m);
          every = λ r I. (lists_runs y).every r ((both r).1 I);
          ordered = (lists_runs y).ordered;
        }

pub roots_lead_to_runs : claims.RootsLeadToRuns
roots_lead_to_runs top y B =
    record {
      some = run_root top y B;
      once = root_once top y B;
      sound = λ o i e. (reported_run top y B o i e, reported_root top y B o i e);
      complete = root_reports top y B;
      within = λ o i e. let w = accepted_within top y o i e in (omega arith, omega arith);
      one_order = one_order top y B;
      gathers = gathered_is B;
    }

-- ---- what is refused

thirteen : (a b c d : Bool) → first_of (number_if a TooLong ∷ number_if b TableLength ∷ number_if c ListLengths ∷ number_if d TooManyRuns ∷ []) ≡ 13 → d ≡ true
unfolding first_of
thirteen true b c d e = absurd (omega arith)
thirteen false true c d e = absurd (omega arith)
thirteen false false true d e = absurd (omega arith)
thirteen false false false true e = refl
thirteen false false false false e = absurd (omega arith)

pub enough_room : claims.EnoughRoom
unfolding runs_refusal
enough_room y work lists h e =
    let size = length lists.starts in
    let d = thirteen (too_long (length y)) (work_length_off (length y) (map length work)) (list_lengths_differ size (length lists.ends) (length lists.periods)) (too_many_runs y size) e in
    omega (arith, ltb-true size (length (runs y)) d, runs_most y)

pub refusals_leave : claims.RefusalsLeave
unfolding lists_after work_after
refusals_leave y work lists =
    record {
      same_lists = unless_refused_lem number _ lists;
      same_work = λ a b. rw (ne_eqb number 0 a, ne_eqb number 13 b, work_after);
      cleared = wiped;
    }
  where
    number : ℕ
    number = runs_refusal y work lists

    wiped : (number ≡ 0) ⊎ (number ≡ 13) → work_after y work lists ≡ map zeros work
    wiped (inl e) = rw (eq-eqb number 0 e, work_after)
    wiped (inr e) = rw (ne_eqb number 0 (omega arith), eq-eqb number 13 e, work_after)
