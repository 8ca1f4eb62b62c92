-- The roots of the two orders lead to the runs: each run has one, and the accepted places are the roots.
use mathlib.Core.Path.{◌≡◌, refl, sym, ap, ◌∙◌}
use mathlib.Core.Logic.{◌⊎◌, inl, inr}
use mathlib.Core.Bool.{Bool, true, false, true≢false}
use mathlib.Core.List.{List}
use Prim.Native.Nat.{ℕ, suc, ◌+◌, ◌-◌, ◌≤◌, ◌<◌}
use native.Mathlib.Omega.{arith}
use lib.ListN.{length}
use Rattle.suffix.specs.Nearest.{next, next_match}
use Rattle.suffix.specs.Lyndon.{longest_lyndon}
use Rattle.suffix.proofs.Cases.{Test, holds, fails, test}
use Rattle.suffix.proofs.Edges.{NextAt}
use Rattle.suffix.proofs.Order.{lce_match, lce_is}
use Rattle.suffix.proofs.Nearest.{next_at_lem, next_is, next_le, next_match_is}
use Rattle.suffix.proofs.Laws.{longest_is_next}
use Rattle.ranks.proofs.Ranks.{oriented_length}
use Rattle.repeats.specs.Runs.{Run, IsRun}
use Rattle.repeats.specs.Roots.{AtMost, IsRoot, Root, left_of, reports, accepted, reported}
use Rattle.repeats.proofs.Longest.{longest_lyndon_lem, next_longest, longest_next}
use Rattle.repeats.proofs.Periods.{RunOf, RootOf, left_unique, run_match, run_left, sound}
use Rattle.repeats.proofs.Rotations.{Found}
use Rattle.repeats.proofs.Orders.{pattern_sym, pattern_run, pattern_left, complete_in, order_once, place_once, same_place}
use Rattle.repeats.proofs.Meaning.{run_of, of_run}
use Rattle.repeats.proofs.Reversed as reversed
use Rattle.repeats.proofs.Accepting.{left_most, left_is, Accepts, accepts_told, tell_accepts}
use Rattle.repeats.proofs.Listing.{run_eq}

-- a place that reports r
pub record Reporter (top : ℕ) (y : List ℕ) (r : Run) : Type 0 where
  pub reverse : Bool
  pub place : ℕ
  pub ok : accepted top y reverse place ≡ true
  pub says : reported top y reverse place ≡ r

module _ (top : ℕ) (y : List ℕ) where
  abbrev z : Bool → List ℕ
  z = reversed.z top y

  abbrev f : Bool → ℕ → ℕ
  f = reversed.f top y

  pub accepted_within : (o : Bool) (i : ℕ) → accepted top y o i ≡ true → (1 ≤ i) × (i < length y)
  unfolding accepted
  accepted_within o i e =
      let A = accepts_told y o i (next (z o) i) (next_match (z o) i) e in
      (omega (arith, A.one, left_most y (suc (next (z o) i - i)) i (next (z o) i)), omega (arith, A.one, A.uncut, next_le (z o) i, oriented_length top o y))

  module _ (B : AtMost top y) where
    -- an accepted place is a root
    root : (o : Bool) (i : ℕ) → accepted top y o i ≡ true → RootOf (f o) (length y) i (next (z o) i) (next_match (z o) i) (left_of y i (next (z o) i))
    unfolding accepted
    root o i e =
        record {
          next = N;
          inn = fits;
          match = rw (next_match_is (z o) i h) (lce_match (z o) i j (omega (arith, N.after)) (omega (arith, h)) (next_le (z o) i));
          left = pattern_left (reversed.pattern top y B o) (omega (arith, N.after)) fits (left_is y (suc (j - i)) i j (omega (arith, N.after)));
          one = A.one;
          uncut = A.uncut;
          twice = A.twice;
        }
      where
        j : ℕ
        j = next (z o) i

        A : Accepts y o i j (next_match (z o) i)
        A = accepts_told y o i j (next_match (z o) i) e

        h : i < length (z o)
        h = omega (arith, oriented_length top o y, accepted_within o i e)

        N : NextAt (f o) i j
        N = next_at_lem (z o) i h

        fits : j ≤ length y
        fits = omega (arith, oriented_length top o y, next_le (z o) i)

    reverse_ends : (i : ℕ) → accepted top y true i ≡ true → next (z true) i + next_match (z true) i < length y
    unfolding accepted
    reverse_ends i e = (accepts_told y true i _ _ e).ends refl

    -- what an accepted place reports is a run
    pub reported_run : (o : Bool) (i : ℕ) → accepted top y o i ≡ true → IsRun y (reported top y o i)
    unfolding reported reports
    reported_run o i e = of_run y (reported top y o i) (pattern_run (pattern_sym (reversed.pattern top y B o)) (sound (f o) (reversed.ends top y B o) (root o i e)))

    -- in a run, a place of the first period whose next is a period on is accepted, and reports the run
    next_reports : {r : Run} → IsRun y r → (o : Bool) (i : ℕ) → r.start < i → i ≤ r.start + r.period → NextAt (f o) i (i + r.period) → (o ≡ true → r.end < length y)
        → (accepted top y o i ≡ true) × (reported top y o i ≡ r)
    unfolding accepted reported reports
    next_reports {r} I o i a b N w =
        let p = r.period in
        let m = r.end - p - i in
        (rw (at, match) (tell_accepts y o i (i + p) m (record { one = omega (arith, left); uncut = omega (arith, left); twice = omega (arith, left, R.long); ends = λ t. omega (arith, w t, R.long) })), rw (at, match) (run_eq (omega (arith, left)) (omega (arith, R.long)) (omega arith)))
      where
        R : RunOf (f o) (length y) r.start r.end r.period
        R = pattern_run (reversed.pattern top y B o) (run_of y r I)

        h : i < length (z o)
        h = omega (arith, oriented_length top o y, R.long, R.fits, R.pos)

        at : next (z o) i ≡ i + r.period
        at = next_is (z o) i h (i + r.period) N

        match : next_match (z o) i ≡ r.end - r.period - i
        match =
            next_match_is (z o) i h
            ∙ rw at (lce_is (z o) i (i + r.period) (omega (arith, R.pos)) (omega (arith, h)) (omega (arith, oriented_length top o y, R.long, R.fits)) (r.end - r.period - i) (run_match (f o) (reversed.ends top y B o) R i (omega arith) (omega (arith, R.long))))

        left : left_of y i (i + r.period) ≡ i - r.start
        left =
            let p = r.period in
            let q : i + p - i ≡ p = omega arith in
            rw q
            (left_unique (f o) (pattern_left (reversed.pattern top y B o) (omega arith) (omega (arith, R.long, R.fits)) (left_is y (suc p) i (i + p) (omega arith))) (run_left (f o) R i a b))

    pub root_reports : (r : Run) (o : Bool) (i : ℕ) → IsRun y r → IsRoot top y r o i → (accepted top y o i ≡ true) × (reported top y o i ≡ r)
    root_reports r o i I T =
        next_reports I o i T.after_start T.first_period
        (longest_next (z o) i r.period (omega (arith, oriented_length top o y, T.first_period, I.long, I.inside, I.positive)) T.longest) T.before_end

    -- a run has a root
    pub run_root : (r : Run) → IsRun y r → Root top y r
    run_root r I = go (complete_in (f false) (f true) (reversed.reverses top y B) (pattern_run (reversed.pattern top y B false) (run_of y r I)))
      where
        found : (o : Bool) → Found (f o) r.start r.end r.period → (o ≡ true → r.end < length y) → Root top y r
        found o F w =
            let e = next_longest (z o) F.place r.period (omega (arith, oriented_length top o y, F.upto, I.long, I.inside, I.positive)) F.next in
            record {
              reverse = o;
              place = F.place;
              is_root =
                  record {
                    after_start = F.above;
                    first_period = F.upto;
                    lyndon = longest_lyndon_lem (z o) F.place r.period I.positive e;
                    longest = e;
                    before_end = w;
                  };
            }

        go : Found (f false) r.start r.end r.period ⊎ ((r.end < length y) × Found (f true) r.start r.end r.period) → Root top y r
        go (inl F) = found false F (λ t. absurd (true≢false (sym t)))
        go (inr u) = found true u.1 (λ t. u.0)

    -- what an accepted place reports has its root there
    pub reported_root : (o : Bool) (i : ℕ) → accepted top y o i ≡ true → IsRoot top y (reported top y o i) o i
    unfolding accepted reported reports
    reported_root o i e =
        record {
          after_start = omega (arith, A.one, within);
          first_period = omega (arith, A.uncut, left_most y (suc (j - i)) i j);
          lyndon = longest_lyndon_lem (z o) i (j - i) (omega (arith, A.one, A.uncut)) is;
          longest = is;
          before_end = A.ends;
        }
      where
        j : ℕ
        j = next (z o) i

        A : Accepts y o i j (next_match (z o) i)
        A = accepts_told y o i j (next_match (z o) i) e

        within : (1 ≤ i) × (i < length y)
        within = accepted_within o i e

        is : longest_lyndon (z o) i ≡ j - i
        is = longest_is_next (z o) i (omega (arith, within, oriented_length top o y))

    root_reporter : {r : Run} → IsRun y r → Root top y r → Reporter top y r
    root_reporter {r} I a =
        let u = root_reports r a.reverse a.place I a.is_root in
        record { reverse = a.reverse; place = a.place; ok = u.0; says = u.1 }

    pub run_reported : (r : Run) → IsRun y r → Reporter top y r
    run_reported r I = root_reporter I (run_root r I)

    -- a run is reported at one place, in one order
    pub reported_once : {r : Run} (a b : Reporter top y r) → (a.place ≡ b.place) × (a.reverse ≡ b.reverse)
    unfolding reported reports
    reported_once {r} a b = go a.reverse b.reverse a.place b.place a.ok b.ok (a.says ∙ sym b.says)
      where
        start : {r q : Run} → r ≡ q → r.start ≡ q.start
        start e = ap (λ (v : Run). v.start) e

        period : {r q : Run} → r ≡ q → r.period ≡ q.period
        period e = ap (λ (v : Run). v.period) e

        mixed : (i k : ℕ) → accepted top y false i ≡ true → accepted top y true k ≡ true → reported top y false i ≡ reported top y true k → ⊥
        mixed i k a b e = order_once (f false) (f true) (reversed.reverses top y B) (root false i a) (root true k b) (reverse_ends k b) (ap (λ (v : Run). v.end) e) (period e)

        go : (o u : Bool) (i k : ℕ) → accepted top y o i ≡ true → accepted top y u k ≡ true → reported top y o i ≡ reported top y u k → (i ≡ k) × (o ≡ u)
        go false false i k a b e = (same_place (f false) (root false i a) (root false k b) (start e) (period e), refl)
        go true true i k a b e = (same_place (f true) (root true i a) (root true k b) (start e) (period e), refl)
        go false true i k a b e = absurd (mixed i k a b e)
        go true false i k a b e = absurd (mixed k i b a (sym e))

    -- so it has one root
    pub root_once : (r : Run) → IsRun y r → (a b : Root top y r) → (a.place ≡ b.place) × (a.reverse ≡ b.reverse)
    unfolding root_reporter
    root_once r I a b = reported_once (root_reporter I a) (root_reporter I b)

    -- a place reports in one order at most
    pub one_order : (i : ℕ) → accepted top y false i ≡ true → accepted top y true i ≡ false
    one_order i e = go (test (accepted top y true i))
      where
        go : Test (accepted top y true i) → accepted top y true i ≡ false
        go (holds q) = absurd (place_once (f false) (f true) (reversed.reverses top y B) (root false i e) (root true i q) (reverse_ends i q))
        go (fails q) = q
