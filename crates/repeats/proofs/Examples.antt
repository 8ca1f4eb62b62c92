-- Worked strings, by computation: the report by its definition and as the places of the two orders give it; what is a run, and a root, and
-- what is none.
use mathlib.Core.Path.{◌≡◌, refl, sym}
use mathlib.Core.Logic.{◌⊎◌, inl, inr}
use mathlib.Core.Bool.{true, false, true≢false}
use mathlib.Core.List.Memᴰ
use mathlib.Core.List.{List, [], ◌∷◌, Memᴰ, map}
use Prim.Native.Nat.{ℕ, ◌+◌, ◌≤◌, ◌<◌}
use lib.ListN.{get_or}
use native.Mathlib.Omega.{arith}
use Rattle.suffix.specs.Search.{greatest_below, least_from, all_below, any_below}
use Rattle.suffix.specs.Order.{lcp, lce, lex_less, suffix_less}
use Rattle.suffix.specs.Nearest.{next, next_match}
use Rattle.suffix.specs.Lyndon.{is_lyndon, part, longest_lyndon}
use Rattle.suffix.specs.Periods.{has_period}
use Rattle.suffix.proofs.Cases.{le_unless}
use Rattle.suffix.proofs.Periods.{period_told}
use Rattle.repeats.specs.Runs.{Run, IsRun, is_run}
use Rattle.repeats.specs.Report.{Before, earlier, shorter, Ordered, none, then, before, run_at, runs_from, runs_after, runs}
use Rattle.repeats.specs.Roots.{IsRoot, left_from, accepts, accepted, reports}
use Rattle.repeats.specs.Gathered.{report_of, report_at, insert, put, gathered}

abbrev run : ℕ → ℕ → ℕ → Run
run s e p = record { start = s; end = e; period = p }

abbrev banana : List ℕ
banana = 98 ∷ 97 ∷ 110 ∷ 97 ∷ 110 ∷ 97 ∷ []

abbrev mississippi : List ℕ
mississippi = 109 ∷ 105 ∷ 115 ∷ 115 ∷ 105 ∷ 115 ∷ 115 ∷ 105 ∷ 112 ∷ 112 ∷ 105 ∷ []

abbrev aabaabaa : List ℕ
aabaabaa = 97 ∷ 97 ∷ 98 ∷ 97 ∷ 97 ∷ 98 ∷ 97 ∷ 97 ∷ []

abbrev aabba : List ℕ
aabba = 97 ∷ 97 ∷ 98 ∷ 98 ∷ 97 ∷ []

abbrev aaaa : List ℕ
aaaa = 97 ∷ 97 ∷ 97 ∷ 97 ∷ []

abbrev aa : List ℕ
aa = 97 ∷ 97 ∷ []

-- ---- the report

by_definition :
    map runs (banana ∷ mississippi ∷ aabaabaa ∷ aabba ∷ aaaa ∷ aa ∷ (97 ∷ []) ∷ [] ∷ [])
    ≡ (run 1 6 2 ∷ [])
    ∷ (run 1 8 3 ∷ run 2 4 1 ∷ run 5 7 1 ∷ run 8 10 1 ∷ [])
    ∷ (run 0 2 1 ∷ run 0 8 3 ∷ run 3 5 1 ∷ run 6 8 1 ∷ [])
    ∷ (run 0 2 1 ∷ run 2 4 1 ∷ [])
    ∷ (run 0 4 1 ∷ [])
    ∷ (run 0 2 1 ∷ [])
    ∷ []
    ∷ []
    ∷ []
unfolding runs runs_after runs_from run_at is_run has_period all_below any_below lce lcp
by_definition = refl

by_places :
    gathered 255 banana 6 ∷ gathered 255 mississippi 11 ∷ gathered 98 aabaabaa 8 ∷ gathered 255 aabba 5 ∷ gathered 97 aaaa 4 ∷ gathered 255 aa 2 ∷ gathered 255 [] 0 ∷ []
    ≡ (run 1 6 2 ∷ [])
    ∷ (run 1 8 3 ∷ run 2 4 1 ∷ run 5 7 1 ∷ run 8 10 1 ∷ [])
    ∷ (run 0 2 1 ∷ run 0 8 3 ∷ run 3 5 1 ∷ run 6 8 1 ∷ [])
    ∷ (run 0 2 1 ∷ run 2 4 1 ∷ [])
    ∷ (run 0 4 1 ∷ [])
    ∷ (run 0 2 1 ∷ [])
    ∷ []
    ∷ []
unfolding gathered put insert before report_at report_of accepts reports left_from next next_match least_from suffix_less lex_less lce lcp
by_places = refl

-- ---- what is a run, and what is none

banana_run : IsRun banana (run 1 6 2)
unfolding has_period all_below
banana_run =
    record {
      inside = omega arith;
      positive = omega arith;
      long = omega arith;
      repeats = period_told banana 1 6 2 refl;
      least = λ q a P. omega (arith, le_unless 2 q (λ w. one q a w (P.equal 1 (omega arith) (omega arith))));
      start_stays = λ a P. omega (arith, P.equal 0 (omega arith) (omega arith));
      end_stays = λ a. absurd (omega arith);
    }
  where
    one : (q : ℕ) → 1 ≤ q → q < 2 → 97 ≡ get_or banana (1 + q) 0 → ⊥
    one q a w e = let z : q ≡ 1 = omega arith in omega (arith, rw z at e)

-- a period that is not the least; an end, and a start, that can be moved out; a word that comes once; a period of 0
two_in_aaaa : IsRun aaaa (run 0 4 2) → ⊥
unfolding has_period all_below
two_in_aaaa R = omega (arith, R.least 1 (omega arith) (period_told aaaa 0 4 1 refl))

end_moves : IsRun aabaabaa (run 0 7 3) → ⊥
unfolding has_period all_below
end_moves R = R.end_stays (omega arith) (period_told aabaabaa 0 8 3 refl)

start_moves : IsRun mississippi (run 2 8 3) → ⊥
unfolding has_period all_below
start_moves R = R.start_stays (omega arith) (period_told mississippi 1 8 3 refl)

too_short : IsRun aa (run 0 1 1) → ⊥
too_short R = omega (arith, R.long)

period_of_0 : IsRun aa (run 0 2 0) → ⊥
period_of_0 R = omega (arith, R.positive)

-- and by the test
no_runs :
    is_run aaaa (run 0 4 2)
    ∷ is_run aabaabaa (run 0 7 3)
    ∷ is_run mississippi (run 2 8 3)
    ∷ is_run aabaabaa (run 0 9 3)
    ∷ is_run aa (run 0 1 1)
    ∷ is_run aa (run 0 2 0)
    ∷ []
    ≡ false ∷ false ∷ false ∷ false ∷ false ∷ false ∷ []
unfolding is_run has_period all_below any_below
no_runs = refl

-- by start, and then by period
in_order : Ordered (run 0 2 1 ∷ run 0 8 3 ∷ run 3 5 1 ∷ [])
in_order =
    then (λ q m. first q (Memᴰ.cases_cons m)) (then (λ q m. second q (Memᴰ.cases_cons m)) (then (λ q m. absurd (Memᴰ.not-nil m)) none))
  where
    second : (q : Run) → (q ≡ run 3 5 1) ⊎ Memᴰ q [] → Before (run 0 8 3) q
    second q (inl e) = rw e (earlier (omega arith))
    second q (inr m) = absurd (Memᴰ.not-nil m)

    first : (q : Run) → (q ≡ run 0 8 3) ⊎ Memᴰ q (run 3 5 1 ∷ []) → Before (run 0 2 1) q
    first q (inl e) = rw e (shorter refl (omega arith))
    first q (inr m) = last q (Memᴰ.cases_cons m)
      where
        last : (q : Run) → (q ≡ run 3 5 1) ⊎ Memᴰ q [] → Before (run 0 2 1) q
        last q (inl e) = rw e (earlier (omega arith))
        last q (inr m) = absurd (Memᴰ.not-nil m)

-- ---- roots: each place of a string, under the byte order and under its reverse

-- in aabba place 1 is accepted under the reverse order, place 3 under the byte order
one_in_each_order :
    map (accepted 255 aabba false) (0 ∷ 1 ∷ 2 ∷ 3 ∷ 4 ∷ []) ∷ map (accepted 255 aabba true) (0 ∷ 1 ∷ 2 ∷ 3 ∷ 4 ∷ []) ∷ []
    ≡ (false ∷ false ∷ false ∷ true ∷ false ∷ []) ∷ (false ∷ true ∷ false ∷ false ∷ false ∷ []) ∷ []
unfolding accepted accepts left_from next next_match least_from suffix_less lex_less lce lcp
one_in_each_order = refl

-- in banana the run meets the end: its root is at 3 under the byte order, and place 2 is not accepted under the reverse one
up_to_the_end :
    map (accepted 255 banana false) (0 ∷ 1 ∷ 2 ∷ 3 ∷ 4 ∷ 5 ∷ []) ∷ map (accepted 255 banana true) (0 ∷ 1 ∷ 2 ∷ 3 ∷ 4 ∷ 5 ∷ []) ∷ []
    ≡ (false ∷ false ∷ false ∷ true ∷ false ∷ false ∷ []) ∷ (false ∷ false ∷ false ∷ false ∷ false ∷ false ∷ []) ∷ []
unfolding accepted accepts left_from next next_match least_from suffix_less lex_less lce lcp
up_to_the_end = refl

root_of_banana : IsRoot 255 banana (run 1 6 2) false 3
unfolding is_lyndon part longest_lyndon greatest_below all_below lex_less
root_of_banana =
    record {
      after_start = omega arith;
      first_period = omega arith;
      lyndon = refl;
      longest = refl;
      before_end = λ e. absurd (true≢false (sym e));
    }

root_in_reverse : IsRoot 255 aabba (run 0 2 1) true 1
unfolding is_lyndon part longest_lyndon greatest_below all_below lex_less
root_in_reverse =
    record {
      after_start = omega arith;
      first_period = omega arith;
      lyndon = refl;
      longest = refl;
      before_end = λ e. omega arith;
    }

-- not a Lyndon word; under the reverse order, but up to the end; not the longest there; at the start
na_in_banana : IsRoot 255 banana (run 1 6 2) false 2 → ⊥
unfolding is_lyndon part all_below lex_less
na_in_banana T = true≢false (sym T.lyndon)

na_in_reverse : IsRoot 255 banana (run 1 6 2) true 2 → ⊥
na_in_reverse T = omega (arith, T.before_end refl)

longer_in_aabba : IsRoot 255 aabba (run 0 2 1) false 1 → ⊥
unfolding is_lyndon part longest_lyndon greatest_below all_below lex_less
longer_in_aabba T = omega (arith, T.longest)

at_the_start : IsRoot 255 aaaa (run 0 4 1) false 0 → ⊥
at_the_start T = omega (arith, T.after_start)

second_in_aaaa : IsRoot 255 aaaa (run 0 4 1) false 2 → ⊥
second_in_aaaa T = omega (arith, T.first_period)
