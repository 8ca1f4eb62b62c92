-- All rows: what the steps leave is what the definitions say, for every string and every number of rows.
use mathlib.Core.Path.{◌≡◌, refl, sym, ap, ◌∙◌}
use mathlib.Core.Logic.{◌⊎◌, inl, inr}
use mathlib.Core.List.{List}
use Prim.Native.Nat.{ℕ, zero, suc, ◌+◌, ◌-◌, ◌*◌, ◌≤◌, ◌<◌}
use native.Mathlib.Omega.{arith}
use lib.ListN.{length, get_or, get_or-replicate, length-replicate}
use Rattle.suffix.specs.Search.{tabulate}
use Rattle.suffix.specs.Nearest.{previous}
use Rattle.suffix.specs.Rows.{Tables, previous_after, previous_match_after, next_after, next_match_after, tables_after, reach}
use Rattle.suffix.proofs.Cases.{Same, same, other, same?}
use Rattle.suffix.proofs.Search.{tabulate_is}
use Rattle.suffix.proofs.Sequence.{agree_none}
use Rattle.suffix.proofs.Edges.{edge_first}
use Rattle.suffix.proofs.Order.{extended, lce_is}
use Rattle.suffix.proofs.Nearest.{previous_none, next_at_lem}
use Rattle.suffix.proofs.Rows.{previous_after_in, previous_after_out, previous_match_after_in, previous_match_after_out, previous_match_none, next_after_out, next_match_after_out}
use Rattle.suffix.proofs.Reach.{reach_most, reach_least, reach_one}
use Rattle.reuse.specs.Steps.{BuildState, ended, advances, state_of, row_start, row, start, after_rows, equal_comparisons, unequal_comparisons}
use Rattle.reuse.specs.Claims.{Exact}
use Rattle.reuse.proofs.Settle.{Filled, Last, unscanned, scanned, last_lower, last_fits}
use Rattle.reuse.proofs.Cost.{some_entries, entries_most, entries_less, recorded_pairs}
use Rattle.reuse.proofs.Row.{Sizes, Done, Holds, at_asked, Ended, advances_end}

-- ---- the first row, and a further row

start_sizes : (y : List ℕ) (c : ℕ) → Sizes y (start y c).tables
unfolding start
start_sizes y c =
    record { previous = length-replicate n n; next = length-replicate n n; previous_match = length-replicate n 0; next_match = length-replicate n 0 }
  where
    n : ℕ
    n = length y

none_first : (y : List ℕ) → 0 < length y → previous y 0 ≡ length y
none_first y some = previous_none y 0 some (record { least = λ k h. absurd (omega arith) })

first_row : (y : List ℕ) → 0 < length y → Done y 1 (start y 1)
unfolding start
first_row y some =
    record {
      sizes = start_sizes y 1;
      previous = λ i h. get_or-replicate n i n 0 h ∙ sym (none_at i (same? i 0));
      previous_match = λ i h. get_or-replicate n i 0 0 h ∙ sym (match_at i (same? i 0));
      next = λ i h. get_or-replicate n i n 0 h ∙ sym (next_after_out y 1 i (omega (arith, (next_at_lem y i h).after)));
      next_match = λ i h. get_or-replicate n i 0 0 h ∙ sym (next_match_after_out y 1 i (omega (arith, (next_at_lem y i h).after)));
      last = unscanned refl;
      seen = λ a z e h. absurd (omega (arith, e.before));
      cost = record { equal = omega arith; unequal = omega arith };
    }
  where
    n : ℕ
    n = length y

    none_at : (i : ℕ) → Same i 0 → previous_after y 1 i ≡ n
    none_at i (same e) = rw e (previous_after_in y 1 0 (omega arith) ∙ none_first y some)
    none_at i (other e) = previous_after_out y 1 i (omega arith)

    match_at : (i : ℕ) → Same i 0 → previous_match_after y 1 i ≡ 0
    match_at i (same e) = rw e (previous_match_after_in y 1 0 (omega arith) ∙ previous_match_none y 0 (none_first y some))
    match_at i (other e) = previous_match_after_out y 1 i (omega arith)

module _ (y : List ℕ) (r : ℕ) (pos : 0 < r) (small : r < length y) (s : BuildState) (D : Done y r s) where
  -- before row r starts, no entry is r
  ready : (b : ℕ) → b ≡ r → Filled y r b s.tables
  ready b e =
      record {
        previous = D.previous;
        previous_match = D.previous_match;
        next_low = λ i g w. D.next i w;
        next_high = λ i g w.
            D.next i w
            ∙ next_after_out y r i (omega (arith, (next_at_lem y i w).after))
            ∙ sym (next_after_out y (suc r) i (omega (arith, (next_at_lem y i w).after)));
        next_match_low = λ i g w. D.next_match i w;
        next_match_high = λ i g w.
            D.next_match i w
            ∙ next_match_after_out y r i (omega (arith, (next_at_lem y i w).after))
            ∙ sym (next_match_after_out y (suc r) i (omega (arith, (next_at_lem y i w).after)));
      }

  pub row_starts : Holds y r (row_start s r)
  unfolding row_start
  row_starts =
      at_asked {s = s.progress}
      (record {
        sizes = D.sizes;
        asked =
            record {
              filled = ready (suc (r - 1)) z;
              edge = rw z at (edge_first (extended y) (r - 1));
              agree = agree_none (extended y);
              bound = record { most = λ h x a b q. absurd (omega arith) };
              last = last_lower (suc (r - 1)) (omega arith) D.last;
            };
        covered = record { seen = D.seen; here = λ a h e. absurd (omega (arith, e.before)) };
        cost = D.cost;
      })
    where
      z : suc (r - 1) ≡ r
      z = omega arith

  row_ended : Ended y r small (advances y r (r + r) (row_start s r))
  unfolding row_start
  row_ended = advances_end y r small (r + r) row_starts (omega arith)

  pub row_ends : advances y r (r + r) (row_start s r) ≡ ended (row y s r)
  unfolding row state_of
  row_ends = let E = row_ended in E.is ∙ ap ended (sym (ap state_of E.is))

  row_done : Done y (suc r) (row y s r)
  unfolding row state_of
  row_done = let E = row_ended in rw E.is E.done

pub rows_done : (y : List ℕ) (R : ℕ) → 0 < R → R ≤ length y → Done y R (after_rows y R)
unfolding after_rows
rows_done y zero h g = absurd (omega arith)
rows_done y (suc zero) h g = first_row y (omega arith)
rows_done y (suc (suc r)) h g = row_done y (suc r) (omega arith) (omega arith) (after_rows y (suc r)) (rows_done y (suc r) (omega arith) (omega arith))

-- ---- the reach of the steps is the defined one

reach_is : (y : List ℕ) (R : ℕ) (s : BuildState) → 0 < R → R ≤ length y → Done y R s → s.progress.reach ≡ reach y R
reach_is y R s h g D = go D.last
  where
    c : ℕ
    c = s.progress.reach

    most : 1 ≤ c → reach y R ≤ c
    most w = reach_most y c R w g D.seen

    go : Last y c s.progress.shift R R → c ≡ reach y R
    go (unscanned e) = omega (arith, most (omega arith), reach_one y R h)
    go (scanned P) = pick P.place
      where
        a : ℕ
        a = P.at - s.progress.shift

        at_least : P.at < R → c ≤ reach y R
        at_least w =
            omega (
              arith,
              lce_is y a P.at (omega (arith, P.edge.before)) (omega arith) (omega arith) (c - P.at) P.match,
              P.high,
              reach_least y R a P.at g w P.edge,
            )

        pick : (P.at < R) ⊎ ((P.at ≡ R) × (R ≤ a)) → c ≡ reach y R
        pick (inl w) = omega (arith, at_least w, most (omega (arith, P.edge.before, P.high)))
        pick (inr w) = absurd (omega (arith, w.0, w.1, P.edge.before))

-- ---- the pairs that are recorded: previous is none at 0 and from R on, next from R - 1 on

pairs_few : (y : List ℕ) (R : ℕ) (s : BuildState) → 0 < R → R ≤ length y → Done y R s → recorded_pairs (length y) s.tables ≤ 2 * (R - 1)
pairs_few y R s h g D = omega (arith, few_previous, few_next)
  where
    n : ℕ
    n = length y

    few_previous : some_entries n s.tables.previous < R
    few_previous =
        entries_less n s.tables.previous R (omega (arith, D.sizes.previous)) (λ k a b. D.previous k (omega (arith, D.sizes.previous)) ∙ previous_after_out y R k a) 0 h
        (D.previous 0 (omega arith) ∙ previous_after_in y R 0 h ∙ none_first y (omega arith))

    few_next : some_entries n s.tables.next ≤ R - 1
    few_next =
        entries_most n s.tables.next (R - 1) (omega (arith, D.sizes.next))
        (λ k a b. let w : k < n = omega (arith, D.sizes.next) in D.next k w ∙ next_after_out y R k (omega (arith, (next_at_lem y k w).after)))

-- ---- all of it

tables_are : (y : List ℕ) (R : ℕ) (t : Tables) → Sizes y t
    → ((i : ℕ) → i < length y → get_or t.previous i 0 ≡ previous_after y R i)
    → ((i : ℕ) → i < length y → get_or t.next i 0 ≡ next_after y R i)
    → ((i : ℕ) → i < length y → get_or t.previous_match i 0 ≡ previous_match_after y R i)
    → ((i : ℕ) → i < length y → get_or t.next_match i 0 ≡ next_match_after y R i)
    → t ≡ tables_after y R
unfolding tables_after
tables_are y R t S p x q z =
    let a : t.previous ≡ tabulate (length y) (previous_after y R) = tabulate_is (previous_after y R) t.previous (length y) S.previous p in
    let b : t.next ≡ tabulate (length y) (next_after y R) = tabulate_is (next_after y R) t.next (length y) S.next x in
    let c : t.previous_match ≡ tabulate (length y) (previous_match_after y R) = tabulate_is (previous_match_after y R) t.previous_match (length y) S.previous_match q in
    let d : t.next_match ≡ tabulate (length y) (next_match_after y R) = tabulate_is (next_match_after y R) t.next_match (length y) S.next_match z in
    rw (← a, ← b, ← c, ← d)

no_rows : (y : List ℕ) → Exact y 0
unfolding after_rows start reach
no_rows y =
    record {
      tables =
          tables_are y 0 (start y 0).tables (start_sizes y 0) (λ i h. get_or-replicate n i n 0 h ∙ sym (previous_after_out y 0 i (omega arith)))
          (λ i h. get_or-replicate n i n 0 h ∙ sym (next_after_out y 0 i (omega arith))) (λ i h. get_or-replicate n i 0 0 h ∙ sym (previous_match_after_out y 0 i (omega arith)))
          (λ i h. get_or-replicate n i 0 0 h ∙ sym (next_match_after_out y 0 i (omega arith)));
      reached = refl;
      bounded =
          record {
            within = omega arith;
            equal = λ h. absurd (omega arith);
            unequal = λ h. absurd (omega arith);
            bound = λ h. absurd (omega arith);
            whole = λ h. absurd (omega arith);
          };
      at_zero = λ h. (refl, refl, refl);
    }
  where
    n : ℕ
    n = length y

pub exact : (y : List ℕ) (R : ℕ) → R ≤ length y → Exact y R
exact y zero g = no_rows y
exact y (suc r) g =
    let D : Done y (suc r) (after_rows y (suc r)) = rows_done y (suc r) (omega arith) g in
    let c : (after_rows y (suc r)).progress.reach ≡ reach y (suc r) = reach_is y (suc r) (after_rows y (suc r)) (omega arith) g D in
    let fits : reach y (suc r) ≤ length y = omega (arith, c, last_fits (omega arith) g D.last) in
    let equal : equal_comparisons y (suc r) < reach y (suc r) = omega (arith, c, D.cost.equal) in
    let unequal : unequal_comparisons y (suc r) ≤ 2 * (suc r - 1) = omega (arith, D.cost.unequal, pairs_few y (suc r) (after_rows y (suc r)) (omega arith) g D) in
    record {
      tables = tables_are y (suc r) (after_rows y (suc r)).tables D.sizes D.previous D.next D.previous_match D.next_match;
      reached = c;
      bounded = record { within = fits; equal = λ _. omega arith; unequal = λ _. omega arith; bound = λ _. omega arith; whole = λ _ e. omega arith };
      at_zero = λ e. absurd (omega arith);
    }
