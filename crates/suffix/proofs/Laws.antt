-- The laws that prove specs/Claims.antt.
use mathlib.Core.Path.{◌≡◌, refl, sym, ap, ◌∙◌}
use mathlib.Core.Logic.{◌≢◌, ◌⊎◌, inl, inr}
use mathlib.Core.Bool.{true, false, true≢false}
use mathlib.Core.List.{List}
use Prim.Native.Nat.{ℕ, suc, ◌+◌, ◌≤◌, ◌<◌}
use native.Mathlib.Omega.{arith}
use native.Mathlib.Nat.{suc_inj}
use lib.Dec.{ltb, leb-suc-suc}
use lib.ListN.{length, drop}
use borrow.Author.Tests.{lt-ltb, le-ltb}
use Rattle.suffix.specs.Order.{suffix_less, lce}
use Rattle.suffix.specs.Nearest.{previous, next, previous_match, next_match}
use Rattle.suffix.specs.Rows.{previous_after, next_after, previous_match_after, next_match_after, tables_after}
use Rattle.suffix.specs.Claims.{SuffixesAreOrdered, LettersDecide, IsPrevious, IsNext, PreviousIsGreatest, NextIsLeast, LargerBetween, PairsAreEdges, PairsDoNotCross, PreviousIsOnTheChain, NextIsOnTheChain, MatchesOfThree, AllRowsGiveAllEntries, RowsSettleTheirOwn, LongestIsNext, TestTellsPeriods, RotationsAreCycled, RotationsCompare, EqualRotationsRepeat, RepeatsSplit, SomeRotationIsSmallest, LongestWordIsLeastRepeat, SmallestRotationIsLyndon, RowsWriteTheTree, TreeHasTwoBitsARow}
use Rattle.suffix.specs.Claims as claims
use Rattle.suffix.proofs.Cases.{Tri, lt, eq, gt, tri, Same, same, other, same?, le_unless}
use Rattle.suffix.proofs.Search.{tabulate_same}
use Rattle.suffix.proofs.Sequence.{Less, Match, agree_sym, agree_match, asym}
use Rattle.suffix.proofs.Edges.{Edge, PreviousAt, NextAt, Chain, here, up, no_cross, prev_chain, edge_chain, chain_over, next_edge, edge_prev, edge_next, match_below, match_above, match_equal, match_edge, below_prev}
use Rattle.suffix.proofs.Order.{extended, extended_in, extended_out, lex_irreflexive, lex_transitive, lce_match, lce_is, total, less_true, less_false, less_from_true, less_at_match, agree_fits}
use Rattle.suffix.proofs.Nearest.{PreviousCase, some, none, previous_case, previous_any, previous_is, previous_low, previous_all, previous_at_lem, next_at_lem, next_le, next_is, pair_edge, pair_edge_end, edge_pair}
use Rattle.suffix.proofs.Rows.{tables_are, next_match_none, previous_after_in, previous_match_after_in, next_after_in, next_after_out, next_match_after_in, next_match_after_out, previous_after_stays, previous_match_after_stays, next_after_stays, next_match_after_stays}
use Rattle.suffix.proofs.Reach.{pair_in, pair_from}
use Rattle.suffix.proofs.Lyndon.{longest_next}
use Rattle.suffix.proofs.Periods.{period_told, tell_period}
use Rattle.suffix.proofs.Rotations.{rotation_cycled, cycled_rotation, less_rotations, rotations_less}
use Rattle.suffix.proofs.SmallestRotation.{equal_repeats, repeats_equal, splits, smallest_some, longest_repeats, alone_smallest}
use Rattle.suffix.proofs.Written.{rows_write_lem, tree_length_lem}

pub suffixes_are_ordered : SuffixesAreOrdered
unfolding suffix_less
suffixes_are_ordered y =
    record {
      irreflexive = λ i. lex_irreflexive (drop i y);
      transitive = λ i j k. lex_transitive (drop i y) (drop j y) (drop k y);
      total = λ i j ne a b. go i j ne a b (total y i j ne a b);
    }
  where
    go : (i j : ℕ) → i ≢ j → i ≤ length y → j ≤ length y → Less (extended y) i j ⊎ Less (extended y) j i → (suffix_less y i j ≡ true) ⊎ (suffix_less y j i ≡ true)
    go i j ne a b (inl p) = inl (less_true y i j ne a b p)
    go i j ne a b (inr p) = inr (less_true y j i (λ e. ne (sym e)) b a p)

pub letters_decide : LettersDecide
letters_decide y i j ne a b =
    record {
      inside = (fits.0, fits.1);
      agree = λ k h. suc_inj (sym (extended_in y (i + k) (omega (arith, fits))) ∙ M.same.on k h ∙ extended_in y (j + k) (omega (arith, fits)));
      letters = λ u v. letters (extended_in y (i + m) u) (extended_in y (j + m) v);
      first_ends = λ e. decided ∙ lt-ltb (extended y (i + m)) (extended y (j + m)) (omega (arith, extended_out y (i + m) (omega arith), M.differ));
      second_ends = λ e. decided ∙ le-ltb (extended y (i + m)) (extended y (j + m)) (omega (arith, extended_out y (j + m) (omega arith)));
    }
  where
    m : ℕ
    m = lce y i j

    M : Match (extended y) i j m
    M = lce_match y i j ne a b

    decided : suffix_less y i j ≡ ltb (extended y (i + m)) (extended y (j + m))
    decided = less_at_match y i j

    fits : (i + m ≤ length y) × (j + m ≤ length y)
    fits = go (tri i j)
      where
        go : Tri i j → (i + m ≤ length y) × (j + m ≤ length y)
        go (lt h) = let w : j + m ≤ length y = agree_fits y h b M.same in (omega arith, w)
        go (eq h) = absurd (ne h)
        go (gt h) = let w : i + m ≤ length y = agree_fits y h a (agree_sym (extended y) M.same) in (w, omega arith)

    letters : {u v : ℕ} → extended y (i + m) ≡ suc u → extended y (j + m) ≡ suc v → (u ≢ v) × (suffix_less y i j ≡ ltb u v)
    letters {u} {v} p q = (λ e. M.differ (p ∙ ap suc e ∙ sym q), decided ∙ rw (p, q) (leb-suc-suc (suc u) v))

-- ---- the nearest smaller suffixes

pub previous_is_greatest : PreviousIsGreatest
previous_is_greatest y i h = go (previous_case y i h)
  where
    -- what is smaller is not larger
    not_larger : (k : ℕ) → k < i → Less (extended y) i k → suffix_less y k i ≡ false
    not_larger k g p = less_false y k i (omega arith) (omega arith) (omega arith) p

    go : PreviousCase y i (previous y i) → IsPrevious y i (previous y i) ⊎ ((previous y i ≡ length y) × ((k : ℕ) → k < i → suffix_less y k i ≡ false))
    go (none e N) = inr (e, λ k g. not_larger k g (N.least k g))
    go (some P) =
        inl
        (record {
          before = P.before;
          smaller = less_true y (previous y i) i (omega (arith, P.before)) (omega (arith, P.before)) (omega arith) P.smaller;
          greatest = λ k g e. omega (arith, le_unless k (previous y i) (λ w. true≢false (sym e ∙ not_larger k g (P.nearest k w g))));
        })

pub next_is_least : NextIsLeast
next_is_least y i h = go (same? (next y i) (length y))
  where
    N : NextAt (extended y) i (next y i)
    N = next_at_lem y i h

    not_larger : (k : ℕ) → i < k → k < next y i → suffix_less y k i ≡ false
    not_larger k g w = less_false y k i (omega arith) (omega (arith, next_le y i)) (omega arith) (N.nearest k g w)

    go : Same (next y i) (length y) → IsNext y i (next y i) ⊎ ((next y i ≡ length y) × ((k : ℕ) → i < k → k < length y → suffix_less y k i ≡ false))
    go (same e) = inr (e, λ k g w. not_larger k g (omega arith))
    go (other e) =
        inl
        (record {
          after = N.after;
          below = omega (arith, next_le y i);
          smaller = less_true y (next y i) i (omega (arith, N.after)) (next_le y i) (omega arith) N.smaller;
          least = λ k g w q. omega (arith, le_unless (next y i) k (λ u. true≢false (sym q ∙ not_larger k g u)));
        })

pub pairs_are_edges : PairsAreEdges
pairs_are_edges y l r h g = (λ p. larger (pair_edge y l r h g (pair_from y l r p)), λ L. pair_in y l r (edge_pair y l r h g (edge L)))
  where
    larger : Edge (extended y) l r → LargerBetween y l r
    larger e =
        record {
          than_left = λ k a b. less_true y l k (omega arith) (omega arith) (omega arith) (e.left k a b);
          than_right = λ k a b. less_true y r k (omega arith) (omega arith) (omega arith) (e.right k a b);
        }

    edge : LargerBetween y l r → Edge (extended y) l r
    edge L =
        record {
          before = h;
          left = λ k a b. less_from_true y l k (omega arith) (omega arith) (omega arith) (L.than_left k a b);
          right = λ k a b. less_from_true y r k (omega arith) (omega arith) (omega arith) (L.than_right k a b);
        }

pub pairs_do_not_cross : PairsDoNotCross
pairs_do_not_cross y a b c d u v w h p q =
    no_cross (extended y) (pair_edge y a c (omega arith) (omega arith) (pair_from y a c p)) (pair_edge_end y b d (omega arith) h (pair_from y b d q)) u v w

-- a chain over the sequence is one of previous entries, and back
module _ (y : List ℕ) where
  chain_is : {s l : ℕ} → s < length y → Chain (extended y) s l → claims.Chain y s l
  chain_is h here = claims.here
  chain_is {s} {l} h (up {p = p} P c) =
      let e : previous y s ≡ p = previous_is y s h p P in
      claims.up {s = s} {l = l} (omega (arith, P.before)) (rw e (chain_is (omega (arith, P.before)) c))

  chain_from : {s l : ℕ} → s < length y → claims.Chain y s l → Chain (extended y) s l
  chain_from h claims.here = here
  chain_from {s} h (claims.up g c) = up (previous_at_lem y s h (previous y s) (omega arith) refl) (chain_from (omega arith) c)

pub previous_is_on_the_chain : PreviousIsOnTheChain
previous_is_on_the_chain y s h = go (previous_any y (suc s) h)
  where
    go : PreviousCase y (suc s) (previous y (suc s)) → (previous y (suc s) ≡ length y) ⊎ claims.Chain y s (previous y (suc s))
    go (none e N) = inl e
    go (some P) = inr (chain_is y (omega arith) (prev_chain (extended y) P (previous_all y (suc s) (omega arith)) s refl))

pub next_is_on_the_chain : NextIsOnTheChain
next_is_on_the_chain y s l h g = (λ e. (on e, above e (previous_any y (suc s) h)), λ c a. next_is y l (omega arith) (suc s) (is (chain_from y (omega arith) c) a))
  where
    N : next y l ≡ suc s → NextAt (extended y) l (suc s)
    N e = rw e at (next_at_lem y l (omega arith))

    on : next y l ≡ suc s → claims.Chain y s l
    on e = chain_is y (omega arith) (edge_chain (extended y) (next_edge (extended y) (N e)) (previous_all y (suc s) (omega arith)) s refl)

    above : next y l ≡ suc s → PreviousCase y (suc s) (previous y (suc s)) → (previous y (suc s) ≡ length y) ⊎ (previous y (suc s) < l)
    above e (none q _) = inl q
    above e (some P) = inr (le_unless (suc (previous y (suc s))) l (λ w. bad w (same? l (previous y (suc s)))))
      where
        bad : l < suc (previous y (suc s)) → Same l (previous y (suc s)) → ⊥
        bad w (same q) = asym (extended y) P.smaller (rw q at (N e).smaller)
        bad w (other q) = below_prev (extended y) P (omega arith) (N e)

    is : Chain (extended y) s l → (previous y (suc s) ≡ length y) ⊎ (previous y (suc s) < l) → NextAt (extended y) l (suc s)
    is c a = record { after = omega arith; smaller = smaller a (previous_any y (suc s) h); nearest = λ k u w. chain_over (extended y) c k u (omega arith) }
      where
        smaller : (previous y (suc s) ≡ length y) ⊎ (previous y (suc s) < l) → PreviousCase y (suc s) (previous y (suc s)) → Less (extended y) (suc s) l
        smaller a (none q N) = N.least l (omega arith)
        smaller (inl e) (some P) = absurd (omega (arith, P.before))
        smaller (inr w) (some P) = P.nearest l w (omega arith)

pub matches_of_three : MatchesOfThree
matches_of_three y k h some-previous some_next =
    record {
      equal = λ e. (agree_match (extended y) (match_equal (extended y) P N A B e) C, pair_in y l r (edge_pair y l r E.before r_in E));
      less = λ w. (let x = match_below (extended y) P N A B w in (lce_is y l r ne a b (lce y l k) x.0, previous_is y r r_in l (edge_prev (extended y) E x.1)));
      more = λ w. (let x = match_above (extended y) P N A B w in (lce_is y l r ne a b (lce y k r) x.0, next_is y l (omega (arith, P.before)) r (edge_next (extended y) E x.1)));
    }
  where
    l : ℕ
    l = previous y k

    r : ℕ
    r = next y k

    P : PreviousAt (extended y) k l
    P = go (previous_low y k h)
      where
        go : (previous y k < k) ⊎ (previous y k ≡ length y) → PreviousAt (extended y) k l
        go (inl w) = previous_at_lem y k h l (omega arith) refl
        go (inr w) = absurd (some-previous w)

    N : NextAt (extended y) k r
    N = next_at_lem y k h

    r_in : r < length y
    r_in = omega (arith, next_le y k, some_next)

    ne : l ≢ r
    ne = omega (arith, P.before, N.after)

    a : l ≤ length y
    a = omega (arith, P.before)

    b : r ≤ length y
    b = next_le y k

    A : Match (extended y) l k (lce y l k)
    A = lce_match y l k (omega (arith, P.before)) a (omega arith)

    B : Match (extended y) k r (lce y k r)
    B = lce_match y k r (omega (arith, N.after)) (omega arith) b

    C : Match (extended y) l r (lce y l r)
    C = lce_match y l r ne a b

    E : Edge (extended y) l r
    E = match_edge (extended y) P N A B

-- ---- the tables after R rows

pub all_rows_give_all_entries : AllRowsGiveAllEntries
unfolding tables_after
all_rows_give_all_entries y =
    let n : ℕ = length y in
    tables_are (tabulate_same (previous_after y n) (previous y) n (λ i h. previous_after_in y n i h))
    (tabulate_same (next_after y n) (next y) n (λ i h. settled i h (same? (next y i) n)))
    (tabulate_same (previous_match_after y n) (previous_match y) n (λ i h. previous_match_after_in y n i h))
    (tabulate_same (next_match_after y n) (next_match y) n (λ i h. settled_match i h (same? (next y i) n)))
  where
    settled : (i : ℕ) → i < length y → Same (next y i) (length y) → next_after y (length y) i ≡ next y i
    settled i h (same e) = next_after_out y (length y) i (omega arith) ∙ sym e
    settled i h (other e) = next_after_in y (length y) i h (omega (arith, next_le y i))

    settled_match : (i : ℕ) → i < length y → Same (next y i) (length y) → next_match_after y (length y) i ≡ next_match y i
    settled_match i h (same e) = next_match_after_out y (length y) i (omega arith) ∙ sym (next_match_none y i e)
    settled_match i h (other e) = next_match_after_in y (length y) i h (omega (arith, next_le y i))

pub rows_settle_their_own : RowsSettleTheirOwn
rows_settle_their_own y r i h =
    record {
      own_previous = λ e. (previous_after_in y (suc r) i (omega arith), previous_match_after_in y (suc r) i (omega arith));
      own_next = λ e. (next_after_in y (suc r) i h (omega arith), next_match_after_in y (suc r) i h (omega arith));
      other_previous = λ ne. (previous_after_stays y r i ne, previous_match_after_stays y r i ne);
      other_next = λ ne. (next_after_stays y r i h ne, next_match_after_stays y r i h ne);
    }

-- ---- Lyndon words, periods and rotations

pub longest_is_next : LongestIsNext
longest_is_next = longest_next

pub test_tells_periods : TestTellsPeriods
test_tells_periods y s e p = (period_told y s e p, tell_period y s e p)

pub rotations_are_cycled : RotationsAreCycled
rotations_are_cycled y i h = (rotation_cycled y i (omega arith), cycled_rotation y i (omega arith))

pub rotations_compare : RotationsCompare
rotations_compare y i j a b = (less_rotations y i j a b, rotations_less y i j a b)

pub equal_rotations_repeat : EqualRotationsRepeat
equal_rotations_repeat y a b h g = (equal_repeats y (omega arith) a b h (omega arith), repeats_equal y (omega arith) a b h (omega arith))

pub repeats_split : RepeatsSplit
repeats_split y q h = splits y (omega arith)

pub some_rotation_is_smallest : SomeRotationIsSmallest
some_rotation_is_smallest y h = smallest_some y (omega arith)

pub longest_word_is_least_repeat : LongestWordIsLeastRepeat
longest_word_is_least_repeat y s M = longest_repeats y (omega (arith, M.within)) M

pub smallest_rotation_is_lyndon : SmallestRotationIsLyndon
smallest_rotation_is_lyndon y s D M = alone_smallest y (omega (arith, M.within)) D M

-- ---- the tree

pub rows_write_the_tree : RowsWriteTheTree
rows_write_the_tree = rows_write_lem

pub tree_has_two_bits_a_row : TreeHasTwoBitsARow
tree_has_two_bits_a_row y R h = tree_length_lem y R h ∙ omega arith
