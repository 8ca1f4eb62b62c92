-- How many brackets are open at a position, by the chain of its previous entries.
use mathlib.Core.Path.{◌≡◌, refl, sym, ap, ◌∙◌}
use mathlib.Core.Bool.{Bool, false}
use mathlib.Core.List.{List}
use Prim.Native.Nat.{ℕ, zero, suc, ◌+◌, ◌≤◌, ◌<◌}
use native.Mathlib.Omega.{arith}
use lib.Dec.{eqb, leb}
use lib.ListN.{length}
use borrow.Author.Tests.{eq-eqb, ne_eqb, le-leb, lt-leb}
use Rattle.suffix.specs.Search.{count_below}
use Rattle.suffix.specs.Nearest.{previous, next}
use Rattle.suffix.specs.Tree.{closed_by, unclosed}
use Rattle.suffix.proofs.Cases.{Tri, lt, eq, gt, tri, Same, same, other, same?, le_unless}
use Rattle.suffix.proofs.Search.{count_yes, count_no, count_stop, count_same}
use Rattle.suffix.proofs.Sequence.{Less, asym, less_trans}
use Rattle.suffix.proofs.Edges.{NextAt, Chain, here, up, chain_edge, prev_edge}
use Rattle.suffix.proofs.Order.{extended}
use Rattle.suffix.proofs.Nearest.{PreviousCase, some, none, previous_case, previous_is, previous_all, next_at_lem, next_le}

-- the brackets that are open once i has opened, its own too
abbrev pub level : List ℕ → ℕ → ℕ
level y i = unclosed y (suc i)

module _ (y : List ℕ) where
  abbrev reaches : ℕ → ℕ → Bool
  reaches r l = leb r (next y l)

  -- row r closes some, and opens one
  pub closed_by_lem : (r : ℕ) → r < length y → closed_by y r + level y r ≡ suc (unclosed y r)
  unfolding closed_by unclosed count_below
  closed_by_lem r h = omega (arith, count_yes (reaches (suc r)) r (le-leb (suc r) (next y r) (next_at_lem y r h).after), split r)
    where
      split : (k : ℕ) → count_below k (λ l. eqb (next y l) r) + count_below k (reaches (suc r)) ≡ count_below k (reaches r)
      split zero = refl
      split (suc k) = go (tri (next y k) r) (split k)
        where
          go : Tri (next y k) r → count_below k (λ l. eqb (next y l) r) + count_below k (reaches (suc r)) ≡ count_below k (reaches r)
              → count_below (suc k) (λ l. eqb (next y l) r) + count_below (suc k) (reaches (suc r)) ≡ count_below (suc k) (reaches r)
          go (lt w) ih =
              omega (
                arith,
                count_no (λ l. eqb (next y l) r) k (ne_eqb (next y k) r (omega arith)),
                count_no (reaches (suc r)) k (lt-leb (suc r) (next y k) (omega arith)),
                count_no (reaches r) k (lt-leb r (next y k) w),
              )
          go (eq w) ih =
              omega (
                arith,
                count_yes (λ l. eqb (next y l) r) k (eq-eqb (next y k) r w),
                count_no (reaches (suc r)) k (lt-leb (suc r) (next y k) (omega arith)),
                count_yes (reaches r) k (le-leb r (next y k) (omega arith)),
              )
          go (gt w) ih =
              omega (
                arith,
                count_no (λ l. eqb (next y l) r) k (ne_eqb (next y k) r (omega arith)),
                count_yes (reaches (suc r)) k (le-leb (suc r) (next y k) w),
                count_yes (reaches r) k (le-leb r (next y k) (omega arith)),
              )

  -- nothing is open beyond the end
  pub level_none : level y (length y) ≡ 0
  unfolding unclosed count_below
  level_none = count_stop (reaches (suc (length y))) 0 (suc (length y)) (omega arith) (λ k a b. lt-leb (suc (length y)) (next y k) (omega (arith, next_le y k)))

  -- at i, what is open at its previous position is still open, and i is
  pub level_is : (i : ℕ) → i < length y → level y i ≡ suc (level y (previous y i))
  unfolding unclosed count_below
  level_is i h = count_yes (reaches (suc i)) i (le-leb (suc i) (next y i) (next_at_lem y i h).after) ∙ ap suc (go (previous_case y i h))
    where
      -- a larger suffix before i is closed by i
      shut : (l : ℕ) → l < i → Less (extended y) i l → reaches (suc i) l ≡ false
      shut l w s = lt-leb (suc i) (next y l) (le_unless (suc (next y l)) (suc i) (λ g. asym (extended y) s ((next_at_lem y l (omega arith)).nearest i w (omega arith))))

      go : PreviousCase y i (previous y i) → count_below i (reaches (suc i)) ≡ unclosed y (suc (previous y i))
      go (none e N) = count_stop (reaches (suc i)) 0 i (omega arith) (λ k a b. shut k b (N.least k b)) ∙ sym (ap (level y) e ∙ level_none)
      go (some P) =
          count_stop (reaches (suc i)) (suc p) i P.before (λ k a b. shut k b (P.nearest k a b))
          ∙ count_same (reaches (suc i)) (reaches (suc p)) (suc p) (λ l w. both l w (tri (next y l) (suc p)))
        where
          p : ℕ
          p = previous y i

          -- what is open at p is open at i
          through : (l : ℕ) → l < suc p → p < next y l → i < next y l
          through l w g = le_unless (suc i) (next y l) (λ u. bad u (same? (next y l) i) (same? l p))
            where
              N : NextAt (extended y) l (next y l)
              N = next_at_lem y l (omega (arith, P.before))

              below : next y l < suc i → Same (next y l) i → Less (extended y) i l
              below u (same e) = rw e at N.smaller
              below u (other e) = less_trans (extended y) (P.nearest (next y l) g (omega arith)) N.smaller

              bad : next y l < suc i → Same (next y l) i → Same l p → ⊥
              bad u c (same e) = asym (extended y) P.smaller (rw e at (below u c))
              bad u c (other e) = asym (extended y) (less_trans (extended y) P.smaller (below u c)) (N.nearest p (omega arith) g)

          both : (l : ℕ) → l < suc p → Tri (next y l) (suc p) → reaches (suc i) l ≡ reaches (suc p) l
          both l w (lt g) = lt-leb (suc i) (next y l) (omega (arith, P.before)) ∙ sym (lt-leb (suc p) (next y l) g)
          both l w (eq g) = le-leb (suc i) (next y l) (through l w (omega arith)) ∙ sym (le-leb (suc p) (next y l) (omega arith))
          both l w (gt g) = le-leb (suc i) (next y l) (through l w (omega arith)) ∙ sym (le-leb (suc p) (next y l) (omega arith))

  -- up a chain fewer are open
  pub chain_level : {s l : ℕ} → s < length y → Chain (extended y) s l → level y l ≤ level y s
  chain_level h here = omega arith
  chain_level {s} {l} h (up {p = p} P c) =
      omega (arith, chain_level (omega (arith, P.before)) c, level_is s h, ap (level y) (previous_is y s h p P))

  pub chain_deeper : {s l : ℕ} → s < length y → l < s → Chain (extended y) s l → suc (level y l) ≤ level y s
  chain_deeper h g here = absurd (omega arith)
  chain_deeper {s} {l} h g (up {p = p} P c) =
      omega (arith, chain_level (omega (arith, P.before)) c, level_is s h, ap (level y) (previous_is y s h p P))

  -- at next[i] no more is open than at i
  pub level_next : (i : ℕ) → i < length y → next y i < length y → level y (next y i) ≤ level y i
  level_next i h g = go (previous_case y (next y i) g)
    where
      N : NextAt (extended y) i (next y i)
      N = next_at_lem y i h

      go : PreviousCase y (next y i) (previous y (next y i)) → level y (next y i) ≤ level y i
      go (none e q) = omega (arith, level_is (next y i) g, ap (level y) e, level_none, level_is i h)
      go (some P) = pick (tri (previous y (next y i)) i)
        where
          chain : previous y (next y i) < i → Chain (extended y) i (previous y (next y i))
          chain w = chain_edge (extended y) (prev_edge (extended y) P) (previous_all y (next y i) (omega arith)) i i (omega arith) (omega arith) N.after

          pick : Tri (previous y (next y i)) i → level y (next y i) ≤ level y i
          pick (lt w) = omega (arith, chain_deeper h w (chain w), level_is (next y i) g)
          pick (eq w) = absurd (asym (extended y) N.smaller (rw w at P.smaller))
          pick (gt w) = absurd (asym (extended y) N.smaller (less_trans (extended y) (N.nearest (previous y (next y i)) w P.before) P.smaller))

  -- a row opens at most one more
  pub level_suc : (s : ℕ) → s < length y → level y s ≤ suc (unclosed y s)
  level_suc s h = omega (arith, closed_by_lem s h)
