-- What hangs under a position stands between it and its next: the shape of the tree, position by position.
use mathlib.Core.Path.{◌≡◌, ◌∙◌}
use mathlib.Core.Logic.{◌≢◌, ◌⊎◌, inl, inr}
use mathlib.Core.List.{List}
use Prim.Native.Nat.{ℕ, zero, suc, ◌+◌, ◌-◌, ◌≤◌, ◌<◌, min}
use native.Mathlib.Omega.{arith}
use lib.ListN.{length}
use borrow.Author.Tests.{eq-eqb, ne_eqb}
use Rattle.suffix.specs.Nearest.{previous, next}
use Rattle.suffix.specs.Tree.{Forest, none, tree, hanging, forest_after}
use Rattle.suffix.proofs.Cases.{Same, same, other, same?, le_unless}
use Rattle.suffix.proofs.Sequence.{Less, asym, less_trans}
use Rattle.suffix.proofs.Edges.{PreviousAt, NextAt, next_edge, edge_prev, edge_step, edge_none, edge_first}
use Rattle.suffix.proofs.Order.{extended}
use Rattle.suffix.proofs.Nearest.{PreviousCase, some, none as no_one, previous_case, previous_is, previous_none, previous_at_lem, no_previous, previous_low, next_at_lem, next_le}

-- of the positions i to e - 1 those that hang under p, each with those up to its next, cut at R
pub data Hung (y : List ℕ) (R : ℕ) : ℕ → ℕ → ℕ → Forest → Type 0 where
  nothing : {p e : ℕ} → Hung y R p e e none
  node : {p i e : ℕ} {under right : Forest} → i < R → previous y i ≡ p → Hung y R i (suc i) (min (next y i) R) under → Hung y R p (min (next y i) R) e right
      → Hung y R p i e (tree under right)

pub hanging_in : (y : List ℕ) (p i t : ℕ) → previous y i ≡ p → hanging y p i (suc t) ≡ tree (hanging y i (suc i) t) (hanging y p (suc i) t)
unfolding hanging
hanging_in y p i t e = rw (eq-eqb (previous y i) p e, hanging)

pub hanging_out : (y : List ℕ) (p i t : ℕ) → previous y i ≢ p → hanging y p i (suc t) ≡ hanging y p (suc i) t
unfolding hanging
hanging_out y p i t e = rw (ne_eqb (previous y i) p e, hanging)

-- positions that do not hang under p are passed over
hanging_skip : (y : List ℕ) (p i t j u : ℕ) → i + t ≡ j + u → i ≤ j → ((k : ℕ) → i ≤ k → k < j → previous y k ≢ p) → hanging y p i t ≡ hanging y p j u
hanging_skip y p i zero j u e h q = let a : u ≡ 0 = omega arith in let b : j ≡ i = omega arith in rw (a, b)
hanging_skip y p i (suc t) j u e h q = go (same? i j) (λ a b. hanging_skip y p (suc i) t j u a b (λ k c d. q k (omega arith) d))
  where
    go : Same i j → (suc i + t ≡ j + u → suc i ≤ j → hanging y p (suc i) t ≡ hanging y p j u) → hanging y p i (suc t) ≡ hanging y p j u
    go (same x) ih = let a : u ≡ suc t = omega arith in rw (a, x)
    go (other x) ih = hanging_out y p i t (q i (omega arith) (omega arith)) ∙ ih (omega arith) (omega arith)

-- ---- where the positions under p end, among the first R

record Stop (y : List ℕ) (R p e : ℕ) : Type 0 where
  most : e ≤ R
  past : (j : ℕ) → e ≤ j → j < R → previous y j ≢ p
  child : (i : ℕ) → i < e → previous y i ≡ p → min (next y i) R ≤ e
  sibling : (i : ℕ) → i < e → previous y i ≡ p → next y i < e → previous y (next y i) ≡ p

-- what stands between i and next[i] hangs under i or further right
pub inner_previous : (y : List ℕ) (i k : ℕ) → i < k → k < next y i → (i ≤ previous y k) × (previous y k < length y)
inner_previous y i k h g = go (previous_case y k (omega (arith, next_le y i)))
  where
    s : Less (extended y) i k
    s = (next_at_lem y i (omega (arith, next_le y i))).nearest k h g

    go : PreviousCase y k (previous y k) → (i ≤ previous y k) × (previous y k < length y)
    go (no_one e q) = absurd (asym (extended y) s (q.least i h))
    go (some P) = (le_unless i (previous y k) (λ w. asym (extended y) s (P.nearest i w h)), omega (arith, P.before, next_le y i))

module _ (y : List ℕ) (R : ℕ) (fits : R ≤ length y) where
  root_stop : Stop y R (length y) R
  root_stop =
      record {
        most = omega arith;
        past = λ j a b. absurd (omega arith);
        child = λ i a e. omega arith;
        sibling = λ i a e b.
            (let N : NextAt (extended y) i (next y i) = next_at_lem y i (omega arith) in
            previous_none y (next y i) (omega arith) (edge_none (extended y) (no_previous y i (omega arith) e) (next_edge (extended y) N) N.smaller));
      }

  child_stop : (p : ℕ) → p < R → Stop y R p (min (next y p) R)
  child_stop p h = record { most = omega arith; past = past; child = child; sibling = sibling }
    where
      N : NextAt (extended y) p (next y p)
      N = next_at_lem y p (omega arith)

      P : (i : ℕ) → i < R → previous y i ≡ p → PreviousAt (extended y) i p
      P i a e = previous_at_lem y i (omega arith) p (omega arith) e

      past : (j : ℕ) → min (next y p) R ≤ j → j < R → previous y j ≢ p
      past j a b e = go (same? (next y p) j)
        where
          go : Same (next y p) j → ⊥
          go (same x) = asym (extended y) (P j b e).smaller (rw x at N.smaller)
          go (other x) = asym (extended y) N.smaller (less_trans (extended y) (P j b e).smaller ((P j b e).nearest (next y p) N.after (omega arith)))

      child : (i : ℕ) → i < min (next y p) R → previous y i ≡ p → min (next y i) R ≤ min (next y p) R
      child i a e =
          let w : next y i ≤ next y p =
          le_unless (next y i) (next y p)
          (λ x. asym (extended y) (less_trans (extended y) N.smaller (P i (omega arith) e).smaller) ((next_at_lem y i (omega arith)).nearest (next y p) (omega arith) x)) in
          omega arith

      sibling : (i : ℕ) → i < min (next y p) R → previous y i ≡ p → next y i < min (next y p) R → previous y (next y i) ≡ p
      sibling i a e b =
          let M : NextAt (extended y) i (next y i) = next_at_lem y i (omega arith) in
          let Q : PreviousAt (extended y) i p = P i (omega arith) e in
          previous_is y (next y i) (omega arith) p
          (edge_prev (extended y) (edge_step (extended y) Q (next_edge (extended y) M) M.smaller) (N.nearest (next y i) (omega (arith, Q.before, M.after)) (omega arith)))

  first_child : (i : ℕ) → suc i < min (next y i) R → previous y (suc i) ≡ i
  first_child i h =
      previous_is y (suc i) (omega arith) i (edge_prev (extended y) (edge_first (extended y) i) ((next_at_lem y i (omega arith)).nearest (suc i) (omega arith) (omega arith)))

  -- what hangs under p from i on, where i is the next position under it, or their end
  hung : (N p i t e : ℕ) → t ≤ N → i + t ≡ R → i ≤ e → Stop y R p e → (i < e → previous y i ≡ p) → Hung y R p i e (hanging y p i t)
  unfolding hanging
  hung zero p i t e h a c S q = let z : e ≡ i = omega (arith, S.most) in let w : t ≡ 0 = omega arith in rw (z, w) nothing
  hung (suc N) p i zero e h a c S q = let z : e ≡ i = omega (arith, S.most) in rw z nothing
  hung (suc N) p i (suc t) e h a c S q = go (same? i e) (λ p i t e h a c S q. hung N p i t e h a c S q)
    where
      Ih : Type 0
      Ih = (p i t e : ℕ) → t ≤ N → i + t ≡ R → i ≤ e → Stop y R p e → (i < e → previous y i ≡ p) → Hung y R p i e (hanging y p i t)

      go : Same i e → Ih → Hung y R p i e (hanging y p i (suc t))
      go (same x) ih =
          let z : hanging y p i (suc t) ≡ none = hanging_skip y p i (suc t) R 0 (omega arith) (omega arith) (λ k f g. S.past k (omega arith) g) in
          rw (z, x) nothing
      go (other x) ih = rw (hanging_in y p i t pi, skip) (node {i = i} (omega arith) pi one two)
        where
          inside : i < length y
          inside = omega arith

          stop : ℕ
          stop = min (next y i) R

          pi : previous y i ≡ p
          pi = q (omega arith)

          ni : i < next y i
          ni = (next_at_lem y i inside).after

          one : Hung y R i (suc i) stop (hanging y i (suc i) t)
          one = ih i (suc i) t stop (omega arith) (omega arith) (omega (arith, ni)) (child_stop i (omega arith)) (first_child i)

          two : Hung y R p stop e (hanging y p stop (R - stop))
          two =
              ih p stop (R - stop) e (omega (arith, ni)) (omega arith) (S.child i (omega arith) pi) S
              (λ w. let z : stop ≡ next y i = omega (arith, S.most) in rw z (S.sibling i (omega arith) pi (omega arith)))

          past : (k : ℕ) → suc i ≤ k → k < stop → previous y k ≢ p
          past k f g w = pick (previous_low y i inside)
            where
              v : (i ≤ previous y k) × (previous y k < length y)
              v = inner_previous y i k f (omega arith)

              pick : (previous y i < i) ⊎ (previous y i ≡ length y) → ⊥
              pick (inl z) = omega (arith, pi, v)
              pick (inr z) = omega (arith, pi, v)

          skip : hanging y p (suc i) t ≡ hanging y p stop (R - stop)
          skip = hanging_skip y p (suc i) t stop (R - stop) (omega arith) (omega (arith, ni)) past

  pub forest_hung : Hung y R (length y) 0 R (forest_after y R)
  unfolding forest_after
  forest_hung = hung R (length y) 0 R R (omega arith) (omega arith) (omega arith) root_stop first_root
    where
      first_root : 0 < R → previous y 0 ≡ length y
      first_root h = previous_none y 0 (omega arith) (record { least = λ k g. absurd (omega arith) })
