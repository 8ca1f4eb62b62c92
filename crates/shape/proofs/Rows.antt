-- The shape of the tree after R rows: its size and its two tables.
use mathlib.Core.Path.{◌≡◌, refl, sym, ap, ◌∙◌}
use mathlib.Core.List.{List, ◌++◌}
use Prim.Native.Nat.{ℕ, zero, suc, ◌+◌, ◌≤◌, ◌<◌, min}
use native.Mathlib.Omega.{arith}
use lib.Dec.{eqb}
use lib.ListN.{length}
use borrow.Author.Tests.{eq-eqb, ne_eqb, eqb-true, lt-ltb, le-ltb}
use Rattle.suffix.specs.Search.{tabulate_from, tabulate}
use Rattle.suffix.specs.Nearest.{previous, next}
use Rattle.suffix.specs.Rows.{previous_after, next_settled, next_after}
use Rattle.suffix.specs.Tree.{Forest, forest_after}
use Rattle.suffix.proofs.Cases.{Tri, lt, eq, gt, tri, Test, holds, fails, test}
use Rattle.suffix.proofs.Search.{tabulate_same}
use Rattle.suffix.proofs.Nearest.{next_le}
use Rattle.suffix.proofs.Hanging.{Hung, nothing, node, forest_hung}
use Rattle.shape.specs.Shape.{size, parents, ends}
use Rattle.shape.specs.Claims.{for_none}

-- a table in two parts
pub table_parts : (g : ℕ → ℕ) (i m k : ℕ) → tabulate_from i (m + k) g ≡ tabulate_from i m g ++ tabulate_from (i + m) k g
unfolding tabulate_from
table_parts g i zero k = let z : 0 + k ≡ k = omega arith in let w : i + 0 ≡ i = omega arith in rw (z, w)
table_parts g i (suc m) k =
    let z : suc m + k ≡ suc (m + k) = omega arith in
    let w : i + suc m ≡ suc i + m = omega arith in
    rw (z, w, table_parts g (suc i) m k)

module _ (y : List ℕ) (R : ℕ) (fits : R ≤ length y) where
  hung_size : {p i e : ℕ} {f : Forest} → Hung y R p i e f → i + size f ≡ e
  hung_size nothing = omega arith
  hung_size (node h pi one two) = omega (arith, hung_size one, hung_size two)

  -- a position below R is not none
  kept : (i : ℕ) → i < R → for_none (length y) R i ≡ i
  unfolding for_none
  kept i h = rw (ne_eqb i (length y) (omega arith), for_none)

  hung_parents : {p i e : ℕ} {f : Forest} → Hung y R p i e f → parents f i (for_none (length y) R p) ≡ tabulate_from i (size f) (λ k. for_none (length y) R (previous y k))
  unfolding tabulate_from
  hung_parents nothing = refl
  hung_parents {p} {i} (node {under = u} {right = r} h pi one two) =
      let z : suc i + size u ≡ min (next y i) R = hung_size one in
      let w : parents u (suc i) i ≡ tabulate_from (suc i) (size u) (λ k. for_none (length y) R (previous y k)) = rw (kept i h) at (hung_parents one) in
      rw (table_parts (λ k. for_none (length y) R (previous y k)) (suc i) (size u) (size r), z, pi, w, hung_parents two)

  hung_ends : {p i e : ℕ} {f : Forest} → Hung y R p i e f → ends f i ≡ tabulate_from i (size f) (λ k. min (next y k) R)
  unfolding tabulate_from
  hung_ends nothing = refl
  hung_ends {p} {i} (node {under = u} {right = r} h pi one two) =
      let z : suc i + size u ≡ min (next y i) R = hung_size one in
      let w : i + suc (size u) ≡ min (next y i) R = omega (arith, hung_size one) in
      rw (table_parts (λ k. min (next y k) R) (suc i) (size u) (size r), z, w, hung_ends one, hung_ends two)

  pub rows_size : size (forest_after y R) ≡ R
  rows_size = omega (arith, hung_size (forest_hung y R fits))

  all : for_none (length y) R (length y) ≡ R
  unfolding for_none
  all = rw (eq-eqb (length y) (length y) refl, for_none)

  before : (i : ℕ) → i < R → previous y i ≡ previous_after y R i
  unfolding previous_after
  before i h = rw (lt-ltb i R h, previous_after)

  settled : (i : ℕ) → i < R → next y i < R → next_after y R i ≡ next y i
  unfolding next_after next_settled
  settled i h w = rw (lt-ltb i R h, lt-ltb (next y i) R w, next_after)

  pending : (i : ℕ) → i < R → R ≤ next y i → next_after y R i ≡ length y
  unfolding next_after next_settled
  pending i h w = rw (lt-ltb i R h, le-ltb (next y i) R w, next_after)

  after : (i : ℕ) → i < R → min (next y i) R ≡ for_none (length y) R (next_after y R i)
  after i h = go (tri (next y i) R)
    where
      last : R ≤ next y i → min (next y i) R ≡ for_none (length y) R (next_after y R i)
      last w = rw (pending i h w, all) (omega arith)

      go : Tri (next y i) R → min (next y i) R ≡ for_none (length y) R (next_after y R i)
      go (lt w) = rw (settled i h w, kept (next y i) w) (omega arith)
      go (eq w) = last (omega arith)
      go (gt w) = last (omega arith)

  -- the entries of the tables after R rows, with R for none
  pub rows_parents : parents (forest_after y R) 0 R ≡ tabulate R (λ i. for_none (length y) R (previous_after y R i))
  unfolding tabulate
  rows_parents =
      rw (all, rows_size) at (hung_parents (forest_hung y R fits))
      ∙ tabulate_same (λ i. for_none (length y) R (previous y i)) (λ i. for_none (length y) R (previous_after y R i)) R (λ i h. ap (for_none (length y) R) (before i h))

  pub rows_ends : ends (forest_after y R) 0 ≡ tabulate R (λ i. for_none (length y) R (next_after y R i))
  unfolding tabulate
  rows_ends =
      rw rows_size at (hung_ends (forest_hung y R fits)) ∙ tabulate_same (λ i. min (next y i) R) (λ i. for_none (length y) R (next_after y R i)) R after

-- all rows
pub full_parents : (y : List ℕ) → parents (forest_after y (length y)) 0 (length y) ≡ tabulate (length y) (previous y)
unfolding tabulate for_none
full_parents y =
    let n = length y in
    rw (all y n (omega arith), rows_size y n (omega arith)) at (hung_parents y n (omega arith) (forest_hung y n (omega arith)))
    ∙ tabulate_same (λ i. for_none n n (previous y i)) (previous y) n (λ i h. same_none (previous y i))
  where
    same_none : (v : ℕ) → for_none (length y) (length y) v ≡ v
    same_none v = go (test (eqb v (length y)))
      where
        go : Test (eqb v (length y)) → for_none (length y) (length y) v ≡ v
        go (holds e) = rw (e, for_none) (sym (eqb-true v (length y) e))
        go (fails e) = rw (e, for_none)

pub full_ends : (y : List ℕ) → ends (forest_after y (length y)) 0 ≡ tabulate (length y) (next y)
unfolding tabulate
full_ends y =
    let n = length y in
    rw (rows_size y n (omega arith)) at (hung_ends y n (omega arith) (forest_hung y n (omega arith)))
    ∙ tabulate_same (λ i. min (next y i) n) (next y) n (λ i h. omega (arith, next_le y i))
