-- The reach is the greatest of 1 and r + match(l, r) over the edges (l, r).
use mathlib.Core.Path.{◌≡◌, refl, sym, ◌∙◌}
use mathlib.Core.Logic.{◌≢◌, ◌⊎◌, inl, inr}
use mathlib.Core.Bool.{Bool, true, false, ◌||◌, true≢false}
use mathlib.Core.List.{List}
use Prim.Native.Nat.{ℕ, zero, suc, ◌+◌, ◌≤◌, ◌<◌}
use native.Mathlib.Omega.{arith}
use lib.Dec.{eqb}
use lib.ListN.{length}
use borrow.Author.Tests.{eq-eqb, ne_eqb}
use Rattle.suffix.specs.Search.{maximum_below}
use Rattle.suffix.specs.Order.{lce}
use Rattle.suffix.specs.Nearest.{previous, next}
use Rattle.suffix.specs.Rows.{is_pair, pair_reach, reach}
use Rattle.suffix.proofs.Cases.{Same, same, other, same?}
use Rattle.suffix.proofs.Search.{maximum_most, maximum_least}
use Rattle.suffix.proofs.Edges.{Edge}
use Rattle.suffix.proofs.Order.{extended}
use Rattle.suffix.proofs.Nearest.{pair_edge, edge_pair}

module _ (y : List ℕ) where
  pub pair_in : (l r : ℕ) → (next y l ≡ r) ⊎ (previous y r ≡ l) → is_pair y l r ≡ true
  unfolding is_pair
  pair_in l r (inl e) = rw (eq-eqb (next y l) r e)
  pair_in l r (inr e) = rw (eq-eqb (previous y r) l e) (go (eqb (next y l) r))
    where
      go : (b : Bool) → b || true ≡ true
      go true = refl
      go false = refl

  pair_out : (l r : ℕ) → next y l ≢ r → previous y r ≢ l → is_pair y l r ≡ false
  unfolding is_pair
  pair_out l r e q = rw (ne_eqb (next y l) r e, ne_eqb (previous y r) l q)

  pub pair_from : (l r : ℕ) → is_pair y l r ≡ true → (next y l ≡ r) ⊎ (previous y r ≡ l)
  pair_from l r e = go (same? (next y l) r) (same? (previous y r) l)
    where
      go : Same (next y l) r → Same (previous y r) l → (next y l ≡ r) ⊎ (previous y r ≡ l)
      go (same p) q = inl p
      go (other p) (same q) = inr q
      go (other p) (other q) = absurd (true≢false (sym e ∙ pair_out l r p q))

  pair_reach_edge : (l r : ℕ) → r < length y → Edge (extended y) l r → pair_reach y l r ≡ r + lce y l r
  unfolding pair_reach
  pair_reach_edge l r g e = rw (pair_in l r (edge_pair y l r e.before g e), pair_reach)

  pair_reach_most : (c l r : ℕ) → l < r → r < length y → (Edge (extended y) l r → r + lce y l r ≤ c) → pair_reach y l r ≤ c
  unfolding pair_reach
  pair_reach_most c l r h g q = go (same? (next y l) r) (same? (previous y r) l)
    where
      edge : (next y l ≡ r) ⊎ (previous y r ≡ l) → pair_reach y l r ≤ c
      edge p = rw (pair_in l r p, pair_reach) (q (pair_edge y l r h g p))

      go : Same (next y l) r → Same (previous y r) l → pair_reach y l r ≤ c
      go (same e) p = edge (inl e)
      go (other e) (same p) = edge (inr p)
      go (other e) (other p) = rw (pair_out l r e p, pair_reach) (omega arith)

  pub reach_most : (c R : ℕ) → 1 ≤ c → R ≤ length y → ((l r : ℕ) → Edge (extended y) l r → r < R → r + lce y l r ≤ c) → reach y R ≤ c
  unfolding reach
  reach_most c zero p h q = omega arith
  reach_most c (suc r) p h q =
      omega (
        arith,
        maximum_most (λ b. maximum_below b (λ a. pair_reach y a b)) (suc r) c
            (λ b g. maximum_most (λ a. pair_reach y a b) b c (λ a w. pair_reach_most c a b w (omega arith) (λ e. q a b e g))),
      )

  pub reach_least : (R l r : ℕ) → R ≤ length y → r < R → Edge (extended y) l r → r + lce y l r ≤ reach y R
  unfolding reach
  reach_least zero l r h g e = absurd (omega arith)
  reach_least (suc R) l r h g e =
      omega (
        arith,
        pair_reach_edge l r (omega arith) e,
        maximum_least (λ a. pair_reach y a r) r l e.before,
        maximum_least (λ b. maximum_below b (λ a. pair_reach y a b)) (suc R) r g,
      )

  pub reach_one : (R : ℕ) → 0 < R → 1 ≤ reach y R
  unfolding reach
  reach_one zero h = absurd (omega arith)
  reach_one (suc r) h = omega arith
