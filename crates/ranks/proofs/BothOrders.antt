-- Letters of which none is from 65 to 96 compare by their ranks as by their values, so both orders give them the same entries and the same tree.
use mathlib.Core.Path.{◌≡◌, refl, sym, ap, ap₂, ◌∙◌, fun_ext}
use mathlib.Core.Logic.{◌≢◌, inl, inr}
use mathlib.Core.List.{List, [], ◌∷◌}
use Prim.Native.Nat.{ℕ, zero, suc, ◌-◌, ◌<◌}
use native.Mathlib.Omega.{arith}
use lib.Dec.{ltb}
use lib.ListN.{length, drop}
use borrow.Author.Tests.{eq-eqb, ne_eqb, lt-ltb, le-ltb}
use Rattle.suffix.specs.Search.{greatest_below, least_from}
use Rattle.suffix.specs.Order.{lex_less, lcp, suffix_less, lce}
use Rattle.suffix.specs.Nearest.{previous, next}
use Rattle.suffix.specs.Tree.{tree, hanging, forest_after, tree_after, tree_bytes}
use Rattle.suffix.proofs.Cases.{Tri, lt, eq, gt, tri, Same, same, other, same?}
use Rattle.suffix.proofs.Hanging.{hanging_in, hanging_out}
use Rattle.ranks.specs.Ranks.{rank, ranks}
use Rattle.ranks.specs.Claims.{NotBetween, NoneBetween, SameInBothOrders, OrdersAgree}
use Rattle.ranks.proofs.Ranks as ranking
use Rattle.ranks.proofs.Ranks.{Ranked, ranked, ranks_length, ranks_drop}
use Rattle.ranks.proofs.Masking.{unmasked_ranks}

-- ---- two letters

less : (a b : ℕ) → NotBetween a → a < b → rank a < rank b
less a b h l = go h (ranked a) (ranked b)
  where
    go : NotBetween a → Ranked a → Ranked b → rank a < rank b
    go h (ranking.small i j p) (ranking.small m n q) = omega arith
    go h (ranking.small i j p) (ranking.other (inl m) q) = absurd (omega arith)
    go h (ranking.small i j p) (ranking.other (inr m) q) = omega arith
    go h (ranking.other (inr i) p) (ranking.small m n q) = absurd (omega arith)
    go (inl h) (ranking.other (inl i) p) (ranking.small m n q) = omega arith
    go (inr h) (ranking.other (inl i) p) (ranking.small m n q) = absurd (omega arith)
    go h (ranking.other i p) (ranking.other m q) = omega arith

unequal : (a b : ℕ) → NotBetween a → NotBetween b → a ≢ b → (rank a ≢ rank b) × (ltb (rank a) (rank b) ≡ ltb a b)
unequal a b h g d = go (tri a b)
  where
    go : Tri a b → (rank a ≢ rank b) × (ltb (rank a) (rank b) ≡ ltb a b)
    go (lt l) = let w = less a b h l in (omega (arith, w), lt-ltb (rank a) (rank b) w ∙ sym (lt-ltb a b l))
    go (eq e) = absurd (d e)
    go (gt l) = let w = less b a g l in (omega (arith, w), le-ltb (rank a) (rank b) (omega (arith, w)) ∙ sym (le-ltb a b (omega arith)))

-- ---- two strings

rest : (x : ℕ) (s : List ℕ) → NoneBetween (x ∷ s) → NoneBetween s
rest x s h = λ i g. h (suc i) (omega arith)

lex_same : (s t : List ℕ) → NoneBetween s → NoneBetween t → lex_less (ranks s) (ranks t) ≡ lex_less s t
unfolding lex_less
lex_same s [] h g = refl
lex_same [] (b ∷ t) h g = refl
lex_same (a ∷ s) (b ∷ t) h g = go (same? a b) (lex_same s t (rest a s h) (rest b t g))
  where
    go : Same a b → lex_less (ranks s) (ranks t) ≡ lex_less s t → lex_less (ranks (a ∷ s)) (ranks (b ∷ t)) ≡ lex_less (a ∷ s) (b ∷ t)
    go (same e) further = rw (eq-eqb a b e, eq-eqb (rank a) (rank b) (ap rank e), lex_less) further
    go (other d) further = let u = unequal a b (h 0 (omega arith)) (g 0 (omega arith)) d in rw (ne_eqb a b d, ne_eqb (rank a) (rank b) u.0, lex_less) u.1

lcp_same : (s t : List ℕ) → NoneBetween s → NoneBetween t → lcp (ranks s) (ranks t) ≡ lcp s t
unfolding lcp
lcp_same [] t h g = refl
lcp_same (a ∷ s) [] h g = refl
lcp_same (a ∷ s) (b ∷ t) h g = go (same? a b) (lcp_same s t (rest a s h) (rest b t g))
  where
    go : Same a b → lcp (ranks s) (ranks t) ≡ lcp s t → lcp (ranks (a ∷ s)) (ranks (b ∷ t)) ≡ lcp (a ∷ s) (b ∷ t)
    go (same e) further = rw (eq-eqb a b e, eq-eqb (rank a) (rank b) (ap rank e), lcp) (ap suc further)
    go (other d) further = let u = unequal a b (h 0 (omega arith)) (g 0 (omega arith)) d in rw (ne_eqb a b d, ne_eqb (rank a) (rank b) u.0, lcp)

from : (i : ℕ) (s : List ℕ) → NoneBetween s → NoneBetween (drop i s)
from zero s h = h
from (suc i) [] h = h
from (suc i) (x ∷ s) h = from i s (rest x s h)

-- ---- the suffixes of a string

module _ (letters : List ℕ) (h : NoneBetween letters) where
  less_same : (i j : ℕ) → suffix_less (ranks letters) i j ≡ suffix_less letters i j
  unfolding suffix_less
  less_same i j = rw (← ranks_drop i letters, ← ranks_drop j letters) (lex_same _ _ (from i letters h) (from j letters h))

  match_same : (i j : ℕ) → lce (ranks letters) i j ≡ lce letters i j
  unfolding lce
  match_same i j = rw (← ranks_drop i letters, ← ranks_drop j letters) (lcp_same _ _ (from i letters h) (from j letters h))

  previous_same : (i : ℕ) → previous (ranks letters) i ≡ previous letters i
  unfolding previous
  previous_same i = ap₂ (greatest_below i) (fun_ext (λ j. less_same j i)) (ranks_length letters)

  next_same : (i : ℕ) → next (ranks letters) i ≡ next letters i
  unfolding next
  next_same i = ap₂ (λ less n. least_from (suc i) (n - suc i) less n) (fun_ext (λ j. less_same j i)) (ranks_length letters)

  hanging_same : (p i t : ℕ) → hanging (ranks letters) p i t ≡ hanging letters p i t
  unfolding hanging
  hanging_same p i zero = refl
  hanging_same p i (suc t) = go (same? (previous letters i) p) (hanging_same i (suc i) t) (hanging_same p (suc i) t)
    where
      go : Same (previous letters i) p → hanging (ranks letters) i (suc i) t ≡ hanging letters i (suc i) t → hanging (ranks letters) p (suc i) t ≡ hanging letters p (suc i) t
          → hanging (ranks letters) p i (suc t) ≡ hanging letters p i (suc t)
      go (same e) under right = hanging_in (ranks letters) p i t (previous_same i ∙ e) ∙ ap₂ tree under right ∙ sym (hanging_in letters p i t e)
      go (other d) under right = hanging_out (ranks letters) p i t (λ e. d (sym (previous_same i) ∙ e)) ∙ right ∙ sym (hanging_out letters p i t d)

  tree_same : (R : ℕ) → tree_bytes (ranks letters) R ≡ tree_bytes letters R
  unfolding tree_bytes tree_after forest_after
  tree_same R = rw (ranks_length letters, hanging_same (length letters) 0 R)

  both_orders : SameInBothOrders letters
  both_orders = record { previous = previous_same; next = next_same; match = match_same; tree = tree_same }

pub orders_agree_lem : OrdersAgree
orders_agree_lem letters (inl U) =
    let e = unmasked_ranks letters U in
    record { previous = λ i. ap (λ y. previous y i) e; next = λ i. ap (λ y. next y i) e; match = λ i j. ap (λ y. lce y i j) e; tree = λ R. ap (λ y. tree_bytes y R) e }
orders_agree_lem letters (inr h) = both_orders letters h
