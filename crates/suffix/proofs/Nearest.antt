-- previous and next name the nearest smaller suffixes.
use mathlib.Core.Path.{◌≡◌, ap}
use mathlib.Core.Logic.{◌≢◌, ◌⊎◌, inl, inr}
use mathlib.Core.Bool.{false}
use mathlib.Core.List.{List}
use Prim.Native.Nat.{ℕ, suc, ◌+◌, ◌-◌, ◌≤◌, ◌<◌}
use native.Mathlib.Omega.{arith}
use lib.ListN.{length}
use borrow.Author.Tests.{eq-eqb, ne_eqb}
use Rattle.suffix.specs.Order.{suffix_less, lce}
use Rattle.suffix.specs.Nearest.{previous, next, next_match}
use Rattle.suffix.proofs.Cases.{Tri, lt, eq, gt, tri, Same, same, other, same?}
use Rattle.suffix.proofs.Search.{Greatest, Least, found, absent, greatest, least}
use Rattle.suffix.proofs.Sequence.{Less, asym}
use Rattle.suffix.proofs.Edges.{Edge, PreviousAt, NoPrevious, NextAt, prev_unique, next_unique, prev_edge, next_edge, edge_prev, edge_next}
use Rattle.suffix.proofs.Order.{extended, less_from_true, less_from_false, total, end_least, lce_match, agree_fits}

pub data PreviousCase (y : List ℕ) (i v : ℕ) : Type 0 where
  some : PreviousAt (extended y) i v → PreviousCase y i v
  none : v ≡ length y → NoPrevious (extended y) i → PreviousCase y i v

module _ (y : List ℕ) (i : ℕ) (h : i < length y) where
  larger : (k : ℕ) → k ≢ i → k < length y → suffix_less y k i ≡ false → Less (extended y) i k
  larger k ne g e = less_from_false y k i ne (omega arith) (omega arith) e

  pub previous_case : PreviousCase y i (previous y i)
  unfolding previous
  previous_case = go (greatest (λ j. suffix_less y j i) (length y) i)
    where
      go : {v : ℕ} → Greatest i (λ j. suffix_less y j i) (length y) v → PreviousCase y i v
      go {v} (found a b c) =
          some
          (record {
            before = a;
            smaller = less_from_true y v i (omega arith) (omega arith) (omega arith) b;
            nearest = λ k u w. larger k (omega arith) (omega arith) (c k u w);
          })
      go (absent a c) = none a (record { least = λ k w. larger k (omega arith) (omega arith) (c k w) })

  pub previous_is : (p : ℕ) → PreviousAt (extended y) i p → previous y i ≡ p
  previous_is p q = go previous_case
    where
      go : PreviousCase y i (previous y i) → previous y i ≡ p
      go (some g) = prev_unique (extended y) g q
      go (none e g) = absurd (asym (extended y) q.smaller (g.least p q.before))

  pub previous_none : NoPrevious (extended y) i → previous y i ≡ length y
  previous_none q = go previous_case
    where
      go : PreviousCase y i (previous y i) → previous y i ≡ length y
      go (some g) = absurd (asym (extended y) g.smaller (q.least (previous y i) g.before))
      go (none e g) = e

  -- where it is known to be p, or none
  pub previous_at_lem : (p : ℕ) → p < length y → previous y i ≡ p → PreviousAt (extended y) i p
  previous_at_lem p g e = go previous_case
    where
      go : PreviousCase y i (previous y i) → PreviousAt (extended y) i p
      go (some P) = rw e at P
      go (none q N) = absurd (omega arith)

  pub no_previous : previous y i ≡ length y → NoPrevious (extended y) i
  no_previous e = go previous_case
    where
      go : PreviousCase y i (previous y i) → NoPrevious (extended y) i
      go (some P) = absurd (omega (arith, P.before))
      go (none q N) = N

  pub previous_low : (previous y i < i) ⊎ (previous y i ≡ length y)
  previous_low = go previous_case
    where
      go : PreviousCase y i (previous y i) → (previous y i < i) ⊎ (previous y i ≡ length y)
      go (some P) = inl P.before
      go (none e N) = inr e

  pub next_at_lem : NextAt (extended y) i (next y i)
  unfolding next
  next_at_lem = go (least (λ j. suffix_less y j i) (length y) (suc i) (length y - suc i))
    where
      go : {v : ℕ} → Least (suc i) (length y - suc i) (λ j. suffix_less y j i) (length y) v → NextAt (extended y) i v
      go {v} (found a b c d) =
          record {
            after = a;
            smaller = less_from_true y v i (omega arith) (omega arith) (omega arith) c;
            nearest = λ k u w. larger k (omega arith) (omega arith) (d k u w);
          }
      go {v} (absent a d) =
          record {
            after = omega arith;
            smaller = rw a (end_least y i h);
            nearest = λ k u w. larger k (omega arith) (omega arith) (d k u (omega arith));
          }

  pub next_is : (q : ℕ) → NextAt (extended y) i q → next y i ≡ q
  next_is q g = next_unique (extended y) next_at_lem g

pub next_le : (y : List ℕ) (i : ℕ) → next y i ≤ length y
unfolding next
next_le y i = go (least (λ j. suffix_less y j i) (length y) (suc i) (length y - suc i))
  where
    go : {v : ℕ} → Least (suc i) (length y - suc i) (λ j. suffix_less y j i) (length y) v → v ≤ length y
    go (found a b c d) = omega arith
    go (absent a d) = omega arith

-- next-match is the match with next, also where that is none: the empty suffix shares no letter
pub next_match_is : (y : List ℕ) (i : ℕ) → i < length y → next_match y i ≡ lce y i (next y i)
unfolding next_match
next_match_is y i h = go (same? (next y i) (length y))
  where
    fits : next y i + lce y i (next y i) ≤ length y
    fits =
        let N = next_at_lem y i h in
        agree_fits y N.after (next_le y i) (lce_match y i (next y i) (omega (arith, N.after)) (omega arith) (next_le y i)).same

    go : Same (next y i) (length y) → next_match y i ≡ lce y i (next y i)
    go (same e) = rw (eq-eqb _ _ e, next_match) (omega (arith, fits))
    go (other e) = rw (ne_eqb _ _ e, next_match)

-- nothing is smaller than the end
pub previous_end : (y : List ℕ) → previous y (length y) ≡ length y
unfolding previous
previous_end y = go (greatest (λ j. suffix_less y j (length y)) (length y) (length y))
  where
    go : {v : ℕ} → Greatest (length y) (λ j. suffix_less y j (length y)) (length y) v → v ≡ length y
    go {v} (found a b c) =
        absurd (asym (extended y) (less_from_true y v (length y) (omega arith) (omega arith) (omega arith) b) (end_least y v a))
    go (absent a c) = a

-- the end too has its case
pub previous_any : (y : List ℕ) (i : ℕ) → i ≤ length y → PreviousCase y i (previous y i)
previous_any y i h = go (tri i (length y))
  where
    go : Tri i (length y) → PreviousCase y i (previous y i)
    go (lt w) = previous_case y i w
    go (eq w) = rw w (none (previous_end y) (record { least = λ k g. end_least y k g }))
    go (gt w) = absurd (omega arith)

-- each position below r has a previous smaller suffix or none
pub previous_all : (y : List ℕ) (r : ℕ) → r ≤ length y → (i : ℕ) → i < r → ((p : ℕ) × PreviousAt (extended y) i p) ⊎ NoPrevious (extended y) i
previous_all y r h i g = go (previous_case y i (omega arith))
  where
    go : PreviousCase y i (previous y i) → ((p : ℕ) × PreviousAt (extended y) i p) ⊎ NoPrevious (extended y) i
    go (some P) = inl (previous y i, P)
    go (none e N) = inr N

-- an edge is a pair of the definitions: next[l] = r or previous[r] = l
module _ (y : List ℕ) (l r : ℕ) (h : l < r) (g : r < length y) where
  pub pair_edge : (next y l ≡ r) ⊎ (previous y r ≡ l) → Edge (extended y) l r
  pair_edge (inl e) = next_edge (extended y) (rw e at (next_at_lem y l (omega arith)))
  pair_edge (inr e) = prev_edge (extended y) (previous_at_lem y r g l (omega arith) e)

  pub edge_pair : Edge (extended y) l r → (next y l ≡ r) ⊎ (previous y r ≡ l)
  edge_pair e = go (total y l r (omega arith) (omega arith) (omega arith))
    where
      go : Less (extended y) l r ⊎ Less (extended y) r l → (next y l ≡ r) ⊎ (previous y r ≡ l)
      go (inl s) = inr (previous_is y r g l (edge_prev (extended y) e s))
      go (inr s) = inl (next_is y l (omega arith) r (edge_next (extended y) e s))

-- or one with the end: next[l] = n
pub pair_edge_end : (y : List ℕ) (l r : ℕ) → l < r → r ≤ length y → (next y l ≡ r) ⊎ (previous y r ≡ l) → Edge (extended y) l r
pair_edge_end y l r h g (inl e) = next_edge (extended y) (rw e at (next_at_lem y l (omega arith)))
pair_edge_end y l r h g (inr e) = go (tri r (length y))
  where
    go : Tri r (length y) → Edge (extended y) l r
    go (lt w) = pair_edge y l r h w (inr e)
    go (eq w) = absurd (omega (arith, previous_end y, ap (previous y) w))
    go (gt w) = absurd (omega arith)
