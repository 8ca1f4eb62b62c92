-- The next table of the string of a forest is that of the forest: what hangs below a position has greater numbers, and what comes behind it a
-- smaller one.
use mathlib.Core.Path.{◌≡◌, refl, ap, ◌∙◌}
use mathlib.Core.List.{List}
use Prim.Native.Nat.{ℕ, suc, ◌+◌, ◌-◌, ◌≤◌, ◌<◌}
use native.Mathlib.Omega.{arith}
use lib.ListN.{length, get_or}
use Rattle.suffix.specs.Search.{tabulate_from, tabulate}
use Rattle.suffix.specs.Nearest.{next}
use Rattle.suffix.specs.Tree.{Forest, none, tree}
use Rattle.suffix.proofs.Sequence.{Less, agree_none}
use Rattle.suffix.proofs.Order.{extended, extended_in, extended_out}
use Rattle.suffix.proofs.Nearest.{next_is}
use Rattle.shape.specs.Shape.{size, ends}
use Rattle.shape.proofs.Rows.{table_parts}
use Rattle.tree_string.proofs.Numbers.{numbers, numbers_length, number_under, number_right, numbers_range}

module _ (s : List ℕ) where
  -- by the first letters
  less : (i j : ℕ) → extended s i < extended s j → Less (extended s) i j
  less i j h =
      let a : i + 0 ≡ i = omega arith in
      let b : j + 0 ≡ j = omega arith in
      record { at = 0; same = agree_none (extended s); less = rw (a, b) h }

  -- the forest stands from position i on, its numbers count from c, and what comes behind it is smaller
  record Stands (f : Forest) (i c : ℕ) : Type 0 where
    within : i + size f ≤ length s
    entry : (k : ℕ) → k < size f → get_or s (i + k) 0 ≡ get_or (numbers f c) k 0
    behind : extended s (i + size f) ≤ c

  module _ {u r : Forest} {i c : ℕ} (S : Stands (tree u r) i c) where
    at_first : extended s i ≡ suc (c + size r)
    at_first =
        let z : i + 0 ≡ i = omega arith in
        extended_in s i (omega (arith, S.within)) ∙ ap suc (rw z at (S.entry 0 (omega arith)))

    on_right : Stands r (suc i + size u) c
    on_right =
        let z : suc i + size u + size r ≡ i + suc (size u + size r) = omega arith in
        record {
          within = omega (arith, S.within);
          entry =
              λ k h.
              (let w : suc i + size u + k ≡ i + suc (size u + k) = omega arith in
              rw w (S.entry (suc (size u + k)) (omega arith) ∙ number_right u r c k));
          behind = rw z S.behind;
        }

    -- behind what hangs under the root
    next_root : extended s (suc i + size u) ≤ c + size r
    next_root = go r on_right
      where
        go : (r : Forest) → Stands r (suc i + size u) c → extended s (suc i + size u) ≤ c + size r
        go none R = let z : suc i + size u + 0 ≡ suc i + size u = omega arith in omega (arith, rw z at R.behind)
        go (tree v w) R =
            let z : suc i + size u + 0 ≡ suc i + size u = omega arith in
            omega (arith, extended_in s (suc i + size u) (omega (arith, R.within)), rw z at (R.entry 0 (omega arith)))

    below : Stands u (suc i) (suc (c + size r))
    below =
        record {
          within = omega (arith, S.within);
          entry = λ k h. (let w : suc i + k ≡ i + suc k = omega arith in rw w (S.entry (suc k) (omega arith) ∙ number_under u r c k h));
          behind = omega (arith, next_root);
        }

    next_of : next s i ≡ i + suc (size u)
    next_of =
        next_is s i (omega (arith, S.within)) (i + suc (size u))
        (record {
          after = omega arith;
          smaller = (let z : suc i + size u ≡ i + suc (size u) = omega arith in less (i + suc (size u)) i (omega (arith, at_first, rw z at next_root)));
          nearest = λ k a b. less i k (larger k (k - suc i) a b (omega arith));
        })
      where
        larger : (k m : ℕ) → i < k → k < i + suc (size u) → k ≡ suc i + m → extended s i < extended s k
        larger k m a b z =
            rw z
            (omega (
              arith,
              at_first,
              extended_in s (suc i + m) (omega (arith, S.within)),
              below.entry m (omega arith),
              numbers_range u (suc (c + size r)) m (omega arith),
            ))

  ends_are : (f : Forest) (i c : ℕ) → Stands f i c → ends f i ≡ tabulate_from i (size f) (next s)
  unfolding tabulate_from
  ends_are none i c S = refl
  ends_are (tree u r) i c S =
      rw (table_parts (next s) (suc i) (size u) (size r), next_of S, ends_are u (suc i) (suc (c + size r)) (below S), ends_are r (suc i + size u) c (on_right S))

pub string_next : (f : Forest) → ends f 0 ≡ tabulate (size f) (next (numbers f 0))
unfolding tabulate
string_next f =
    ends_are (numbers f 0) f 0 0
    (record {
      within = omega (arith, numbers_length f 0);
      entry = λ k h. (let z : 0 + k ≡ k = omega arith in ap (λ k. get_or (numbers f 0) k 0) z);
      behind = omega (arith, extended_out (numbers f 0) (0 + size f) (omega (arith, numbers_length f 0)));
    })
