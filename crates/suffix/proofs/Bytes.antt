-- The bytes of the tree: a row adds the weight of its opening bit to one byte.
use mathlib.Core.Path.{◌≡◌, sym, ap, ◌∙◌}
use mathlib.Core.Logic.{◌≢◌}
use mathlib.Core.Bool.{Bool, true, false, cond}
use mathlib.Core.List.{List}
use Prim.Native.Nat.{ℕ, zero, suc, ◌+◌, ◌*◌, ◌/◌, ◌%◌, ◌^◌, ◌≤◌, ◌<◌}
use native.Mathlib.Nat.{two-pow-succ}
use native.Mathlib.Omega.{arith}
use lib.ListN.{length, get_or, set, replicate, get_or-replicate, length-replicate, length-set, get_or-eq_default}
use lib.Seq.{get_or-set_same, get_or-set_other}
use Rattle.suffix.specs.Search.{sum_below, tabulate}
use Rattle.suffix.specs.Tree.{hanging, forest_after, parentheses, byte_of, tree_length, tree_after, tree_bytes}
use Rattle.suffix.proofs.Cases.{Tri, lt, eq, gt, tri, Same, same, other, same?}
use Rattle.suffix.proofs.Search.{sum_same, sum_raise, tabulate_length, tabulate_entry, tabulate_is}
use Rattle.suffix.proofs.Levels.{level, level_is}
use Rattle.suffix.proofs.Places.{SetsBit, row_sets}

weights_fit : (b : ℕ → Bool) (n : ℕ) → sum_below n (λ i. 2 ^ i * cond (b i) 1 0) < 2 ^ n
unfolding sum_below
weights_fit b zero = omega arith
weights_fit b (suc n) = go (b n) (weights_fit b n)
  where
    go : (c : Bool) → sum_below n (λ i. 2 ^ i * cond (b i) 1 0) < 2 ^ n → sum_below n (λ i. 2 ^ i * cond (b i) 1 0) + 2 ^ n * cond c 1 0 < 2 ^ suc n
    go true ih = omega (arith, two-pow-succ n)
    go false ih = omega (arith, two-pow-succ n)

byte_fits : (g : ℕ → Bool) (j : ℕ) → byte_of g j < 256
unfolding byte_of
byte_fits g j = weights_fit (λ i. g (8 * j + i)) 8

-- all bytes of the bits g
pub bytes_fit : (g : ℕ → Bool) (m j : ℕ) → get_or (tabulate m (byte_of g)) j 0 < 256
bytes_fit g m j = go (tri j m)
  where
    behind : m ≤ j → get_or (tabulate m (byte_of g)) j 0 < 256
    behind h = let z = get_or-eq_default (tabulate m (byte_of g)) 0 {n = j} (rw (tabulate_length (byte_of g) m) h) in rw z (omega arith)

    go : Tri j m → get_or (tabulate m (byte_of g)) j 0 < 256
    go (lt h) = rw (tabulate_entry (byte_of g) m j h) (byte_fits g j)
    go (eq h) = behind (omega arith)
    go (gt h) = behind (omega arith)

-- the bits of the tree after R rows
abbrev bits : List ℕ → ℕ → ℕ → Bool
bits y R k = get_or (tree_after y R) k false

pub tree_fits : (y : List ℕ) (R j : ℕ) → get_or (tree_bytes y R) j 0 < 256
unfolding tree_bytes
tree_fits y R j = bytes_fit (bits y R) (tree_length (length y)) j

pub bytes_length : (y : List ℕ) (R : ℕ) → length (tree_bytes y R) ≡ tree_length (length y)
unfolding tree_bytes
bytes_length y R = tabulate_length (byte_of (bits y R)) (tree_length (length y))

pub no_bytes : (y : List ℕ) → replicate (tree_length (length y)) 0 ≡ tree_bytes y 0
unfolding tree_bytes tree_after forest_after hanging parentheses byte_of sum_below
no_bytes y =
    tabulate_is (byte_of (bits y 0)) (replicate n 0) n (length-replicate n 0) (λ i h. get_or-replicate n i 0 0 h)
  where
    n : ℕ
    n = tree_length (length y)

module _ (y : List ℕ) (r k : ℕ) (h : r < length y) (e : k + level y r ≡ suc (r + r)) where
  S : SetsBit (tree_after y r) (tree_after y (suc r)) k
  S = row_sets y r k h e

  abbrev weighed : ℕ → ℕ → ℕ → ℕ
  weighed R j i = 2 ^ i * cond (bits y R (8 * j + i)) 1 0

  byte_raised : byte_of (bits y (suc r)) (k / 8) ≡ byte_of (bits y r) (k / 8) + 2 ^ (k % 8)
  unfolding byte_of
  byte_raised =
      let z : 8 * (k / 8) + k % 8 ≡ k = omega arith in
      sum_raise (weighed r (k / 8)) (weighed (suc r) (k / 8)) 8 (k % 8) (2 ^ (k % 8)) (omega arith) (rw (z, S.is, S.was) (omega arith))
      (λ i g ne. ap (λ b. 2 ^ i * cond b 1 0) (S.others (8 * (k / 8) + i) (omega arith)))

  byte_stays : (j : ℕ) → j ≢ k / 8 → byte_of (bits y (suc r)) j ≡ byte_of (bits y r) j
  unfolding byte_of
  byte_stays j ne = sum_same (weighed (suc r) j) (weighed r j) 8 (λ i g. ap (λ b. 2 ^ i * cond b 1 0) (S.others (8 * j + i) (omega arith)))

  pub byte_in : k / 8 < tree_length (length y)
  byte_in = omega (arith, level_is y r h)

  abbrev raised : ℕ
  raised = get_or (tree_bytes y r) (k / 8) 0 + 2 ^ (k % 8)

  raised_is : raised ≡ byte_of (bits y (suc r)) (k / 8)
  unfolding tree_bytes
  raised_is = ap (λ v. v + 2 ^ (k % 8)) (tabulate_entry (byte_of (bits y r)) (tree_length (length y)) (k / 8) byte_in) ∙ sym byte_raised

  pub byte_room : raised < 256
  byte_room = omega (arith, raised_is, byte_fits (bits y (suc r)) (k / 8))

  pub tree_set : set (tree_bytes y r) (k / 8) raised ≡ tree_bytes y (suc r)
  unfolding tree_bytes
  tree_set =
      tabulate_is (byte_of (bits y (suc r))) (set (tree_bytes y r) (k / 8) raised) (tree_length (length y))
      (length-set (tree_bytes y r) (k / 8) raised ∙ bytes_length y r) (λ i g. go i g (same? i (k / 8)))
    where
      go : (i : ℕ) → i < tree_length (length y) → Same i (k / 8) → get_or (set (tree_bytes y r) (k / 8) raised) i 0 ≡ byte_of (bits y (suc r)) i
      go i g (same q) = rw q (get_or-set_same (tree_bytes y r) (k / 8) raised 0 (omega (arith, bytes_length y r)) ∙ raised_is)
      go i g (other q) =
          get_or-set_other (tree_bytes y r) (k / 8) i raised 0 q ∙ tabulate_entry (byte_of (bits y r)) (tree_length (length y)) i g ∙ sym (byte_stays i q)
