-- The numbers of a forest's positions, from left to right; and that they are those of the order.
use mathlib.Core.Path.{◌≡◌, refl, sym, ap, ◌∙◌}
use mathlib.Core.Logic.{◌⊎◌, inl, inr}
use mathlib.Core.List.{List, [], ◌∷◌, ◌++◌, append_assoc, append-nil}
use Prim.Native.Nat.{ℕ, zero, suc, ◌+◌, ◌-◌, ◌≤◌, ◌<◌}
use native.Mathlib.Omega.{arith}
use lib.ListN.{length, get_or, length-append}
use borrow.Author.Tests.{eq-eqb, ne_eqb}
use Rattle.suffix.specs.Tree.{Forest, none, tree}
use Rattle.suffix.proofs.Cases.{Tri, lt, eq, gt, tri, Same, same, other, same?}
use Rattle.shape.specs.Shape.{size}
use Rattle.shape.proofs.Shapes.{entry_left, entry_right}
use Rattle.tree_string.specs.TreeString.{order, number_in}

-- counting from c: what stands to the right comes first, then the root, then what hangs under it
abbrev pub numbers : Forest → ℕ → List ℕ
numbers none c = []
numbers (tree under right) c = (c + size right) ∷ numbers under (suc (c + size right)) ++ numbers right c

pub numbers_length : (f : Forest) (c : ℕ) → length (numbers f c) ≡ size f
numbers_length none c = refl
numbers_length (tree u r) c =
    ap suc (length-append (numbers u (suc (c + size r))) (numbers r c) ∙ omega (arith, numbers_length u (suc (c + size r)), numbers_length r c))

-- an entry under the root, and one to its right
pub number_under : (u r : Forest) (c k : ℕ) → k < size u → get_or (numbers (tree u r) c) (suc k) 0 ≡ get_or (numbers u (suc (c + size r))) k 0
number_under u r c k h = entry_left (numbers u (suc (c + size r))) (numbers r c) (size u) k (numbers_length u (suc (c + size r))) h

pub number_right : (u r : Forest) (c k : ℕ) → get_or (numbers (tree u r) c) (suc (size u + k)) 0 ≡ get_or (numbers r c) k 0
number_right u r c k = entry_right (numbers u (suc (c + size r))) (numbers r c) (size u) k (numbers_length u (suc (c + size r)))

-- an entry is the root's, or one under it, or one to its right
data Where (u : Forest) (k : ℕ) : Type 0 where
  at_root : k ≡ 0 → Where u k
  at_under : (m : ℕ) → k ≡ suc m → m < size u → Where u k
  at_right : (m : ℕ) → k ≡ suc (size u + m) → Where u k

where_is : (u : Forest) (k : ℕ) → Where u k
where_is u zero = at_root refl
where_is u (suc k) = go (tri k (size u))
  where
    go : Tri k (size u) → Where u (suc k)
    go (lt h) = at_under k refl h
    go (eq h) = at_right 0 (omega arith)
    go (gt h) = at_right (k - size u) (omega arith)

-- ---- the order

number_here : (q p : ℕ) (l : List ℕ) → q ≡ p → number_in (q ∷ l) p ≡ 0
unfolding number_in
number_here q p l e = rw (eq-eqb q p e, number_in)

number_later : (q p : ℕ) (l : List ℕ) → (q ≡ p → ⊥) → number_in (q ∷ l) p ≡ suc (number_in l p)
unfolding number_in
number_later q p l e = rw (ne_eqb q p e, number_in)

order_tree : (u r : Forest) (i : ℕ) (l : List ℕ) → order (tree u r) i ++ l ≡ order r (suc i + size u) ++ i ∷ (order u (suc i) ++ l)
unfolding order
order_tree u r i l = append_assoc (order r (suc i + size u)) (i ∷ order u (suc i)) l

-- a position that is not in the forest
passed : (f : Forest) (i p : ℕ) (l : List ℕ) → (p < i) ⊎ (i + size f ≤ p) → number_in (order f i ++ l) p ≡ size f + number_in l p
unfolding order
passed none i p l h = omega arith
passed (tree u r) i p l (inl h) =
    ap (λ x. number_in x p) (order_tree u r i l)
    ∙ passed r (suc i + size u) p (i ∷ (order u (suc i) ++ l)) (inl (omega arith))
    ∙ omega (arith, number_later i p (order u (suc i) ++ l) (omega arith), passed u (suc i) p l (inl (omega arith)))
passed (tree u r) i p l (inr h) =
    ap (λ x. number_in x p) (order_tree u r i l)
    ∙ passed r (suc i + size u) p (i ∷ (order u (suc i) ++ l)) (inr (omega arith))
    ∙ omega (arith, number_later i p (order u (suc i) ++ l) (omega arith), passed u (suc i) p l (inr (omega arith)))

-- a position that is
met : (f : Forest) (i c k : ℕ) (l : List ℕ) → k < size f → c + number_in (order f i ++ l) (i + k) ≡ get_or (numbers f c) k 0
met none i c k l h = absurd (omega arith)
met (tree u r) i c k l h = go (where_is u k) (λ m w. met u (suc i) (suc (c + size r)) m l w) (λ m w. met r (suc i + size u) c m (i ∷ (order u (suc i) ++ l)) w)
  where
    Goal : Type 0
    Goal = c + number_in (order (tree u r) i ++ l) (i + k) ≡ get_or (numbers (tree u r) c) k 0

    go : Where u k → ((m : ℕ) → m < size u → suc (c + size r) + number_in (order u (suc i) ++ l) (suc i + m) ≡ get_or (numbers u (suc (c + size r))) m 0)
        → ((m : ℕ) → m < size r → c + number_in (order r (suc i + size u) ++ i ∷ (order u (suc i) ++ l)) (suc i + size u + m) ≡ get_or (numbers r c) m 0) → Goal
    go (at_root z) under right =
        rw (z, order_tree u r i l)
        (omega (arith, passed r (suc i + size u) (i + 0) (i ∷ (order u (suc i) ++ l)) (inl (omega arith)), number_here i (i + 0) (order u (suc i) ++ l) (omega arith)))
    go (at_under m z w) under right =
        let e : i + k ≡ suc i + m = omega arith in
        rw (e, z, order_tree u r i l, number_under u r c m w)
        (omega (arith, passed r (suc i + size u) (suc i + m) (i ∷ (order u (suc i) ++ l)) (inl (omega arith)), number_later i (suc i + m) (order u (suc i) ++ l) (omega arith), under m w))
    go (at_right m z) under right =
        let e : i + k ≡ suc i + size u + m = omega arith in
        rw (e, z, order_tree u r i l, number_right u r c m) (right m (omega arith))

-- the number of each position is the entry of the list
pub number_is : (f : Forest) (k : ℕ) → k < size f → number_in (order f 0) k ≡ get_or (numbers f 0) k 0
number_is f k h = let z : 0 + k ≡ k = omega arith in omega (arith, rw (append-nil (order f 0), z) at (met f 0 0 k [] h))

-- ---- counting from c, the numbers are c to c + size f - 1, each once

pub numbers_range : (f : Forest) (c k : ℕ) → k < size f → (c ≤ get_or (numbers f c) k 0) × (get_or (numbers f c) k 0 < c + size f)
numbers_range none c k h = absurd (omega arith)
numbers_range (tree u r) c k h = go (where_is u k) (λ m w. numbers_range u (suc (c + size r)) m w) (λ m w. numbers_range r c m w)
  where
    go : Where u k
        → ((m : ℕ) → m < size u → (suc (c + size r) ≤ get_or (numbers u (suc (c + size r))) m 0) × (get_or (numbers u (suc (c + size r))) m 0 < suc (c + size r) + size u))
        → ((m : ℕ) → m < size r → (c ≤ get_or (numbers r c) m 0) × (get_or (numbers r c) m 0 < c + size r))
        → (c ≤ get_or (numbers (tree u r) c) k 0) × (get_or (numbers (tree u r) c) k 0 < c + size (tree u r))
    go (at_root z) under right = rw z (omega arith, omega arith)
    go (at_under m z w) under right = let b = under m w in rw (z, number_under u r c m w) (omega (arith, b), omega (arith, b))
    go (at_right m z) under right = let b = right m (omega arith) in rw (z, number_right u r c m) (omega (arith, b), omega (arith, b))

pub numbers_each : (f : Forest) (c v : ℕ) → c ≤ v → v < c + size f → (k : ℕ) × (k < size f) × (get_or (numbers f c) k 0 ≡ v)
numbers_each none c v h w = absurd (omega arith)
numbers_each (tree u r) c v h w = go (tri v (c + size r)) (λ a b. numbers_each u (suc (c + size r)) v a b) (λ a b. numbers_each r c v a b)
  where
    go : Tri v (c + size r)
        → (suc (c + size r) ≤ v → v < suc (c + size r) + size u → (k : ℕ) × (k < size u) × (get_or (numbers u (suc (c + size r))) k 0 ≡ v))
        → (c ≤ v → v < c + size r → (k : ℕ) × (k < size r) × (get_or (numbers r c) k 0 ≡ v))
        → (k : ℕ) × (k < size (tree u r)) × (get_or (numbers (tree u r) c) k 0 ≡ v)
    go (lt b) under right = let e = right h b in (suc (size u + e.0), omega (arith, e.1), number_right u r c e.0 ∙ e.2)
    go (eq b) under right = (0, omega arith, sym b)
    go (gt b) under right = let e = under b (omega arith) in (suc e.0, omega (arith, e.1), number_under u r c e.0 e.1 ∙ e.2)

-- equal numbers are of one position: that which stands there in the order
order_length : (f : Forest) (i : ℕ) → length (order f i) ≡ size f
unfolding order
order_length none i = refl
order_length (tree u r) i =
    length-append (order r (suc i + size u)) (i ∷ order u (suc i)) ∙ omega (arith, order_length r (suc i + size u), order_length u (suc i))

stands_there : (l : List ℕ) (i : ℕ) → number_in l i < length l → get_or l (number_in l i) 0 ≡ i
stands_there [] i h = absurd (omega arith)
stands_there (j ∷ l) i h = go (same? j i) (λ w. stands_there l i w)
  where
    go : Same j i → (number_in l i < length l → get_or l (number_in l i) 0 ≡ i) → get_or (j ∷ l) (number_in (j ∷ l) i) 0 ≡ i
    go (same z) later = rw (number_here j i l z) z
    go (other z) later = rw (number_later j i l z) (later (omega (arith, number_later j i l z)))

pub numbers_once : (f : Forest) (j k : ℕ) → j < size f → k < size f → get_or (numbers f 0) j 0 ≡ get_or (numbers f 0) k 0 → j ≡ k
numbers_once f j k h w e =
    let l = order f 0 in
    sym (there j h) ∙ ap (λ m. get_or l m 0) (number_is f j h ∙ e ∙ sym (number_is f k w)) ∙ there k w
  where
    there : (i : ℕ) → i < size f → get_or (order f 0) (number_in (order f 0) i) 0 ≡ i
    there i h = stands_there (order f 0) i (omega (arith, number_is f i h, numbers_range f 0 i h, order_length f 0))
