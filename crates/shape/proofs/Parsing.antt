-- Balanced brackets have a shape, the shape has these brackets, and its ends tell it.
use mathlib.Core.Path.{◌≡◌, refl, sym, ap, ap₂, ◌∙◌}
use mathlib.Core.Bool.{Bool, true, false}
use mathlib.Core.List.{List, [], ◌∷◌, ◌++◌}
use Prim.Native.Nat.{ℕ, zero, suc, ◌+◌, ◌-◌, ◌*◌, ◌≤◌, ◌<◌}
use native.Mathlib.Omega.{arith}
use lib.ListN.{length, get_or, take, drop, length-append, get_or-append}
use lib.Seq.{get_or-append-add, take_at, drop_at}
use Rattle.suffix.specs.Search.{count_below}
use Rattle.suffix.specs.Tree.{Forest, none, tree, parentheses}
use Rattle.suffix.proofs.Cases.{Tri, lt, eq, gt, tri, Test, holds, fails, test}
use Rattle.shape.specs.Shape.{size, ends, grow, forests_from, first}
use Rattle.shape.proofs.Heights.{opened, Above, opens, shuts}
use Rattle.shape.proofs.Shapes.{Laid, empty, node, laid_end, ends_length}

module _ (g : ℕ → Bool) where
  -- forests side by side from bit a up to bit c, with a closing between each two: d closings
  data Stack : ℕ → List Forest → ℕ → ℕ → Type 0 where
    last : {a c : ℕ} {f : Forest} → Laid g a f c → Stack a (f ∷ []) c 0
    then : {a b c d : ℕ} {f : Forest} {fs : List Forest} → Laid g a f b → g b ≡ false → Stack (suc b) fs c d → Stack a (f ∷ fs) c (suc d)

  grown : {a c d : ℕ} {fs : List Forest} → g a ≡ true → Stack (suc a) fs c (suc d) → Stack a (grow fs) c d
  grown x (then u y (last r)) = last (node x u y r)
  grown x (then u y (then r z s)) = then (node x u y r) z s

  stack : (m a d : ℕ) → ((k : ℕ) → k ≤ m → Above g a d (a + k)) → a + m + 2 * opened g a ≡ d + a + 2 * opened g (a + m) → Stack a (forests_from g a m) (a + m) d
  unfolding forests_from
  stack zero a d h e =
      let z : a + 0 ≡ a = omega arith in
      let w : d ≡ 0 = omega (arith, ap (opened g) z) in
      rw (z, w) (last empty)
  stack (suc m) a d h e = go (test (g a)) (λ d h e. stack m (suc a) d h e)
    where
      Ih : Type 0
      Ih = (d : ℕ) → ((k : ℕ) → k ≤ m → Above g (suc a) d (suc a + k)) → suc a + m + 2 * opened g (suc a) ≡ d + suc a + 2 * opened g (suc a + m) → Stack (suc a) (forests_from g (suc a) m) (suc a + m) d

      move : (k : ℕ) → suc a + k ≡ a + suc k
      move k = omega arith

      same_count : (k : ℕ) → opened g (suc a + k) ≡ opened g (a + suc k)
      same_count k = ap (opened g) (move k)

      one : Above g a d (suc a)
      one = let z : a + 1 ≡ suc a = omega arith in rw z at (h 1 (omega arith))

      go : Test (g a) → Ih → Stack a (forests_from g a (suc m)) (a + suc m) d
      go (holds x) ih =
          rw (x, forests_from)
          (rw (move m) at
          (grown x
          (ih (suc d) (λ k w. omega (arith, h (suc k) (omega arith), same_count k, opens g a x)) (omega (arith, same_count m, opens g a x)))))
      go (fails x) ih =
          let z : d ≡ suc (d - 1) = omega (arith, one, shuts g a x) in
          rw (x, forests_from, z)
          (rw (move m) at
          (then empty x
          (ih (d - 1) (λ k w. omega (arith, h (suc k) (omega arith), same_count k, shuts g a x)) (omega (arith, same_count m, shuts g a x)))))

  alone : {a c d : ℕ} {fs : List Forest} → d ≡ 0 → Stack a fs c d → Laid g a (first fs) c
  alone e (last f) = f
  alone e (then f y s) = absurd (omega arith)

  -- m brackets that are balanced
  pub balanced_laid : (m : ℕ) → ((k : ℕ) → k ≤ m → k ≤ 2 * opened g k) → m ≡ 2 * opened g m → Laid g 0 (first (forests_from g 0 m)) m
  unfolding count_below
  balanced_laid m h e =
      let z : 0 + m ≡ m = omega arith in
      rw z at (alone refl (stack m 0 0 (λ k w. (let y : 0 + k ≡ k = omega arith in rw y (omega (arith, h k w)))) (rw z (omega arith))))

-- ---- the brackets of a shape

pub parentheses_length : (f : Forest) → length (parentheses f) ≡ 2 * size f
unfolding parentheses
parentheses_length none = refl
parentheses_length (tree u r) =
    omega (arith, length-append (parentheses u) (false ∷ parentheses r), parentheses_length u, parentheses_length r)

-- bit k of u ( .. ) r behind an opening
bit_under : (u r : Forest) (k : ℕ) → k < 2 * size u → get_or (parentheses u ++ false ∷ parentheses r) k false ≡ get_or (parentheses u) k false
bit_under u r k h = get_or-append (parentheses u) (false ∷ parentheses r) false k (omega (arith, parentheses_length u))

bit_right : (u r : Forest) (k : ℕ) → get_or (parentheses u ++ false ∷ parentheses r) (2 * size u + k) false ≡ get_or (false ∷ parentheses r) k false
bit_right u r k = rw (← parentheses_length u) (get_or-append-add (parentheses u) (false ∷ parentheses r) k false)

module _ (g : ℕ → Bool) where
  pub laid_from : (f : Forest) (a c : ℕ) → c ≡ a + 2 * size f → ((k : ℕ) → k < 2 * size f → g (a + k) ≡ get_or (parentheses f) k false) → Laid g a f c
  unfolding parentheses
  laid_from none a c e h = let z : c ≡ a = omega arith in rw z empty
  laid_from (tree u r) a c e h =
      node {b = b} (move a 0 (omega arith) ∙ h 0 (omega arith))
      (laid_from u (suc a) b (omega arith) (λ k w. move (suc a + k) (suc k) (omega arith) ∙ h (suc k) (omega arith) ∙ bit_under u r k w))
      (move b (suc (2 * size u + 0)) (omega arith) ∙ h (suc (2 * size u + 0)) (omega arith) ∙ bit_right u r 0)
      (laid_from r (suc b) c (omega arith)
      (λ k w. move (suc b + k) (suc (2 * size u + suc k)) (omega arith) ∙ h (suc (2 * size u + suc k)) (omega arith) ∙ bit_right u r (suc k)))
    where
      b : ℕ
      b = suc a + 2 * size u

      move : (i k : ℕ) → i ≡ a + k → g i ≡ g (a + k)
      move i k z = ap g z

  pub laid_bit : {a c : ℕ} {f : Forest} → Laid g a f c → (k : ℕ) → k < 2 * size f → g (a + k) ≡ get_or (parentheses f) k false
  unfolding parentheses
  laid_bit empty k h = absurd (omega arith)
  laid_bit {a} (node {b = b} {under = u} {right = r} x U y R) zero h = ap g (omega arith) ∙ x
  laid_bit {a} (node {b = b} {under = u} {right = r} x U y R) (suc k) h = go (tri k (2 * size u)) (λ j w. laid_bit U j w) (λ j w. laid_bit R j w)
    where
      e : b ≡ suc a + 2 * size u
      e = (laid_end g U).0

      go : Tri k (2 * size u) → ((j : ℕ) → j < 2 * size u → g (suc a + j) ≡ get_or (parentheses u) j false)
          → ((j : ℕ) → j < 2 * size r → g (suc b + j) ≡ get_or (parentheses r) j false) → g (a + suc k) ≡ get_or (parentheses u ++ false ∷ parentheses r) k false
      go (lt w) under right = ap g (omega arith) ∙ under k w ∙ sym (bit_under u r k w)
      go (eq w) under right =
          let z : k ≡ 2 * size u + 0 = omega arith in
          ap g {x = a + suc k} {y = b} (omega (arith, e)) ∙ y ∙ sym (ap (λ v. get_or (parentheses u ++ false ∷ parentheses r) v false) z ∙ bit_right u r 0)
      go (gt w) under right =
          let j : ℕ = k - suc (2 * size u) in
          let z : k ≡ 2 * size u + suc j = omega arith in
          ap g {x = a + suc k} {y = suc b + j} (omega (arith, e))
          ∙ right j (omega arith)
          ∙ sym (ap (λ v. get_or (parentheses u ++ false ∷ parentheses r) v false) z ∙ bit_right u r (suc j))

-- ---- a shape is told by its ends

pub ends_tell : (f h : Forest) (i : ℕ) → ends f i ≡ ends h i → f ≡ h
ends_tell none none i e = refl
ends_tell none (tree u r) i e = let z : ◌≡◌ {A = ℕ} 0 1 = cc in absurd (omega arith)
ends_tell (tree u r) none i e = let z : ◌≡◌ {A = ℕ} 0 1 = cc in absurd (omega arith)
ends_tell (tree u r) (tree v s) i e =
    ap₂ tree (ends_tell u v (suc i) front) (ends_tell r s (suc i + size u) (back ∙ ap (λ k. ends s (suc i + k)) (sym same_size)))
  where
    same_size : size u ≡ size v
    same_size = let z : i + suc (size u) ≡ i + suc (size v) = cc in omega arith

    rest : ends u (suc i) ++ ends r (suc i + size u) ≡ ends v (suc i) ++ ends s (suc i + size v)
    rest = cc

    front : ends u (suc i) ≡ ends v (suc i)
    front =
        sym (take_at (ends u (suc i)) (ends r (suc i + size u)) (size u) (ends_length u (suc i)))
        ∙ ap (take (size u)) rest
        ∙ take_at (ends v (suc i)) (ends s (suc i + size v)) (size u) (ends_length v (suc i) ∙ sym same_size)

    back : ends r (suc i + size u) ≡ ends s (suc i + size v)
    back =
        sym (drop_at (ends u (suc i)) (ends r (suc i + size u)) (size u) (ends_length u (suc i)))
        ∙ ap (drop (size u)) rest
        ∙ drop_at (ends v (suc i)) (ends s (suc i + size v)) (size u) (ends_length v (suc i) ∙ sym same_size)
