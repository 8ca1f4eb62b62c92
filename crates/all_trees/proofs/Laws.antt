-- The claims of specs/Claims.antt, each proved.
use mathlib.Core.Path.{◌≡◌, refl, sym, ap, ◌∙◌}
use mathlib.Core.Bool.{Bool, true, false, true≢false}
use mathlib.Core.List.{List, [], ◌∷◌, map}
use Prim.Native.Nat.{ℕ, suc, ◌+◌, ◌-◌, ◌*◌, ◌^◌, ◌≤◌, ◌<◌}
use native.Mathlib.Nat.{zero-add, eq_of_mul-eq-mul_right}
use native.Mathlib.Omega.{arith}
use lib.Dec.{eqb}
use lib.ListN.{length, get_or, drop, length-drop, length-map}
use lib.Seq.{get_or-drop, drop-cons}
use borrow.Author.Tests.{eqb-true, eq-eqb, ne_eqb}
use Rattle.suffix.proofs.Cases.{Tri, lt, eq, gt, tri}
use Rattle.refusal.specs.Conditions.{flaw_number}
use Rattle.all_trees.specs.Trees.{chosen, brackets_of, tree_of, all_brackets, before, trees_of, trees_after, first_tree, next_tree, is_last}
use Rattle.all_trees.specs.Claims.{IsBalanced, HoldsEach, TreesAreAll, AfterIsBehind, LeastAbove, NextIsTheLeastAbove, factorial, CountIsCatalans, TwelveHave}
use Rattle.all_trees.proofs.Lists.{chosen_few, chosen_holds, map_entry, map_drop}
use Rattle.all_trees.proofs.BracketLists.{all_count, all_rest, all_each}
use Rattle.all_trees.proofs.Closing.{closes, kept, peak, Begins, first_kept}
use Rattle.all_trees.proofs.Counting.{counted}
use Rattle.all_trees.proofs.Trees.{of_length, tree_size, tree_bytes_lem, brackets_back, tree_closes, bytes_back, trees_are, kept_length, after_are}

before_none : (w : List Bool) → before w w ≡ false
unfolding before
before_none [] = refl
before_none (true ∷ w) = before_none w
before_none (false ∷ w) = before_none w

-- the first tree
pub first_is : (n : ℕ) → Begins (kept 0 (2 * n)) (peak n 0)
first_is n = first_kept (2 * n) n 0 (omega arith)

pub first_tree_lem : (n : ℕ) → first_tree n ≡ tree_of n (peak n 0)
unfolding first_tree
first_tree_lem n = ap (λ l. get_or l 0 []) (trees_are n ∙ ap (map (tree_of n)) (first_is n).is)

module _ (n : ℕ) where
  abbrev l : List (List ℕ)
  l = trees_of n

  abbrev K : List (List Bool)
  K = kept 0 (2 * n)

  trees_length : length l ≡ length K
  trees_length = ap length (trees_are n) ∙ length-map K (tree_of n)

  entry : (k : ℕ) → k < length l → get_or l k [] ≡ tree_of n (get_or K k [])
  entry k h = ap (λ l. get_or l k []) (trees_are n) ∙ map_entry (tree_of n) [] [] K k (omega (arith, trees_length))

  next : (k : ℕ) → k < length l → trees_after n (get_or l k []) ≡ drop (suc k) l
  unfolding kept
  next k h =
      let w : k < length K = omega (arith, trees_length) in
      let b : brackets_of n (get_or l k []) ≡ get_or K k [] = ap (brackets_of n) (entry k h) ∙ brackets_back n (get_or K k []) (kept_length n k w) in
      after_are n (get_or l k [])
      ∙ ap (λ v. map (tree_of n) (chosen (before v) K)) b
      ∙ ap (map (tree_of n)) (all_rest (2 * n) (closes 0) k w)
      ∙ sym (ap (drop (suc k)) (trees_are n) ∙ map_drop (tree_of n) K (suc k))

  in_order : (j k : ℕ) → j < k → k < length l → before (brackets_of n (get_or l j [])) (brackets_of n (get_or l k [])) ≡ true
  unfolding trees_after
  in_order j k h w =
      let i : ℕ = k - suc j in
      let z : suc j + i ≡ k = omega arith in
      let e : get_or (trees_after n (get_or l j [])) i [] ≡ get_or l k [] = ap (λ m. get_or m i []) (next j (omega arith)) ∙ get_or-drop (suc j) l i [] ∙ ap (λ v. get_or l v []) z in
      ap (λ u. before (brackets_of n (get_or l j [])) (brackets_of n u)) (sym e)
      ∙ chosen_holds (λ u. before (brackets_of n (get_or l j [])) (brackets_of n u)) [] l i
      (omega (arith, ap length (next j (omega arith)), length-drop (suc j) l))

  -- equal trees stand at the same place
  apart : (j k : ℕ) → j < k → k < length l → get_or l j [] ≡ get_or l k [] → ⊥
  apart j k h w e =
      true≢false (sym (in_order j k h w) ∙ ap (λ t. before (brackets_of n (get_or l j [])) (brackets_of n t)) (sym e) ∙ before_none (brackets_of n (get_or l j [])))

  all : HoldsEach n l
  unfolding trees_of kept
  all =
      record {
        trees =
            λ k h.
            record {
              bytes = rw (entry k h) (tree_bytes_lem n (get_or K k []));
              size = ap length (entry k h) ∙ tree_size n (get_or K k []);
              balanced = eqb-true (flaw_number n (get_or l k [])) 0 (chosen_holds (λ t. eqb (flaw_number n t) 0) [] (map (tree_of n) (all_brackets (2 * n))) k h);
            };
        each = λ t T. found t T (all_each (2 * n) (closes 0) (brackets_of n t) (of_length n t) (tree_closes n T));
        order = in_order;
        once = λ j k h w e. go j k h w e (tri j k);
      }
    where
      found : (t : List ℕ) → IsBalanced n t → (k : ℕ) × (k < length (chosen (closes 0) (all_brackets (2 * n)))) × (get_or (chosen (closes 0) (all_brackets (2 * n))) k [] ≡ brackets_of n t)
          → (k : ℕ) × (k < length (trees_of n)) × (get_or (trees_of n) k [] ≡ t)
      found t T r =
          let h : r.0 < length (trees_of n) = omega (arith, trees_length, r.1) in
          (r.0, h, entry r.0 h ∙ ap (tree_of n) r.2 ∙ bytes_back n T)

      go : (j k : ℕ) → j < length (trees_of n) → k < length (trees_of n) → get_or (trees_of n) j [] ≡ get_or (trees_of n) k [] → Tri j k → j ≡ k
      go j k h w e (lt c) = absurd (apart j k c w e)
      go j k h w e (eq c) = c
      go j k h w e (gt c) = absurd (apart k j c h (sym e))

pub trees_are_all : TreesAreAll
trees_are_all = all

pub after_is_behind : AfterIsBehind
after_is_behind = next

-- there is a tree
pub some_tree : (n : ℕ) → 0 < length (trees_of n)
some_tree n = omega (arith, trees_length n, ap length (first_is n).is)

-- no more than there are lists of brackets
pub trees_most : (n : ℕ) → length (trees_of n) ≤ 2 ^ (2 * n)
unfolding trees_of
trees_most n =
    omega (
      arith,
      chosen_few (λ t. eqb (flaw_number n t) 0) (map (tree_of n) (all_brackets (2 * n))),
      length-map (all_brackets (2 * n)) (tree_of n),
      all_count (2 * n),
    )

-- what stands behind a tree in the list
module _ (n k : ℕ) (h : k < length (trees_of n)) where
  abbrev t : List ℕ
  t = get_or (trees_of n) k []

  pub next_is : suc k < length (trees_of n) → next_tree n t ≡ get_or (trees_of n) (suc k) []
  unfolding next_tree
  next_is w = ap (λ l. get_or l 0 t) (next n k h ∙ drop-cons (trees_of n) (suc k) [] w)

  pub not_last_is : suc k < length (trees_of n) → is_last n t ≡ false
  unfolding is_last
  not_last_is w = ne_eqb (length (trees_after n t)) 0 (λ z. omega (arith, ap length (next n k h), length-drop (suc k) (trees_of n)))

  pub last_is : suc k ≡ length (trees_of n) → is_last n t ≡ true
  unfolding is_last
  last_is w = eq-eqb (length (trees_after n t)) 0 (omega (arith, ap length (next n k h), length-drop (suc k) (trees_of n)))

-- and what tells whether one does
module _ (n k : ℕ) (h : k < length (trees_of n)) where
  pub last_ends : is_last n (get_or (trees_of n) k []) ≡ true → suc k ≡ length (trees_of n)
  last_ends e = go (tri (suc k) (length (trees_of n)))
    where
      go : Tri (suc k) (length (trees_of n)) → suc k ≡ length (trees_of n)
      go (lt w) = absurd (true≢false (sym e ∙ not_last_is n k h w))
      go (eq w) = w
      go (gt w) = absurd (omega arith)

  pub not_last_goes_on : is_last n (get_or (trees_of n) k []) ≡ false → suc k < length (trees_of n)
  not_last_goes_on e = go (tri (suc k) (length (trees_of n)))
    where
      go : Tri (suc k) (length (trees_of n)) → suc k < length (trees_of n)
      go (lt w) = w
      go (eq w) = absurd (true≢false (sym (last_is n k h w) ∙ e))
      go (gt w) = absurd (omega arith)

before_not : (v w : List Bool) → before v w ≡ true → before w v ≡ false
unfolding before
before_not [] w h = absurd (true≢false (sym h))
before_not (a ∷ v) [] h = absurd (true≢false (sym h))
before_not (true ∷ v) (true ∷ w) h = before_not v w h
before_not (true ∷ v) (false ∷ w) h = refl
before_not (false ∷ v) (true ∷ w) h = absurd (true≢false (sym h))
before_not (false ∷ v) (false ∷ w) h = before_not v w h

pub next_is_the_least_above : NextIsTheLeastAbove
next_is_the_least_above n t u T U b = go ((all n).each t T) ((all n).each u U)
  where
    A : HoldsEach n (trees_of n)
    A = all n

    go : (k : ℕ) × (k < length (trees_of n)) × (get_or (trees_of n) k [] ≡ t) → (k : ℕ) × (k < length (trees_of n)) × (get_or (trees_of n) k [] ≡ u) → LeastAbove n t u
    go (j, w, e) (k, x, f) = pick (tri j k)
      where
        at : before (brackets_of n (get_or (trees_of n) j [])) (brackets_of n (get_or (trees_of n) k [])) ≡ true
        at = rw (e, f) b

        pick : Tri j k → LeastAbove n t u
        pick (lt c) =
            rw (← e, ← f)
            (record {
              not_last = not_last_is n j w (omega arith);
              balanced = rw (next_is n j w (omega arith)) (A.trees (suc j) (omega arith));
              above = rw (next_is n j w (omega arith)) (A.order j (suc j) (omega arith) (omega arith));
              least = rw (next_is n j w (omega arith)) (least (tri (suc j) k));
            })
          where
            least : Tri (suc j) k → before (brackets_of n (get_or (trees_of n) k [])) (brackets_of n (get_or (trees_of n) (suc j) [])) ≡ false
            least (lt d) = before_not (brackets_of n (get_or (trees_of n) (suc j) [])) (brackets_of n (get_or (trees_of n) k [])) (A.order (suc j) k d x)
            least (eq d) = rw (← d) (before_none (brackets_of n (get_or (trees_of n) (suc j) [])))
            least (gt d) = absurd (omega arith)
        pick (eq c) = absurd (true≢false (sym at ∙ rw c (before_none (brackets_of n (get_or (trees_of n) k [])))))
        pick (gt c) = absurd (true≢false (sym at ∙ before_not (brackets_of n (get_or (trees_of n) k [])) (brackets_of n (get_or (trees_of n) j [])) (A.order k j c w)))

pub count_is_catalans : CountIsCatalans
count_is_catalans n = rw (trees_length n) (omega (arith, rw (zero-add n) at (counted (2 * n) 0 n (omega arith))))

pub twelve_have : TwelveHave
twelve_have = eq_of_mul-eq-mul_right (factorial 13 * factorial 12) (omega arith) (length (trees_of 12)) 208012 (count_is_catalans 12)
