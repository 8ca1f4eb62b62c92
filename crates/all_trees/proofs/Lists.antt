-- What is chosen of a list.
use mathlib.Core.Path.{◌≡◌, refl, sym, ap, ◌∙◌}
use mathlib.Core.Bool.{Bool, true, false}
use mathlib.Core.List.{List, [], ◌∷◌, ◌++◌, map}
use Prim.Native.Nat.{ℕ, zero, suc, ◌≤◌, ◌<◌}
use native.Mathlib.Omega.{arith}
use lib.ListN.{length, get_or, drop}
use Rattle.suffix.proofs.Cases.{Test, holds, fails, test}
use Rattle.all_trees.specs.Trees.{chosen}

module _ {A : Type 0} (g : A → Bool) where
  chosen_yes : (a : A) (l : List A) → g a ≡ true → chosen g (a ∷ l) ≡ a ∷ chosen g l
  unfolding chosen
  chosen_yes a l e = rw (e, chosen)

  chosen_no : (a : A) (l : List A) → g a ≡ false → chosen g (a ∷ l) ≡ chosen g l
  unfolding chosen
  chosen_no a l e = rw (e, chosen)

  pub chosen_append : (l m : List A) → chosen g (l ++ m) ≡ chosen g l ++ chosen g m
  unfolding chosen
  chosen_append [] m = refl
  chosen_append (a ∷ l) m = go (test (g a)) (chosen_append l m)
    where
      go : Test (g a) → chosen g (l ++ m) ≡ chosen g l ++ chosen g m → chosen g (a ∷ l ++ m) ≡ chosen g (a ∷ l) ++ chosen g m
      go (holds e) ih = chosen_yes a (l ++ m) e ∙ ap (a ∷◌) ih ∙ sym (ap (◌++ chosen g m) (chosen_yes a l e))
      go (fails e) ih = chosen_no a (l ++ m) e ∙ ih ∙ sym (ap (◌++ chosen g m) (chosen_no a l e))

  pub chosen_none : (l : List A) → ((a : A) → g a ≡ false) → chosen g l ≡ []
  unfolding chosen
  chosen_none [] h = refl
  chosen_none (a ∷ l) h = chosen_no a l (h a) ∙ chosen_none l h

  pub chosen_all : (l : List A) → ((a : A) → g a ≡ true) → chosen g l ≡ l
  unfolding chosen
  chosen_all [] h = refl
  chosen_all (a ∷ l) h = chosen_yes a l (h a) ∙ ap (a ∷◌) (chosen_all l h)

  pub chosen_few : (l : List A) → length (chosen g l) ≤ length l
  unfolding chosen
  chosen_few [] = omega arith
  chosen_few (a ∷ l) = go (test (g a)) (chosen_few l)
    where
      go : Test (g a) → length (chosen g l) ≤ length l → length (chosen g (a ∷ l)) ≤ suc (length l)
      go (holds e) ih = omega (arith, ap length (chosen_yes a l e))
      go (fails e) ih = omega (arith, ap length (chosen_no a l e))

  -- what is chosen
  pub chosen_holds : (d : A) (l : List A) (k : ℕ) → k < length (chosen g l) → g (get_or (chosen g l) k d) ≡ true
  unfolding chosen
  chosen_holds d [] k h = absurd (omega arith)
  chosen_holds d (a ∷ l) k h = go (test (g a)) (λ j w. chosen_holds d l j w) k h
    where
      go : Test (g a) → ((j : ℕ) → j < length (chosen g l) → g (get_or (chosen g l) j d) ≡ true) → (k : ℕ) → k < length (chosen g (a ∷ l)) → g (get_or (chosen g (a ∷ l)) k d) ≡ true
      go (holds e) ih zero w = ap (λ x. g (get_or x 0 d)) (chosen_yes a l e) ∙ e
      go (holds e) ih (suc j) w = ap (λ x. g (get_or x (suc j) d)) (chosen_yes a l e) ∙ ih j (omega (arith, ap length (chosen_yes a l e)))
      go (fails e) ih j w = ap (λ x. g (get_or x j d)) (chosen_no a l e) ∙ ih j (omega (arith, ap length (chosen_no a l e)))

pub chosen_map : {A B : Type 0} (g : B → Bool) (f : A → B) (l : List A) → chosen g (map f l) ≡ map f (chosen (λ a. g (f a)) l)
unfolding chosen
chosen_map g f [] = refl
chosen_map g f (a ∷ l) = go (test (g (f a))) (chosen_map g f l)
  where
    go : Test (g (f a)) → chosen g (map f l) ≡ map f (chosen (λ a. g (f a)) l) → chosen g (f a ∷ map f l) ≡ map f (chosen (λ a. g (f a)) (a ∷ l))
    go (holds e) ih = chosen_yes g (f a) (map f l) e ∙ ap (f a ∷◌) ih ∙ sym (ap (map f) (chosen_yes (λ a. g (f a)) a l e))
    go (fails e) ih = chosen_no g (f a) (map f l) e ∙ ih ∙ sym (ap (map f) (chosen_no (λ a. g (f a)) a l e))

pub map_entry : {A B : Type 0} (f : A → B) (d : A) (e : B) (l : List A) (k : ℕ) → k < length l → get_or (map f l) k e ≡ f (get_or l k d)
map_entry f d e [] k h = absurd (omega arith)
map_entry f d e (a ∷ l) zero h = refl
map_entry f d e (a ∷ l) (suc k) h = map_entry f d e l k (omega arith)

pub map_drop : {A B : Type 0} (f : A → B) (l : List A) (k : ℕ) → drop k (map f l) ≡ map f (drop k l)
map_drop f l zero = refl
map_drop f [] (suc k) = refl
map_drop f (a ∷ l) (suc k) = map_drop f l k

-- two choices that agree on a list
pub chosen_same : {A : Type 0} (g h : A → Bool) (d : A) (l : List A) → ((k : ℕ) → k < length l → g (get_or l k d) ≡ h (get_or l k d)) → chosen g l ≡ chosen h l
unfolding chosen
chosen_same g h d [] q = refl
chosen_same g h d (a ∷ l) q = go (test (h a)) (chosen_same g h d l (λ k w. q (suc k) (omega arith)))
  where
    go : Test (h a) → chosen g l ≡ chosen h l → chosen g (a ∷ l) ≡ chosen h (a ∷ l)
    go (holds e) ih = chosen_yes g a l (q 0 (omega arith) ∙ e) ∙ ap (a ∷◌) ih ∙ sym (chosen_yes h a l e)
    go (fails e) ih = chosen_no g a l (q 0 (omega arith) ∙ e) ∙ ih ∙ sym (chosen_no h a l e)
