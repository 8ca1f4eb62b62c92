-- Brackets that close all that is open: the first of them, and those behind given ones.
use mathlib.Core.Path.{◌≡◌, refl, sym, ap, ◌∙◌}
use mathlib.Core.Bool.{Bool, true, false, true≢false}
use mathlib.Core.List.{List, [], ◌∷◌, ◌++◌, map}
use Prim.Native.Nat.{ℕ, zero, suc, ◌+◌, ◌-◌, ◌*◌, ◌≤◌, ◌<◌}
use native.Mathlib.Omega.{arith}
use lib.ListN.{replicate}
use Rattle.suffix.proofs.Cases.{Test, holds, fails, test}
use Rattle.shape.proofs.Heights.{opened}
use Rattle.shape.proofs.Heights.{opened_none, opens, shuts}
use Rattle.shape.proofs.Reading.{Balanced}
use Rattle.all_trees.specs.Trees.{chosen, all_brackets, before, brackets_from}
use Rattle.all_trees.proofs.Lists.{chosen_none}
use Rattle.all_trees.proofs.BracketLists.{both, chosen_brackets, behind_opening, behind_closing}

-- the brackets close all, where d are open before them
abbrev pub closes : ℕ → List Bool → Bool
closes zero [] = true
closes (suc d) [] = false
closes zero (true ∷ w) = closes 1 w
closes (suc d) (true ∷ w) = closes (suc (suc d)) w
closes zero (false ∷ w) = false
closes (suc d) (false ∷ w) = closes d w

closes_opening : (d : ℕ) (w : List Bool) → closes d (true ∷ w) ≡ closes (suc d) w
closes_opening zero w = refl
closes_opening (suc d) w = refl

-- the m brackets that do, in order; and what they are behind a closing
unfoldable pub kept : ℕ → ℕ → List (List Bool)
kept d m = chosen (closes d) (all_brackets m)

abbrev pub fallen : ℕ → ℕ → List (List Bool)
fallen zero m = []
fallen (suc d) m = kept d m

pub kept_more : (d m : ℕ) → kept d (suc m) ≡ both (kept (suc d) m) (fallen d m)
unfolding kept
kept_more zero m =
    chosen_brackets (closes zero) m
    ∙ ap (both (kept 1 m)) (chosen_none (λ w. closes zero (false ∷ w)) (all_brackets m) (λ w. refl))
kept_more (suc d) m = chosen_brackets (closes (suc d)) m

pub kept_none : (m d : ℕ) → m < d → kept d m ≡ []
unfolding kept all_brackets chosen
kept_none zero zero h = absurd (omega arith)
kept_none zero (suc d) h = refl
kept_none (suc m) zero h = absurd (omega arith)
kept_none (suc m) (suc d) h = kept_more (suc d) m ∙ rw (kept_none m (suc (suc d)) (omega arith), kept_none m d (omega arith))

-- ---- the first of a list

pub record Begins (l : List (List Bool)) (x : List Bool) : Type 0 where
  pub others : List (List Bool)
  pub is : l ≡ x ∷ others

begins_opening : {A : List (List Bool)} {x : List Bool} (B : List (List Bool)) → Begins A x → Begins (both A B) (true ∷ x)
begins_opening B b = record { others = map (true ∷◌) b.others ++ map (false ∷◌) B; is = ap (λ A. both A B) b.is }

begins_closing : {B : List (List Bool)} {x : List Bool} → Begins B x → Begins (map (false ∷◌) B) (false ∷ x)
begins_closing b = record { others = map (false ∷◌) b.others; is = ap (map (false ∷◌)) b.is }

begins_same : {l m : List (List Bool)} {x : List Bool} → l ≡ m → Begins m x → Begins l x
begins_same e b = record { others = b.others; is = e ∙ b.is }

-- o openings, and then closings
abbrev pub peak : ℕ → ℕ → List Bool
peak o d = replicate o true ++ replicate (o + d) false

pub first_kept : (m o d : ℕ) → m ≡ 2 * o + d → Begins (kept d m) (peak o d)
unfolding kept all_brackets chosen
first_kept zero zero zero e = record { others = []; is = refl }
first_kept zero zero (suc d) e = absurd (omega arith)
first_kept zero (suc o) d e = absurd (omega arith)
first_kept (suc m) zero zero e = absurd (omega arith)
first_kept (suc m) zero (suc d) e =
    let z : 0 + d ≡ d = omega arith in
    let w : 0 + suc d ≡ suc d = omega arith in
    begins_same (kept_more (suc d) m ∙ ap (λ A. both A (kept d m)) (kept_none m (suc (suc d)) (omega arith)))
    (rw w (begins_closing (rw z at (first_kept m zero d (omega arith)))))
first_kept (suc m) (suc o) d e =
    let z : suc o + d ≡ o + suc d = omega arith in
    begins_same (kept_more d m) (rw z (begins_opening (fallen d m) (first_kept m o (suc d) (omega arith))))

-- ---- those behind the m brackets from bit k on

module _ (g : ℕ → Bool) where
  abbrev pub behind : ℕ → ℕ → ℕ → List (List Bool)
  behind k d m = chosen (before (brackets_from g k m)) (kept d m)

  pub behind_end : (k : ℕ) → behind k 0 0 ≡ []
  unfolding brackets_from kept all_brackets chosen before
  behind_end k = refl

  opening : (k d m : ℕ) → g k ≡ true → behind k d (suc m) ≡ both (behind (suc k) (suc d) m) (fallen d m)
  unfolding brackets_from
  opening k d m e = rw (e, kept_more d m) (behind_opening (brackets_from g (suc k) m) (kept (suc d) m) (fallen d m))

  closing : (k d m : ℕ) → g k ≡ false → behind k (suc d) (suc m) ≡ map (false ∷◌) (behind (suc k) d m)
  unfolding brackets_from
  closing k d m e = rw (e, kept_more (suc d) m) (behind_closing (brackets_from g (suc k) m) (kept (suc (suc d)) m) (kept d m))

  -- none behind a closing or an opening at which nothing is open, where none is behind the rest
  pub none_closing : (k d m : ℕ) → g k ≡ false → behind (suc k) d m ≡ [] → behind k (suc d) (suc m) ≡ []
  none_closing k d m e h = closing k d m e ∙ ap (map (false ∷◌)) h

  pub none_opening : (k m : ℕ) → g k ≡ true → behind (suc k) 1 m ≡ [] → behind k 0 (suc m) ≡ []
  none_opening k m e h = opening k 0 m e ∙ ap (λ A. both A []) h

  -- an opening at which something is open becomes a closing
  pub turned : (k d m o : ℕ) → g k ≡ true → behind (suc k) (suc (suc d)) m ≡ [] → m ≡ 2 * o + d → Begins (behind k (suc d) (suc m)) (false ∷ peak o d)
  turned k d m o e h q = begins_same (opening k (suc d) m e ∙ ap (λ A. both A (kept d m)) h) (begins_closing (first_kept m o d q))

  -- with more brackets in front
  more_opening : (k d m : ℕ) {x : List Bool} → g k ≡ true → Begins (behind (suc k) (suc d) m) x → Begins (behind k d (suc m)) (true ∷ x)
  more_opening k d m e b = begins_same (opening k d m e) (begins_opening (fallen d m) b)

  more_closing : (k d m : ℕ) {x : List Bool} → g k ≡ false → Begins (behind (suc k) d m) x → Begins (behind k (suc d) (suc m)) (false ∷ x)
  more_closing k d m e b = begins_same (closing k d m e) (begins_closing b)

  one_more : (a k : ℕ) (x : List Bool) → brackets_from g a (suc k) ++ x ≡ brackets_from g a k ++ g (a + k) ∷ x
  unfolding brackets_from
  one_more a zero x = let z : a + 0 ≡ a = omega arith in rw z
  one_more a (suc k) x = ap (g a ∷◌) (one_more (suc a) k x ∙ (let z : suc a + k ≡ a + suc k = omega arith in rw z))

  pub lifted : (k d m : ℕ) {x : List Bool} → ((j : ℕ) → j ≤ k → j ≤ 2 * opened g j) → d + k ≡ 2 * opened g k → Begins (behind k d m) x → Begins (behind 0 0 (k + m)) (brackets_from g 0 k ++ x)
  unfolding brackets_from
  lifted zero d m h e b =
      let z : d ≡ 0 = omega (arith, opened_none g) in
      let w : 0 + m ≡ m = omega arith in
      rw w (rw z at b)
  lifted (suc k) d m {x} h e b = go (test (g k)) (λ d y c r. lifted k d (suc m) {x = y} (λ j w. h j (omega arith)) c r)
    where
      z : suc k + m ≡ k + suc m
      z = omega arith

      w : 0 + k ≡ k
      w = omega arith

      go : Test (g k)
          → ((d : ℕ) (y : List Bool) → d + k ≡ 2 * opened g k → Begins (behind k d (suc m)) y → Begins (behind 0 0 (k + suc m)) (brackets_from g 0 k ++ y))
          → Begins (behind 0 0 (suc k + m)) (brackets_from g 0 (suc k) ++ x)
      go (holds q) ih =
          let c : d ≡ suc (d - 1) = omega (arith, opens g k q, h k (omega arith)) in
          rw (z, one_more 0 k x, w, q) (ih (d - 1) (true ∷ x) (omega (arith, opens g k q, h k (omega arith))) (more_opening k (d - 1) m q (rw c at b)))
      go (fails q) ih = rw (z, one_more 0 k x, w, q) (ih (suc d) (false ∷ x) (omega (arith, shuts g k q)) (more_closing k d m q b))

  -- ---- brackets that close all are balanced

  closes_all : (m a d : ℕ) → d + a ≡ 2 * opened g a → ((k : ℕ) → k ≤ m → a + k ≤ 2 * opened g (a + k)) → a + m ≡ 2 * opened g (a + m) → closes d (brackets_from g a m) ≡ true
  unfolding brackets_from
  closes_all zero a d e h q =
      let z : a + 0 ≡ a = omega arith in
      let w : d ≡ 0 = omega (arith, ap (opened g) z) in
      rw w
  closes_all (suc m) a d e h q = go (test (g a)) (λ d c. closes_all m (suc a) d c (λ k w. omega (arith, h (suc k) (omega arith), same k)) (omega (arith, same m)))
    where
      same : (k : ℕ) → opened g (suc a + k) ≡ opened g (a + suc k)
      same k = ap (opened g) (omega arith)

      one : opened g (a + 1) ≡ opened g (suc a)
      one = ap (opened g) (omega arith)

      go : Test (g a) → ((d : ℕ) → d + suc a ≡ 2 * opened g (suc a) → closes d (brackets_from g (suc a) m) ≡ true) → closes d (g a ∷ brackets_from g (suc a) m) ≡ true
      go (holds x) ih = rw x (closes_opening d (brackets_from g (suc a) m) ∙ ih (suc d) (omega (arith, opens g a x)))
      go (fails x) ih =
          let c : d ≡ suc (d - 1) = omega (arith, shuts g a x, h 1 (omega arith), one) in
          rw (x, c) (ih (d - 1) (omega (arith, shuts g a x)))

  all_closed : (m a d : ℕ) → d + a ≡ 2 * opened g a → closes d (brackets_from g a m) ≡ true → ((k : ℕ) → k ≤ m → a + k ≤ 2 * opened g (a + k)) × (a + m ≡ 2 * opened g (a + m))
  unfolding brackets_from
  all_closed zero a zero e q =
      let z : a + 0 ≡ a = omega arith in
      (λ k h. (let y : k ≡ 0 = omega arith in rw (y, z) (omega arith)), rw z (omega arith))
  all_closed zero a (suc d) e q = absurd (true≢false (sym q))
  all_closed (suc m) a d e q = go d e (test (g a)) q (λ d c r. all_closed m (suc a) d c r)
    where
      Ih : Type 0
      Ih = (d : ℕ) → d + suc a ≡ 2 * opened g (suc a) → closes d (brackets_from g (suc a) m) ≡ true
          → ((k : ℕ) → k ≤ m → suc a + k ≤ 2 * opened g (suc a + k)) × (suc a + m ≡ 2 * opened g (suc a + m))

      Goal : Type 0
      Goal = ((k : ℕ) → k ≤ suc m → a + k ≤ 2 * opened g (a + k)) × (a + suc m ≡ 2 * opened g (a + suc m))

      move : (k : ℕ) → suc a + k ≡ a + suc k
      move k = omega arith

      from : a ≤ 2 * opened g a → ((k : ℕ) → k ≤ m → suc a + k ≤ 2 * opened g (suc a + k)) × (suc a + m ≡ 2 * opened g (suc a + m)) → Goal
      from h r = (above, rw (move m) at r.1)
        where
          above : (k : ℕ) → k ≤ suc m → a + k ≤ 2 * opened g (a + k)
          above zero w = let z : a + 0 ≡ a = omega arith in rw z h
          above (suc k) w = rw (move k) at (r.0 k (omega arith))

      go : (d : ℕ) → d + a ≡ 2 * opened g a → Test (g a) → closes d (g a ∷ brackets_from g (suc a) m) ≡ true → Ih → Goal
      go d e (holds x) q ih = from (omega arith) (ih (suc d) (omega (arith, opens g a x)) (sym (closes_opening d (brackets_from g (suc a) m)) ∙ rw x at q))
      go zero e (fails x) q ih = absurd (true≢false (sym (rw x at q)))
      go (suc d) e (fails x) q ih = from (omega arith) (ih d (omega (arith, shuts g a x)) (rw x at q))

  pub balanced_closes : (m : ℕ) → Balanced g m → closes 0 (brackets_from g 0 m) ≡ true
  balanced_closes m B =
      let z : (k : ℕ) → 0 + k ≡ k = λ k. omega arith in
      closes_all m 0 0 (omega (arith, opened_none g)) (λ k h. rw (z k) (B.above k h)) (rw (z m) B.closed)

  pub closes_balanced : (m : ℕ) → closes 0 (brackets_from g 0 m) ≡ true → Balanced g m
  closes_balanced m q =
      let z : (k : ℕ) → 0 + k ≡ k = λ k. omega arith in
      let r = all_closed m 0 0 (omega (arith, opened_none g)) q in
      record { above = λ k h. rw (z k) at (r.0 k h); closed = rw (z m) at r.1 }
