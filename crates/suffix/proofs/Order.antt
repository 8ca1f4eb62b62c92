-- The order and the match of a string's suffixes are those of an endless sequence: its letters raised by 1, then 0 for ever.
use mathlib.Core.Path.{◌≡◌, refl, sym, ap, ◌∙◌}
use mathlib.Core.Logic.{◌≢◌, ◌⊎◌, inl, inr}
use mathlib.Core.Bool.{true, false, true≢false}
use mathlib.Core.List.{List, [], ◌∷◌}
use Prim.Native.Nat.{ℕ, zero, suc, ◌+◌, ◌-◌, ◌≤◌, ◌<◌}
use native.Mathlib.Omega.{arith}
use native.Mathlib.Nat.{suc_inj, suc-add}
use lib.Dec.{ltb, leb-suc-suc}
use lib.ListN.{length, get_or, drop, length-drop}
use borrow.Author.Tests.{lt-ltb, le-ltb, eq-eqb, ne_eqb, ltb-true}
use Rattle.suffix.specs.Order.{lex_less, lcp, suffix_less, lce}
use Rattle.suffix.proofs.Cases.{Same, same, other, same?, le_unless}
use Rattle.suffix.proofs.Sequence.{Agree, Less, Match, match_sym, match_unique, match_letter, match_order}

-- the letter at i raised by 1, and 0 from the end on
abbrev pub extended : List ℕ → ℕ → ℕ
extended [] i = 0
extended (x ∷ s) zero = suc x
extended (x ∷ s) (suc i) = extended s i

pub extended_drop : (i : ℕ) (s : List ℕ) (k : ℕ) → extended (drop i s) k ≡ extended s (i + k)
extended_drop zero s k = ap (extended s) (omega arith)
extended_drop (suc i) [] k = refl
extended_drop (suc i) (x ∷ s) k = extended_drop i s k ∙ rw suc-add refl

pub extended_in : (s : List ℕ) (i : ℕ) → i < length s → extended s i ≡ suc (get_or s i 0)
extended_in [] i h = absurd (omega arith)
extended_in (x ∷ s) zero h = refl
extended_in (x ∷ s) (suc i) h = extended_in s i (omega arith)

pub extended_out : (s : List ℕ) (i : ℕ) → length s ≤ i → extended s i ≡ 0
extended_out [] i h = refl
extended_out (x ∷ s) zero h = absurd (omega arith)
extended_out (x ∷ s) (suc i) h = extended_out s i (omega arith)

-- ---- two strings

lcp_eq : (x : ℕ) (s : List ℕ) (y : ℕ) (t : List ℕ) → x ≡ y → lcp (x ∷ s) (y ∷ t) ≡ suc (lcp s t)
unfolding lcp
lcp_eq x s y t e = rw (eq-eqb x y e, lcp)

lcp_ne : (x : ℕ) (s : List ℕ) (y : ℕ) (t : List ℕ) → x ≢ y → lcp (x ∷ s) (y ∷ t) ≡ 0
unfolding lcp
lcp_ne x s y t e = rw (ne_eqb x y e, lcp)

less_eq : (x : ℕ) (s : List ℕ) (y : ℕ) (t : List ℕ) → x ≡ y → lex_less (x ∷ s) (y ∷ t) ≡ lex_less s t
unfolding lex_less
less_eq x s y t e = rw (eq-eqb x y e, lex_less)

less_ne : (x : ℕ) (s : List ℕ) (y : ℕ) (t : List ℕ) → x ≢ y → lex_less (x ∷ s) (y ∷ t) ≡ ltb x y
unfolding lex_less
less_ne x s y t e = rw (ne_eqb x y e, lex_less)

lcp_agrees : (s t : List ℕ) (k : ℕ) → k < lcp s t → extended s k ≡ extended t k
unfolding lcp
lcp_agrees [] t k h = absurd (omega arith)
lcp_agrees (x ∷ s) [] k h = absurd (omega arith)
lcp_agrees (x ∷ s) (y ∷ t) zero h = go (same? x y)
  where
    go : Same x y → suc x ≡ suc y
    go (same e) = ap suc e
    go (other e) = absurd (omega (arith, lcp_ne x s y t e))
lcp_agrees (x ∷ s) (y ∷ t) (suc k) h = go (same? x y) (λ g. lcp_agrees s t k g)
  where
    go : Same x y → (k < lcp s t → extended s k ≡ extended t k) → extended s k ≡ extended t k
    go (same e) ih = ih (omega (arith, lcp_eq x s y t e))
    go (other e) ih = absurd (omega (arith, lcp_ne x s y t e))

lcp_differs : (s t : List ℕ) → length s ≢ length t → extended s (lcp s t) ≢ extended t (lcp s t)
unfolding lcp
lcp_differs [] [] h e = h refl
lcp_differs [] (y ∷ t) h e = omega arith
lcp_differs (x ∷ s) [] h e = omega arith
lcp_differs (x ∷ s) (y ∷ t) h e = go (same? x y) (λ g. lcp_differs s t g)
  where
    go : Same x y → (length s ≢ length t → extended s (lcp s t) ≢ extended t (lcp s t)) → ⊥
    go (same g) ih = ih (λ q. h (ap suc q)) (rw (lcp_eq x s y t g) at e)
    go (other g) ih = g (suc_inj (rw (lcp_ne x s y t g) at e))

-- the letters after the common prefix decide
pub less_decided : (s t : List ℕ) → lex_less s t ≡ ltb (extended s (lcp s t)) (extended t (lcp s t))
unfolding lcp lex_less
less_decided [] [] = refl
less_decided (x ∷ s) [] = sym (le-ltb (suc x) 0 (omega arith))
less_decided [] (y ∷ t) = sym (lt-ltb 0 (suc y) (omega arith))
less_decided (x ∷ s) (y ∷ t) = go (same? x y) (less_decided s t)
  where
    go : Same x y → lex_less s t ≡ ltb (extended s (lcp s t)) (extended t (lcp s t))
        → lex_less (x ∷ s) (y ∷ t) ≡ ltb (extended (x ∷ s) (lcp (x ∷ s) (y ∷ t))) (extended (y ∷ t) (lcp (x ∷ s) (y ∷ t)))
    go (same g) ih = rw (less_eq x s y t g, lcp_eq x s y t g) ih
    go (other g) ih = rw (less_ne x s y t g, lcp_ne x s y t g) (sym (leb-suc-suc (suc x) y))

pub lex_irreflexive : (s : List ℕ) → lex_less s s ≡ false
unfolding lex_less
lex_irreflexive [] = refl
lex_irreflexive (x ∷ s) = less_eq x s x s refl ∙ lex_irreflexive s

pub lex_transitive : (s t u : List ℕ) → lex_less s t ≡ true → lex_less t u ≡ true → lex_less s u ≡ true
unfolding lex_less
lex_transitive s t [] p q = absurd (true≢false (sym q))
lex_transitive s [] (z ∷ u) p q = absurd (true≢false (sym p))
lex_transitive [] (y ∷ t) (z ∷ u) p q = refl
lex_transitive (x ∷ s) (y ∷ t) (z ∷ u) p q = go (same? x y) (same? y z) (λ a b. lex_transitive s t u a b)
  where
    below : (a : ℕ) (v : List ℕ) (b : ℕ) (w : List ℕ) → a ≢ b → lex_less (a ∷ v) (b ∷ w) ≡ true → a < b
    below a v b w ne e = ltb-true a b (sym (less_ne a v b w ne) ∙ e)

    above : x < z → lex_less (x ∷ s) (z ∷ u) ≡ true
    above h = less_ne x s z u (omega arith) ∙ lt-ltb x z h

    go : Same x y → Same y z → (lex_less s t ≡ true → lex_less t u ≡ true → lex_less s u ≡ true) → lex_less (x ∷ s) (z ∷ u) ≡ true
    go (same a) (same b) ih = less_eq x s z u (a ∙ b) ∙ ih (sym (less_eq x s y t a) ∙ p) (sym (less_eq y t z u b) ∙ q)
    go (same a) (other b) ih = above (omega (arith, below y t z u b q))
    go (other a) (same b) ih = above (omega (arith, below x s y t a p))
    go (other a) (other b) ih = above (omega (arith, below x s y t a p, below y t z u b q))

-- ---- two suffixes of a string

pub less_at_match : (y : List ℕ) (i j : ℕ) → suffix_less y i j ≡ ltb (extended y (i + lce y i j)) (extended y (j + lce y i j))
unfolding suffix_less lce
less_at_match y i j = less_decided (drop i y) (drop j y) ∙ rw (extended_drop i y, extended_drop j y)

module _ (y : List ℕ) (i j : ℕ) (ne : i ≢ j) (a : i ≤ length y) (b : j ≤ length y) where
  pub lce_match : Match (extended y) i j (lce y i j)
  unfolding lce
  lce_match =
      record {
        same = record { on = λ k g. sym (extended_drop i y k) ∙ lcp_agrees (drop i y) (drop j y) k g ∙ extended_drop j y k };
        differ = λ e.
            lcp_differs (drop i y) (drop j y) (omega (arith, length-drop i y, length-drop j y)) (extended_drop i y _ ∙ e ∙ sym (extended_drop j y _));
      }

  pub lce_is : (m : ℕ) → Match (extended y) i j m → lce y i j ≡ m
  lce_is m q = match_unique (extended y) lce_match q

  pub total : Less (extended y) i j ⊎ Less (extended y) j i
  total = match_order (extended y) lce_match

  pub less_true : Less (extended y) i j → suffix_less y i j ≡ true
  less_true p = less_at_match y i j ∙ lt-ltb _ _ (match_letter (extended y) lce_match p)

  pub less_false : Less (extended y) j i → suffix_less y i j ≡ false
  less_false p =
      let g : extended y (j + lce y i j) < extended y (i + lce y i j) = match_letter (extended y) (match_sym (extended y) lce_match) p in
      less_at_match y i j ∙ le-ltb (extended y (i + lce y i j)) (extended y (j + lce y i j)) (omega arith)

  pub less_from_true : suffix_less y i j ≡ true → Less (extended y) i j
  less_from_true e = go total
    where
      go : Less (extended y) i j ⊎ Less (extended y) j i → Less (extended y) i j
      go (inl p) = p
      go (inr p) = absurd (true≢false (sym e ∙ less_false p))

  pub less_from_false : suffix_less y i j ≡ false → Less (extended y) j i
  less_from_false e = go total
    where
      go : Less (extended y) i j ⊎ Less (extended y) j i → Less (extended y) j i
      go (inl p) = absurd (true≢false (sym (less_true p) ∙ e))
      go (inr p) = p

-- the empty suffix, at n, is smaller than any other
pub end_least : (y : List ℕ) (i : ℕ) → i < length y → Less (extended y) (length y) i
end_least y i h =
    let a : extended y (length y + 0) ≡ 0 = extended_out y (length y + 0) (omega arith) in
    let b : extended y (i + 0) ≡ suc (get_or y (i + 0) 0) = extended_in y (i + 0) (omega arith) in
    record { at = 0; same = record { on = λ k g. absurd (omega arith) }; less = omega arith }

-- an agreement does not pass the end
pub agree_fits : (y : List ℕ) {l r m : ℕ} → l < r → r ≤ length y → Agree (extended y) l r m → r + m ≤ length y
agree_fits y {l} {r} {m} h g a =
    le_unless (r + m) (length y)
    (λ w.
    let k : ℕ = length y - r in
    omega (arith, a.on k (omega arith), extended_out y (r + k) (omega arith), extended_in y (l + k) (omega arith)))
