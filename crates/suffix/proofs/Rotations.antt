-- The rotations of a string are the suffixes of its letters repeated without end, and compare as those do.
use mathlib.Core.Path.{◌≡◌, refl, sym, ap, ◌∙◌}
use mathlib.Core.Bool.{true, true≢false}
use mathlib.Core.List.{List, [], ◌∷◌, ◌++◌}
use Prim.Native.Nat.{ℕ, zero, suc, ◌+◌, ◌-◌, ◌%◌, ◌≤◌, ◌<◌}
use native.Mathlib.Omega.{arith}
use native.Mathlib.Nat.{mod-lt, mod-eq_of_lt, add-mod_right, add-mod-mod}
use lib.ListN.{length, get_or, take, drop, length-take, length-drop, length-append, get_or-append}
use lib.Seq.{get_or-take, get_or-drop, get_or-append-add}
use borrow.Author.Tests.{lt-ltb, ltb-true, eq-eqb, ne_eqb}
use Rattle.suffix.specs.Search.{tabulate}
use Rattle.suffix.specs.Order.{lex_less}
use Rattle.suffix.specs.Periods.{rotation, cycled, CycledLess}
use Rattle.suffix.proofs.Cases.{Tri, lt, eq, gt, tri, Same, same, other, same?}
use Rattle.suffix.proofs.Search.{tabulate_is}
use Rattle.suffix.proofs.Periodic.{Period}

-- ---- the order of two strings of one length: the first differing letter

record FirstLess (s t : List ℕ) : Type 0 where
  at : ℕ
  within : at < length s
  same : (k : ℕ) → k < at → get_or s k 0 ≡ get_or t k 0
  less : get_or s at 0 < get_or t at 0

first_less : (s t : List ℕ) → length s ≡ length t → FirstLess s t → lex_less s t ≡ true
unfolding lex_less
first_less s t e p = go p.at s t e p.within p.same p.less
  where
    go : (k : ℕ) (s t : List ℕ) → length s ≡ length t → k < length s → ((x : ℕ) → x < k → get_or s x 0 ≡ get_or t x 0) → get_or s k 0 < get_or t k 0 → lex_less s t ≡ true
    go k [] t e h q l = absurd (omega arith)
    go k (a ∷ s) [] e h q l = absurd (omega arith)
    go zero (a ∷ s) (b ∷ t) e h q l = rw (ne_eqb a b (omega arith), lex_less) (lt-ltb a b l)
    go (suc k) (a ∷ s) (b ∷ t) e h q l = rw (eq-eqb a b (q 0 (omega arith)), lex_less) (go k s t (omega arith) (omega arith) (λ x w. q (suc x) (omega arith)) l)

less_first : (s t : List ℕ) → length s ≡ length t → lex_less s t ≡ true → FirstLess s t
unfolding lex_less
less_first s [] e h = absurd (true≢false (sym h))
less_first [] (b ∷ t) e h = absurd (omega arith)
less_first (a ∷ s) (b ∷ t) e h = go (same? a b) (λ w. less_first s t (omega arith) w)
  where
    behind : a ≡ b → FirstLess s t → FirstLess (a ∷ s) (b ∷ t)
    behind z p = record { at = suc p.at; within = omega (arith, p.within); same = λ k g. front k g; less = p.less }
      where
        front : (k : ℕ) → k < suc p.at → get_or (a ∷ s) k 0 ≡ get_or (b ∷ t) k 0
        front zero g = z
        front (suc k) g = p.same k (omega arith)

    go : Same a b → (lex_less s t ≡ true → FirstLess s t) → FirstLess (a ∷ s) (b ∷ t)
    go (same z) ih = behind z (ih (rw (eq-eqb a b z, lex_less) at h))
    go (other z) ih =
        record { at = 0; within = omega arith; same = λ k g. absurd (omega arith); less = ltb-true a b (rw (ne_eqb a b z, lex_less) at h) }

-- ---- the letters of a string repeated without end

module _ (y : List ℕ) where
  cycled_in : (k : ℕ) → k < length y → cycled y k ≡ get_or y k 0
  cycled_in k h = rw (mod-eq_of_lt h)

  pub cycled_period : 0 < length y → Period (cycled y) (length y)
  cycled_period h = record { some = h; again = λ k. ap (λ v. get_or y v 0) (add-mod_right k (length y)) }

  pub rotation_length : (i : ℕ) → length (rotation y i) ≡ length y
  unfolding rotation
  rotation_length i = omega (arith, length-append (drop i y) (take i y), length-drop i y, length-take i y)

  pub rotation_entry : (i k : ℕ) → i ≤ length y → k < length y → get_or (rotation y i) k 0 ≡ cycled y (i + k)
  unfolding rotation
  rotation_entry i k h g = go (tri (i + k) (length y))
    where
      behind : length y ≤ i + k → get_or (drop i y ++ take i y) k 0 ≡ cycled y (i + k)
      behind w =
          let t : ℕ = k - (length y - i) in
          let e : k ≡ length (drop i y) + t = omega (arith, length-drop i y) in
          let z : i + k ≡ t + length y = omega arith in
          ap (λ v. get_or (drop i y ++ take i y) v 0) e
          ∙ get_or-append-add (drop i y) (take i y) t 0
          ∙ get_or-take i y t 0 (omega arith)
          ∙ sym (cycled_in t (omega arith))
          ∙ sym (ap (λ v. get_or y v 0) (add-mod_right t (length y)))
          ∙ ap (cycled y) (sym z)

      go : Tri (i + k) (length y) → get_or (drop i y ++ take i y) k 0 ≡ cycled y (i + k)
      go (lt w) =
          get_or-append (drop i y) (take i y) 0 k (omega (arith, length-drop i y)) ∙ get_or-drop i y k 0 ∙ sym (cycled_in (i + k) w)
      go (eq w) = behind (omega arith)
      go (gt w) = behind (omega arith)

  pub rotation_cycled : (i : ℕ) → i ≤ length y → rotation y i ≡ tabulate (length y) (λ k. cycled y (i + k))
  rotation_cycled i h = tabulate_is (λ k. cycled y (i + k)) (rotation y i) (length y) (rotation_length i) (λ k g. rotation_entry i k h g)

  pub cycled_rotation : (i : ℕ) → i ≤ length y → (k : ℕ) → cycled (rotation y i) k ≡ cycled y (i + k)
  unfolding rotation
  cycled_rotation i h k = go (same? (length y) 0)
    where
      none : (z : List ℕ) → length z ≡ 0 → (x : ℕ) → get_or z x 0 ≡ 0
      none [] e x = refl
      none (a ∷ z) e x = absurd (omega arith)

      go : Same (length y) 0 → cycled (rotation y i) k ≡ cycled y (i + k)
      go (same e) = none (rotation y i) (rotation_length i ∙ e) (k % length (rotation y i)) ∙ sym (none y e ((i + k) % length y))
      go (other e) =
          ap (λ v. get_or (rotation y i) (k % v) 0) (rotation_length i)
          ∙ rotation_entry i (k % length y) h (mod-lt k (omega arith))
          ∙ ap (λ v. get_or y v 0) (add-mod-mod i k (length y))

  -- ---- the order of rotations

  pub rotations_less : (i j : ℕ) → i ≤ length y → j ≤ length y → CycledLess y i j → lex_less (rotation y i) (rotation y j) ≡ true
  rotations_less i j a b p =
      first_less (rotation y i) (rotation y j) (rotation_length i ∙ sym (rotation_length j))
      (record {
        at = p.at;
        within = omega (arith, p.within, rotation_length i);
        same = λ k h. rotation_entry i k a (omega (arith, p.within)) ∙ p.agree k h ∙ sym (rotation_entry j k b (omega (arith, p.within)));
        less = omega (arith, p.smaller, rotation_entry i p.at a p.within, rotation_entry j p.at b p.within);
      })

  pub less_rotations : (i j : ℕ) → i ≤ length y → j ≤ length y → lex_less (rotation y i) (rotation y j) ≡ true → CycledLess y i j
  less_rotations i j a b e = go (less_first (rotation y i) (rotation y j) (rotation_length i ∙ sym (rotation_length j)) e)
    where
      go : FirstLess (rotation y i) (rotation y j) → CycledLess y i j
      go p =
          let w : p.at < length y = omega (arith, p.within, rotation_length i) in
          record {
            at = p.at;
            within = w;
            agree = λ k h. sym (rotation_entry i k a (omega arith)) ∙ p.same k h ∙ rotation_entry j k b (omega arith);
            smaller = omega (arith, p.less, rotation_entry i p.at a w, rotation_entry j p.at b w);
          }
