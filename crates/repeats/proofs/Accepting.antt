-- What the scan to the left finds, and what the test of a place tells.
use mathlib.Core.Path.{◌≡◌, refl, sym, ap, ◌∙◌}
use mathlib.Core.Bool.{Bool, true, false, not, ◌||◌, true≢false}
use mathlib.Core.List.{List}
use Prim.Native.Nat.{ℕ, zero, suc, ◌+◌, ◌-◌, ◌≤◌, ◌<◌}
use native.Mathlib.Omega.{arith}
use lib.Dec.{eqb, ltb}
use lib.ListN.{length}
use borrow.Author.Tests.{ltb-true, leb-true, lt-ltb, le-leb, eq-eqb, ne_eqb}
use Rattle.suffix.proofs.Cases.{Same, same, other, same?, Test, holds, fails, test, both_true}
use Rattle.repeats.specs.Roots.{left_from, left_of, accepts}
use Rattle.repeats.proofs.Periods.{Left}
use Rattle.repeats.proofs.Meaning.{and_true, letter}

pub left_most : (y : List ℕ) (c i j : ℕ) → left_from y c i j ≤ i
unfolding left_from
left_most y zero i j = omega arith
left_most y (suc c) zero j = omega arith
left_most y (suc c) (suc i) j = go (eqb (letter y i) (letter y (j - 1))) (left_most y c i (j - 1))
  where
    go : (t : Bool) → left_from y c i (j - 1) ≤ i → elim t [ true ↦ suc (left_from y c i (j - 1)) | false ↦ 0 ] ≤ suc i
    go true h = omega arith
    go false h = omega arith

module _ (y : List ℕ) where
  pub left_is : (c i j : ℕ) → i ≤ j → Left (letter y) i j c (left_from y c i j)
  unfolding left_from
  left_is zero i j h = record { most = omega arith; room = omega arith; same = λ k a. absurd (omega arith); stop = λ a b. absurd (omega arith) }
  left_is (suc c) zero j h = record { most = omega arith; room = omega arith; same = λ k a. absurd (omega arith); stop = λ a b. absurd (omega arith) }
  left_is (suc c) (suc i) j h = go (same? (letter y i) (letter y (j - 1))) (left_is c i (j - 1) (omega arith))
    where
      x : ℕ
      x = left_from y c i (j - 1)

      at : (a b : ℕ) → a ≡ b → letter y a ≡ letter y b
      at a b e = ap (letter y) e

      on : letter y i ≡ letter y (j - 1) → Left (letter y) i (j - 1) c x → (k : ℕ) → k < suc x → letter y (suc i - suc k) ≡ letter y (j - suc k)
      on e L zero a = at (suc i - 1) i (omega arith) ∙ e
      on e L (suc k) a = at (suc i - suc (suc k)) (i - suc k) (omega arith) ∙ L.same k (omega arith) ∙ at (j - 1 - suc k) (j - suc (suc k)) (omega arith)

      go : Same (letter y i) (letter y (j - 1)) → Left (letter y) i (j - 1) c x → Left (letter y) (suc i) j (suc c) (left_from y (suc c) (suc i) j)
      go (same e) L =
          rw (eq-eqb _ _ e, left_from)
          (record {
            most = omega (arith, L.most);
            room = omega (arith, L.room);
            same = on e L;
            stop = λ a b q.
                L.stop (omega arith) (omega arith)
                (at (i - suc x) (suc i - suc (suc x)) (omega arith) ∙ q ∙ at (j - suc (suc x)) (j - 1 - suc x) (omega arith));
          })
      go (other e) L =
          rw (ne_eqb _ _ e, left_from)
          (record {
            most = omega arith;
            room = omega arith;
            same = λ k a. absurd (omega arith);
            stop = λ a b q. e (at i (suc i - 1) (omega arith) ∙ q);
          })

  -- what acceptance says
  pub record Accepts (o : Bool) (i j m : ℕ) : Type 0 where
    pub one : 0 < left_of y i j
    pub uncut : left_of y i j ≤ j - i
    pub twice : j - i ≤ left_of y i j + m
    pub ends : o ≡ true → j + m < length y

  pub accepts_told : (o : Bool) (i j m : ℕ) → accepts y o i j m ≡ true → Accepts o i j m
  unfolding accepts
  accepts_told o i j m e =
      let u = both_true _ _ e in
      let v = both_true _ _ u.1 in
      let w = both_true _ _ v.1 in
      record { one = ltb-true _ _ u.0; uncut = leb-true _ _ v.0; twice = leb-true _ _ w.0; ends = λ t. ltb-true _ _ (last o w.1 t) }
    where
      last : (o : Bool) → not o || ltb (j + m) (length y) ≡ true → o ≡ true → ltb (j + m) (length y) ≡ true
      last true w t = w
      last false w t = absurd (true≢false (sym t))

  pub tell_accepts : (o : Bool) (i j m : ℕ) → Accepts o i j m → accepts y o i j m ≡ true
  unfolding accepts
  tell_accepts o i j m A = and_true (lt-ltb _ _ A.one) (and_true (le-leb _ _ A.uncut) (and_true (le-leb _ _ A.twice) (last o A.ends)))
    where
      last : (o : Bool) → (o ≡ true → j + m < length y) → not o || ltb (j + m) (length y) ≡ true
      last true w = lt-ltb _ _ (w refl)
      last false w = refl

  pub accepts_not : (o : Bool) (i j m : ℕ) → (Accepts o i j m → ⊥) → accepts y o i j m ≡ false
  accepts_not o i j m h = go (test (accepts y o i j m))
    where
      go : Test (accepts y o i j m) → accepts y o i j m ≡ false
      go (holds e) = absurd (h (accepts_told o i j m e))
      go (fails e) = e
