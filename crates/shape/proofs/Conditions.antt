-- What the refusal conditions say, and what 6 to 8 say of the bits.
use mathlib.Core.Path.{◌≡◌, refl}
use mathlib.Core.Logic.{◌≢◌}
use mathlib.Core.Bool.{Bool, true, false, not, ◌&&◌}
use mathlib.Core.List.{List}
use Prim.Native.Nat.{ℕ, suc, ◌+◌, ◌-◌, ◌*◌, ◌≤◌, ◌<◌}
use native.Mathlib.Omega.{arith}
use lib.Dec.{ltb}
use lib.ListN.{length}
use borrow.Author.Tests.{lt-ltb, le-ltb, eq-eqb, ne_eqb, le-leb, lt-leb, ltb-false}
use Rattle.suffix.proofs.Cases.{Test, holds, fails, test}
use Rattle.suffix.proofs.Search.{any_true, any_false, any_not}
use Rattle.suffix.specs.Tree.{tree_length}
use Rattle.refusal.specs.Numbers.{lowest, lowest_from}
use Rattle.refusal.specs.Conditions.{bit_of, spare_bit_set, openings, closings, closed_too_early, left_open, flaw_number, tree_refusal, question_refusal, read_refusal}
use Rattle.shape.proofs.Heights.{opened, opened_all}
use Rattle.shape.proofs.Reading.{Balanced}

module _ (n : ℕ) (t : List ℕ) where
  pub early : (k : ℕ) → k ≤ 2 * n → 2 * opened (bit_of t) k < k → closed_too_early n t ≡ true
  unfolding closed_too_early
  early k h w = any_true (λ k. ltb (openings t k) (closings t k)) (suc (2 * n)) k (omega arith) (lt-ltb (openings t k) (closings t k) (omega (arith, opened_all (bit_of t) k)))

  pub not_early : ((k : ℕ) → k ≤ 2 * n → k ≤ 2 * opened (bit_of t) k) → closed_too_early n t ≡ false
  unfolding closed_too_early
  not_early h =
      any_false (λ k. ltb (openings t k) (closings t k)) (suc (2 * n))
      (λ k w. le-ltb (openings t k) (closings t k) (omega (arith, opened_all (bit_of t) k, h k (omega arith))))

  pub above : closed_too_early n t ≡ false → (k : ℕ) → k ≤ 2 * n → k ≤ 2 * opened (bit_of t) k
  unfolding closed_too_early
  above e k h =
      omega (
        arith,
        opened_all (bit_of t) k,
        ltb-false (openings t k) (closings t k) (any_not (λ k. ltb (openings t k) (closings t k)) (suc (2 * n)) e k (omega arith)),
      )

  pub left_open_lem : closed_too_early n t ≡ false → n < opened (bit_of t) (2 * n) → left_open n t ≡ true
  unfolding left_open
  left_open_lem e w = rw (e, lt-ltb (closings t (2 * n)) (openings t (2 * n)) (omega (arith, opened_all (bit_of t) (2 * n))))

  pub all_closed : opened (bit_of t) (2 * n) ≤ n → left_open n t ≡ false
  unfolding left_open
  all_closed w = rw (le-ltb (closings t (2 * n)) (openings t (2 * n)) (omega (arith, opened_all (bit_of t) (2 * n)))) (go (not (closed_too_early n t)))
    where
      go : (b : Bool) → b && false ≡ false
      go true = refl
      go false = refl

  pub balanced : closed_too_early n t ≡ false → left_open n t ≡ false → Balanced (bit_of t) (2 * n)
  unfolding left_open
  balanced e q =
      record {
        above = above e;
        closed =
            omega (
              arith,
              opened_all (bit_of t) (2 * n),
              above e (2 * n) (omega arith),
              ltb-false (closings t (2 * n)) (openings t (2 * n)) (rw e at q),
            );
      }

  pub spare_clear : ((k : ℕ) → 2 * n ≤ k → k < 8 * length t → bit_of t k ≡ false) → spare_bit_set n t ≡ false
  unfolding spare_bit_set
  spare_clear h = any_false (λ k. bit_of t (2 * n + k)) (8 * length t - 2 * n) (λ k w. h (2 * n + k) (omega arith) (omega arith))

  pub spare_none : spare_bit_set n t ≡ false → (k : ℕ) → 2 * n ≤ k → k < 8 * length t → bit_of t k ≡ false
  unfolding spare_bit_set
  spare_none e k h w =
      let z : 2 * n + (k - 2 * n) ≡ k = omega arith in
      rw z at (any_not (λ k. bit_of t (2 * n + k)) (8 * length t - 2 * n) e (k - 2 * n) (omega arith))

-- ---- which number is the lowest

module _ (n : ℕ) (t : List ℕ) where
  pub flaw_6 : spare_bit_set n t ≡ true → flaw_number n t ≡ 6
  unfolding lowest_from
  flaw_6 e = rw e

  pub flaw_7 : spare_bit_set n t ≡ false → closed_too_early n t ≡ true → flaw_number n t ≡ 7
  unfolding lowest_from
  flaw_7 e q = rw (e, q)

  pub flaw_8 : spare_bit_set n t ≡ false → closed_too_early n t ≡ false → left_open n t ≡ true → flaw_number n t ≡ 8
  unfolding lowest_from
  flaw_8 e q r = rw (e, q, r)

  pub flaw_0 : spare_bit_set n t ≡ false → closed_too_early n t ≡ false → left_open n t ≡ false → flaw_number n t ≡ 0
  unfolding lowest_from
  flaw_0 e q r = rw (e, q, r)

  pub tree_1 : 1000000 < n → tree_refusal n t ≡ 1
  unfolding tree_refusal lowest lowest_from
  tree_1 h = rw (lt-ltb 1000000 n h)

  pub tree_3 : n ≤ 1000000 → length t ≢ tree_length n → tree_refusal n t ≡ 3
  unfolding tree_refusal lowest lowest_from
  tree_3 h k = rw (le-ltb 1000000 n h, ne_eqb (length t) (tree_length n) k)

  pub tree_flaw : n ≤ 1000000 → length t ≡ tree_length n → tree_refusal n t ≡ flaw_number n t
  unfolding tree_refusal lowest lowest_from
  tree_flaw h k = rw (le-ltb 1000000 n h, eq-eqb (length t) (tree_length n) k)

  module _ (i : ℕ) where
    pub question_1 : 1000000 < n → question_refusal n t i ≡ 1
    unfolding question_refusal lowest lowest_from
    question_1 h = rw (lt-ltb 1000000 n h)

    pub question_3 : n ≤ 1000000 → length t ≢ tree_length n → question_refusal n t i ≡ 3
    unfolding question_refusal lowest lowest_from
    question_3 h k = rw (le-ltb 1000000 n h, ne_eqb (length t) (tree_length n) k)

    pub question_5 : n ≤ 1000000 → length t ≡ tree_length n → n ≤ i → question_refusal n t i ≡ 5
    unfolding question_refusal lowest lowest_from
    question_5 h k l = rw (le-ltb 1000000 n h, eq-eqb (length t) (tree_length n) k, le-leb n i l)

    pub question_flaw : n ≤ 1000000 → length t ≡ tree_length n → i < n → question_refusal n t i ≡ flaw_number n t
    unfolding question_refusal lowest lowest_from
    question_flaw h k l = rw (le-ltb 1000000 n h, eq-eqb (length t) (tree_length n) k, lt-leb n i l)

  module _ (p x : ℕ) where
    pub read_1 : 1000000 < n → read_refusal n t p x ≡ 1
    unfolding read_refusal lowest lowest_from
    read_1 h = rw (lt-ltb 1000000 n h)

    pub read_2 : n ≤ 1000000 → p ≢ n → read_refusal n t p x ≡ 2
    unfolding read_refusal lowest lowest_from
    read_2 h k = rw (le-ltb 1000000 n h, ne_eqb p n k)

    pub read_2_next : n ≤ 1000000 → p ≡ n → x ≢ n → read_refusal n t p x ≡ 2
    unfolding read_refusal lowest lowest_from
    read_2_next h k l = rw (le-ltb 1000000 n h, eq-eqb p n k, ne_eqb x n l)

    pub read_3 : n ≤ 1000000 → p ≡ n → x ≡ n → length t ≢ tree_length n → read_refusal n t p x ≡ 3
    unfolding read_refusal lowest lowest_from
    read_3 h k l m = rw (le-ltb 1000000 n h, eq-eqb p n k, eq-eqb x n l, ne_eqb (length t) (tree_length n) m)

    pub read_flaw : n ≤ 1000000 → p ≡ n → x ≡ n → length t ≡ tree_length n → read_refusal n t p x ≡ flaw_number n t
    unfolding read_refusal lowest lowest_from
    read_flaw h k l m = rw (le-ltb 1000000 n h, eq-eqb p n k, eq-eqb x n l, eq-eqb (length t) (tree_length n) m)

-- where nothing is wrong with the tree
pub record Sound (n : ℕ) (t : List ℕ) : Type 0 where
  pub spare : spare_bit_set n t ≡ false
  pub even : Balanced (bit_of t) (2 * n)

pub sound : (n : ℕ) (t : List ℕ) → flaw_number n t ≡ 0 → Sound n t
sound n t e = go (test (spare_bit_set n t)) (test (closed_too_early n t)) (test (left_open n t))
  where
    bad : {k : ℕ} → flaw_number n t ≡ suc k → Sound n t
    bad q = let z : ◌≡◌ {A = ℕ} 0 1 = cc in absurd (omega arith)

    go : Test (spare_bit_set n t) → Test (closed_too_early n t) → Test (left_open n t) → Sound n t
    go (holds a) y z = bad (flaw_6 n t a)
    go (fails a) (holds b) z = bad (flaw_7 n t a b)
    go (fails a) (fails b) (holds c) = bad (flaw_8 n t a b c)
    go (fails a) (fails b) (fails c) = record { spare = a; even = balanced n t b c }
