-- What the searches, counts and tables of specs/Search.antt find.
use mathlib.Core.Path.{◌≡◌, refl, sym, ap, ◌∙◌}
use mathlib.Core.Logic.{◌≢◌}
use mathlib.Core.Bool.{Bool, true, false, true≢false}
use mathlib.Core.List.{List}
use Prim.Native.Nat.{ℕ, zero, suc, ◌+◌, ◌≤◌, ◌<◌, max}
use native.Mathlib.Omega.{arith}
use lib.ListN.{length, get_or}
use lib.Seq.{ext_get_or}
use Rattle.suffix.specs.Search.{greatest_below, least_from, all_below, any_below, count_below, sum_below, maximum_below, tabulate, tabulate_from}
use Rattle.suffix.proofs.Cases.{Same, same, other, same?, Test, holds, fails, test}

-- ---- the greatest and the least number that passes a test

pub data Greatest (n : ℕ) (g : ℕ → Bool) (none v : ℕ) : Type 0 where
  found : v < n → g v ≡ true → ((k : ℕ) → v < k → k < n → g k ≡ false) → Greatest n g none v
  absent : v ≡ none → ((k : ℕ) → k < n → g k ≡ false) → Greatest n g none v

pub data Least (i t : ℕ) (g : ℕ → Bool) (none v : ℕ) : Type 0 where
  found : i ≤ v → v < i + t → g v ≡ true → ((k : ℕ) → i ≤ k → k < v → g k ≡ false) → Least i t g none v
  absent : v ≡ none → ((k : ℕ) → i ≤ k → k < i + t → g k ≡ false) → Least i t g none v

module _ (g : ℕ → Bool) (none : ℕ) where
  pub greatest : (n : ℕ) → Greatest n g none (greatest_below n g none)
  unfolding greatest_below
  greatest zero = absent refl (λ k h. absurd (omega arith))
  greatest (suc j) = go (test (g j)) (greatest j)
    where
      at : g j ≡ false → (k : ℕ) → k < suc j → (k < j → g k ≡ false) → g k ≡ false
      at e k h q = pick (same? k j)
        where
          pick : Same k j → g k ≡ false
          pick (same z) = rw z e
          pick (other z) = q (omega arith)

      go : Test (g j) → Greatest j g none (greatest_below j g none) → Greatest (suc j) g none (greatest_below (suc j) g none)
      go (holds e) ih = rw (e, greatest_below) (found (omega arith) e (λ k a b. absurd (omega arith)))
      go (fails e) (found a b c) = rw (e, greatest_below) (found (omega arith) b (λ k u w. at e k w (λ z. c k u z)))
      go (fails e) (absent a c) = rw (e, greatest_below) (absent a (λ k w. at e k w (λ z. c k z)))

  pub least : (i t : ℕ) → Least i t g none (least_from i t g none)
  unfolding least_from
  least i zero = absent refl (λ k a b. absurd (omega arith))
  least i (suc t) = go (test (g i)) (least (suc i) t)
    where
      at : g i ≡ false → (k : ℕ) → i ≤ k → (suc i ≤ k → g k ≡ false) → g k ≡ false
      at e k h q = pick (same? k i)
        where
          pick : Same k i → g k ≡ false
          pick (same z) = rw z e
          pick (other z) = q (omega arith)

      go : Test (g i) → Least (suc i) t g none (least_from (suc i) t g none) → Least i (suc t) g none (least_from i (suc t) g none)
      go (holds e) ih = rw (e, least_from) (found (omega arith) (omega arith) e (λ k a b. absurd (omega arith)))
      go (fails e) (found a b c d) = rw (e, least_from) (found (omega arith) (omega arith) c (λ k u w. at e k u (λ z. d k z w)))
      go (fails e) (absent a c) = rw (e, least_from) (absent a (λ k u w. at e k u (λ z. c k z (omega arith))))

-- ---- all, counted, summed, the maximum

module _ (g : ℕ → Bool) where
  pub all_true : (n : ℕ) → ((j : ℕ) → j < n → g j ≡ true) → all_below n g ≡ true
  unfolding all_below
  all_true zero q = refl
  all_true (suc n) q = rw (q n (omega arith), all_below) (all_true n (λ j h. q j (omega arith)))

  pub all_false : (n j : ℕ) → j < n → g j ≡ false → all_below n g ≡ false
  unfolding all_below
  all_false zero j h e = absurd (omega arith)
  all_false (suc n) j h e = go (same? j n) (test (g n)) (λ w. all_false n j w e)
    where
      go : Same j n → Test (g n) → (j < n → all_below n g ≡ false) → all_below (suc n) g ≡ false
      go (same z) t ih = rw (rw z at e, all_below)
      go (other z) (holds w) ih = rw (w, all_below) (ih (omega arith))
      go (other z) (fails w) ih = rw (w, all_below)

  pub all_at : (n : ℕ) → all_below n g ≡ true → (j : ℕ) → j < n → g j ≡ true
  all_at n e j h = go (test (g j))
    where
      go : Test (g j) → g j ≡ true
      go (holds w) = w
      go (fails w) = absurd (true≢false (sym e ∙ all_false n j h w))

  pub any_true : (n j : ℕ) → j < n → g j ≡ true → any_below n g ≡ true
  unfolding any_below
  any_true zero j h e = absurd (omega arith)
  any_true (suc n) j h e = go (same? j n) (test (g n)) (λ w. any_true n j w e)
    where
      go : Same j n → Test (g n) → (j < n → any_below n g ≡ true) → any_below (suc n) g ≡ true
      go (same z) t ih = rw (rw z at e, any_below)
      go (other z) (holds w) ih = rw (w, any_below)
      go (other z) (fails w) ih = rw (w, any_below) (ih (omega arith))

  pub any_false : (n : ℕ) → ((j : ℕ) → j < n → g j ≡ false) → any_below n g ≡ false
  unfolding any_below
  any_false zero q = refl
  any_false (suc n) q = rw (q n (omega arith), any_below) (any_false n (λ j h. q j (omega arith)))

  pub any_not : (n : ℕ) → any_below n g ≡ false → (j : ℕ) → j < n → g j ≡ false
  any_not n e j h = go (test (g j))
    where
      go : Test (g j) → g j ≡ false
      go (holds w) = absurd (true≢false (sym (any_true n j h w) ∙ e))
      go (fails w) = w

  pub count_yes : (n : ℕ) → g n ≡ true → count_below (suc n) g ≡ suc (count_below n g)
  unfolding count_below
  count_yes n e = rw (e, count_below)

  pub count_no : (n : ℕ) → g n ≡ false → count_below (suc n) g ≡ count_below n g
  unfolding count_below
  count_no n e = rw (e, count_below)

  pub count_most : (n : ℕ) → count_below n g ≤ n
  unfolding count_below
  count_most zero = omega arith
  count_most (suc n) = go (test (g n)) (count_most n)
    where
      go : Test (g n) → count_below n g ≤ n → count_below (suc n) g ≤ suc n
      go (holds e) ih = omega (arith, count_yes n e)
      go (fails e) ih = omega (arith, count_no n e)

  -- one is not counted
  pub count_less : (n j : ℕ) → j < n → g j ≡ false → count_below n g < n
  count_less zero j h e = absurd (omega arith)
  count_less (suc n) j h e = go (same? j n) (test (g n)) (λ w. count_less n j w e)
    where
      go : Same j n → Test (g n) → (j < n → count_below n g < n) → count_below (suc n) g < suc n
      go (same z) t ih = omega (arith, count_no n (rw z at e), count_most n)
      go (other z) (holds w) ih = omega (arith, count_yes n w, ih (omega arith))
      go (other z) (fails w) ih = omega (arith, count_no n w, ih (omega arith))

  -- nothing is counted from m on
  pub count_stop : (m n : ℕ) → m ≤ n → ((k : ℕ) → m ≤ k → k < n → g k ≡ false) → count_below n g ≡ count_below m g
  count_stop m zero h q = ap (λ k. count_below k g) (omega arith)
  count_stop m (suc n) h q = go (same? m (suc n)) (λ w. count_stop m n w (λ k a b. q k a (omega arith)))
    where
      go : Same m (suc n) → (m ≤ n → count_below n g ≡ count_below m g) → count_below (suc n) g ≡ count_below m g
      go (same z) ih = rw z
      go (other z) ih = count_no n (q n (omega arith) (omega arith)) ∙ ih (omega arith)

pub any_same : (g h : ℕ → Bool) (n : ℕ) → ((k : ℕ) → k < n → g k ≡ h k) → any_below n g ≡ any_below n h
unfolding any_below
any_same g h zero q = refl
any_same g h (suc n) q = go (test (g n)) (any_same g h n (λ k w. q k (omega arith)))
  where
    go : Test (g n) → any_below n g ≡ any_below n h → any_below (suc n) g ≡ any_below (suc n) h
    go (holds e) ih = rw (e, any_below, sym (q n (omega arith)) ∙ e, any_below)
    go (fails e) ih = rw (e, any_below, sym (q n (omega arith)) ∙ e, any_below) ih

pub count_same : (g h : ℕ → Bool) (n : ℕ) → ((k : ℕ) → k < n → g k ≡ h k) → count_below n g ≡ count_below n h
unfolding count_below
count_same g h zero q = refl
count_same g h (suc n) q = go (test (g n)) (count_same g h n (λ k w. q k (omega arith)))
  where
    go : Test (g n) → count_below n g ≡ count_below n h → count_below (suc n) g ≡ count_below (suc n) h
    go (holds e) ih = count_yes g n e ∙ ap suc ih ∙ sym (count_yes h n (sym (q n (omega arith)) ∙ e))
    go (fails e) ih = count_no g n e ∙ ih ∙ sym (count_no h n (sym (q n (omega arith)) ∙ e))

-- one more is counted
pub count_raise : (g h : ℕ → Bool) (n i : ℕ) → i < n → g i ≡ false → h i ≡ true → ((k : ℕ) → k < n → k ≢ i → g k ≡ h k) → count_below n h ≡ suc (count_below n g)
count_raise g h zero i a d e q = absurd (omega arith)
count_raise g h (suc n) i a d e q = go (same? i n) (test (g n)) (λ w. count_raise g h n i w d e (λ k b c. q k (omega arith) c))
  where
    go : Same i n → Test (g n) → (i < n → count_below n h ≡ suc (count_below n g)) → count_below (suc n) h ≡ suc (count_below (suc n) g)
    go (same z) t ih = omega (arith, count_no g n (rw z at d), count_yes h n (rw z at e), count_same g h n (λ k b. q k (omega arith) (omega arith)))
    go (other z) (holds w) ih = omega (arith, count_yes g n w, count_yes h n (sym (q n (omega arith) (omega arith)) ∙ w), ih (omega arith))
    go (other z) (fails w) ih = omega (arith, count_no g n w, count_no h n (sym (q n (omega arith) (omega arith)) ∙ w), ih (omega arith))

module _ (g h : ℕ → ℕ) where
  pub sum_same : (n : ℕ) → ((k : ℕ) → k < n → g k ≡ h k) → sum_below n g ≡ sum_below n h
  unfolding sum_below
  sum_same zero q = refl
  sum_same (suc n) q = omega (arith, sum_same n (λ k w. q k (omega arith)), q n (omega arith))

  -- one term is raised by w
  pub sum_raise : (n i w : ℕ) → i < n → h i ≡ g i + w → ((k : ℕ) → k < n → k ≢ i → h k ≡ g k) → sum_below n h ≡ sum_below n g + w
  unfolding sum_below
  sum_raise zero i w a e q = absurd (omega arith)
  sum_raise (suc n) i w a e q = go (same? i n) (λ u. sum_raise n i w u e (λ k b c. q k (omega arith) c))
    where
      go : Same i n → (i < n → sum_below n h ≡ sum_below n g + w) → sum_below n h + h n ≡ sum_below n g + g n + w
      go (same z) ih = omega (arith, sum_same' n (λ k b. q k (omega arith) (omega arith)), rw z at e)
        where
          sum_same' : (m : ℕ) → ((k : ℕ) → k < m → h k ≡ g k) → sum_below m g ≡ sum_below m h
          sum_same' m p = sum_same m (λ k b. sym (p k b))
      go (other z) ih = omega (arith, ih (omega arith), q n (omega arith) (omega arith))

module _ (g : ℕ → ℕ) where
  pub maximum_most : (n c : ℕ) → ((k : ℕ) → k < n → g k ≤ c) → maximum_below n g ≤ c
  unfolding maximum_below
  maximum_most zero c q = omega arith
  maximum_most (suc n) c q = omega (arith, q n (omega arith), maximum_most n c (λ k h. q k (omega arith)))

  pub maximum_least : (n k : ℕ) → k < n → g k ≤ maximum_below n g
  unfolding maximum_below
  maximum_least zero k h = absurd (omega arith)
  maximum_least (suc n) k h = go (same? k n) (λ w. maximum_least n k w)
    where
      go : Same k n → (k < n → g k ≤ maximum_below n g) → g k ≤ max (g n) (maximum_below n g)
      go (same e) ih = rw e (omega arith)
      go (other e) ih = omega (arith, ih (omega arith))

-- ---- tables

module _ (g : ℕ → ℕ) where
  length_from : (i n : ℕ) → length (tabulate_from i n g) ≡ n
  unfolding tabulate_from
  length_from i zero = refl
  length_from i (suc n) = ap suc (length_from (suc i) n)

  entry_from : (i n k : ℕ) → k < n → get_or (tabulate_from i n g) k 0 ≡ g (i + k)
  unfolding tabulate_from
  entry_from i zero k h = absurd (omega arith)
  entry_from i (suc n) zero h = ap g (omega arith)
  entry_from i (suc n) (suc k) h = entry_from (suc i) n k (omega arith) ∙ ap g (omega arith)

  pub tabulate_length : (n : ℕ) → length (tabulate n g) ≡ n
  unfolding tabulate
  tabulate_length n = length_from 0 n

  pub tabulate_entry : (n k : ℕ) → k < n → get_or (tabulate n g) k 0 ≡ g k
  unfolding tabulate
  tabulate_entry n k h = entry_from 0 n k h ∙ ap g (omega arith)

  -- a list of n entries that are those of g is its table
  pub tabulate_is : (t : List ℕ) (n : ℕ) → length t ≡ n → ((i : ℕ) → i < n → get_or t i 0 ≡ g i) → t ≡ tabulate n g
  tabulate_is t n e q = ext_get_or 0 t (tabulate n g) (e ∙ sym (tabulate_length n)) (λ i h. q i (omega arith) ∙ sym (tabulate_entry n i (omega arith)))

pub tabulate_same : (g h : ℕ → ℕ) (n : ℕ) → ((i : ℕ) → i < n → g i ≡ h i) → tabulate n g ≡ tabulate n h
tabulate_same g h n q = tabulate_is h (tabulate n g) n (tabulate_length g n) (λ i w. tabulate_entry g n i w ∙ q i w)
