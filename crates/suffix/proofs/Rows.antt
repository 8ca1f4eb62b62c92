-- The entries after R rows, case by case, and what one more row leaves as it was.
use mathlib.Core.Path.{◌≡◌, refl, sym, ap, ◌∙◌}
use mathlib.Core.Logic.{◌≢◌}
use mathlib.Core.Bool.{Bool, true, false, ◌&&◌}
use mathlib.Core.List.{List}
use Prim.Native.Nat.{ℕ, suc, ◌≤◌, ◌<◌}
use native.Mathlib.Omega.{arith}
use lib.Dec.{ltb}
use lib.ListN.{length}
use borrow.Author.Tests.{lt-ltb, le-ltb, eq-eqb, ne_eqb}
use Rattle.suffix.specs.Order.{lce}
use Rattle.suffix.specs.Nearest.{previous, next, previous_match, next_match}
use Rattle.suffix.specs.Rows.{Tables, previous_after, previous_match_after, next_settled, next_after, next_match_after}
use Rattle.suffix.proofs.Cases.{Tri, lt, eq, gt, tri}
use Rattle.suffix.proofs.Nearest.{next_at_lem}

-- tables with equal lists
pub tables_are :
    {a b c d a' b' c' d' : List ℕ} → a ≡ a' → b ≡ b' → c ≡ c' → d ≡ d'
    → ◌≡◌ {A = Tables} (record { previous = a; next = b; previous_match = c; next_match = d }) (record { previous = a'; next = b'; previous_match = c'; next_match = d' })
tables_are p q u w = rw (p, q, u, w)

module _ (y : List ℕ) where
  pub previous_match_none : (i : ℕ) → previous y i ≡ length y → previous_match y i ≡ 0
  unfolding previous_match
  previous_match_none i h = rw (eq-eqb (previous y i) (length y) h, previous_match)

  pub previous_match_some : (i p : ℕ) → p ≢ length y → previous y i ≡ p → previous_match y i ≡ lce y p i
  unfolding previous_match
  previous_match_some i p h e = rw (ne_eqb (previous y i) (length y) (omega arith), previous_match) (ap (λ q. lce y q i) e)

  pub next_match_none : (i : ℕ) → next y i ≡ length y → next_match y i ≡ 0
  unfolding next_match
  next_match_none i h = rw (eq-eqb (next y i) (length y) h, next_match)

  pub next_match_some : (i q : ℕ) → q ≢ length y → next y i ≡ q → next_match y i ≡ lce y i q
  unfolding next_match
  next_match_some i q h e = rw (ne_eqb (next y i) (length y) (omega arith), next_match) (ap (lce y i) e)

  pub previous_after_in : (R i : ℕ) → i < R → previous_after y R i ≡ previous y i
  unfolding previous_after
  previous_after_in R i h = rw (lt-ltb i R h, previous_after)

  pub previous_after_out : (R i : ℕ) → R ≤ i → previous_after y R i ≡ length y
  unfolding previous_after
  previous_after_out R i h = rw (le-ltb i R h, previous_after)

  pub previous_match_after_in : (R i : ℕ) → i < R → previous_match_after y R i ≡ previous_match y i
  unfolding previous_match_after
  previous_match_after_in R i h = rw (lt-ltb i R h, previous_match_after)

  pub previous_match_after_out : (R i : ℕ) → R ≤ i → previous_match_after y R i ≡ 0
  unfolding previous_match_after
  previous_match_after_out R i h = rw (le-ltb i R h, previous_match_after)

  -- i < next[i], so next[i] < R settles the entry
  settled_in : (R i : ℕ) → i < length y → next y i < R → next_settled y R i ≡ true
  unfolding next_settled
  settled_in R i g h = rw (lt-ltb i R (omega (arith, (next_at_lem y i g).after)), lt-ltb (next y i) R h)

  settled_out : (R i : ℕ) → R ≤ next y i → next_settled y R i ≡ false
  unfolding next_settled
  settled_out R i h = rw (le-ltb (next y i) R h) (go (ltb i R))
    where
      go : (b : Bool) → b && false ≡ false
      go true = refl
      go false = refl

  pub next_after_in : (R i : ℕ) → i < length y → next y i < R → next_after y R i ≡ next y i
  unfolding next_after
  next_after_in R i g h = rw (settled_in R i g h, next_after)

  pub next_after_out : (R i : ℕ) → R ≤ next y i → next_after y R i ≡ length y
  unfolding next_after
  next_after_out R i h = rw (settled_out R i h, next_after) (omega arith)

  pub next_match_after_in : (R i : ℕ) → i < length y → next y i < R → next_match_after y R i ≡ next_match y i
  unfolding next_match_after
  next_match_after_in R i g h = rw (settled_in R i g h, next_match_after)

  pub next_match_after_out : (R i : ℕ) → R ≤ next y i → next_match_after y R i ≡ 0
  unfolding next_match_after
  next_match_after_out R i h = rw (settled_out R i h, next_match_after)

  -- an entry v that changes where its row k is done, and not at row r
  stays : (after : ℕ → ℕ) (v none r k : ℕ) → ((R : ℕ) → k < R → after R ≡ v) → ((R : ℕ) → R ≤ k → after R ≡ none) → k ≢ r → after r ≡ after (suc r)
  stays after v none r k inn out h = go (tri k r)
    where
      go : Tri k r → after r ≡ after (suc r)
      go (lt w) = inn r w ∙ sym (inn (suc r) (omega arith))
      go (eq w) = absurd (h w)
      go (gt w) = out r (omega arith) ∙ sym (out (suc r) (omega arith))

  pub previous_after_stays : (r i : ℕ) → i ≢ r → previous_after y r i ≡ previous_after y (suc r) i
  previous_after_stays r i h = stays (λ R. previous_after y R i) (previous y i) (length y) r i (λ R. previous_after_in R i) (λ R. previous_after_out R i) h

  pub previous_match_after_stays : (r i : ℕ) → i ≢ r → previous_match_after y r i ≡ previous_match_after y (suc r) i
  previous_match_after_stays r i h = stays (λ R. previous_match_after y R i) (previous_match y i) 0 r i (λ R. previous_match_after_in R i) (λ R. previous_match_after_out R i) h

  pub next_after_stays : (r i : ℕ) → i < length y → next y i ≢ r → next_after y r i ≡ next_after y (suc r) i
  next_after_stays r i g h = stays (λ R. next_after y R i) (next y i) (length y) r (next y i) (λ R. next_after_in R i g) (λ R. next_after_out R i) h

  pub next_match_after_stays : (r i : ℕ) → i < length y → next y i ≢ r → next_match_after y r i ≡ next_match_after y (suc r) i
  next_match_after_stays r i g h = stays (λ R. next_match_after y R i) (next_match y i) 0 r (next y i) (λ R. next_match_after_in R i g) (λ R. next_match_after_out R i) h
