-- The tables of a list, their entries as a list, and what a store does to them.
use mathlib.Core.Path.{◌≡◌, refl, sym, ap, ◌∙◌}
use mathlib.Core.Logic.{◌≢◌, ◌⊎◌, inl, inr}
use mathlib.Core.List.Memᴰ
use mathlib.Core.List.{List, ◌∷◌, ◌++◌, Memᴰ}
use Prim.Native.Nat.{ℕ, zero, suc, ◌+◌, ◌≤◌, ◌<◌}
use native.Mathlib.Omega.{arith}
use lib.ListN.{length}
use lib.Seq.{get_or-set_same, get_or-set_other}
use Rattle.std.specs.Borrow.{MutBor}
use Rattle.suffix.proofs.Cases.{Same, same, other, same?}
use Rattle.repeats.specs.Runs.{Run}
use Rattle.repeats.specs.Report.{Before, Ordered, then}
use Rattle.repeats.specs.Refusals.{Lists}
use Rattle.repeats.proofs.Listing.{run_eq}
use Rattle.run_list.specs.declared.RunList.{RunList}
use Rattle.run_list.specs.Entries.{entry_in, entries_from, entries, stored, Has, SameSlice, SameTables}

pub same_here : {l : RunList} → SameTables l l
same_here = record { starts = record { name = refl; size = refl }; ends = record { name = refl; size = refl }; periods = record { name = refl; size = refl } }

slice_after : {a b c : MutBor (List ℕ)} → SameSlice a b → SameSlice b c → SameSlice a c
slice_after S T = record { name = T.name ∙ S.name; size = T.size ∙ S.size }

pub same_after : {a b c : RunList} → SameTables a b → SameTables b c → SameTables a c
same_after S T = record { starts = slice_after S.starts T.starts; ends = slice_after S.ends T.ends; periods = slice_after S.periods T.periods }

entries_length : (t : Lists) (i c : ℕ) → length (entries_from t i c) ≡ c
unfolding entries_from
entries_length t i zero = refl
entries_length t i (suc c) = ap suc (entries_length t (suc i) c)

pub entries_count : (t : Lists) (c : ℕ) {l : List Run} → entries t c ≡ l → c ≡ length l
entries_count t c e = sym (entries_length t 0 c) ∙ ap length e

pub entries_split : (t : Lists) (i a b : ℕ) → entries_from t i (a + b) ≡ entries_from t i a ++ entries_from t (i + a) b
unfolding entries_from
entries_split t i zero b = let z : 0 + b ≡ b = omega arith in let w : i + 0 ≡ i = omega arith in rw (z, w)
entries_split t i (suc a) b =
    let z : suc a + b ≡ suc (a + b) = omega arith in
    let w : i + suc a ≡ suc i + a = omega arith in
    rw (z, w) (ap (λ l. entry_in t i ∷ l) (entries_split t (suc i) a b))

pub entries_same : (t u : Lists) (i d c : ℕ) → ((k : ℕ) → k < c → entry_in t (i + k) ≡ entry_in u (d + k)) → entries_from t i c ≡ entries_from u d c
unfolding entries_from
entries_same t u i d zero q = refl
entries_same t u i d (suc c) q =
    let h : entry_in t i ≡ entry_in u d = ap (entry_in t) (omega arith) ∙ q 0 (omega arith) ∙ ap (entry_in u) (omega arith) in
    rw (h, entries_same t u (suc i) (suc d) c (λ k w. ap (entry_in t) (omega arith) ∙ q (suc k) (omega arith) ∙ ap (entry_in u) (omega arith)))

pub record Entry (t : Lists) (i c : ℕ) (q : Run) : Type 0 where
  pub place : ℕ
  pub low : i ≤ place
  pub high : place < i + c
  pub is : q ≡ entry_in t place

pub mem_entry : (t : Lists) (i c : ℕ) (q : Run) → Memᴰ q (entries_from t i c) → Entry t i c q
unfolding entries_from
mem_entry t i zero q m = absurd (Memᴰ.not-nil m)
mem_entry t i (suc c) q m = go (Memᴰ.cases_cons m) (λ k. mem_entry t (suc i) c q k)
  where
    go : (q ≡ entry_in t i) ⊎ Memᴰ q (entries_from t (suc i) c) → (Memᴰ q (entries_from t (suc i) c) → Entry t (suc i) c q) → Entry t i (suc c) q
    go (inl e) ih = record { place = i; low = omega arith; high = omega arith; is = e }
    go (inr k) ih = let E = ih k in record { place = E.place; low = omega (arith, E.low); high = omega (arith, E.high); is = E.is }

pub entry_mem : (t : Lists) (i c k : ℕ) → i ≤ k → k < i + c → Memᴰ (entry_in t k) (entries_from t i c)
unfolding entries_from
entry_mem t i zero k a b = absurd (omega arith)
entry_mem t i (suc c) k a b = go (same? k i) (λ w. entry_mem t (suc i) c k w (omega arith))
  where
    go : Same k i → (suc i ≤ k → Memᴰ (entry_in t k) (entries_from t (suc i) c)) → Memᴰ (entry_in t k) (entries_from t i (suc c))
    go (same e) ih = Memᴰ.head (ap (entry_in t) e)
    go (other e) ih = Memᴰ.tail (ih (omega arith))

pub entries_ordered : (t : Lists) (i c : ℕ) → Ordered (entries_from t i c) → (a b : ℕ) → i ≤ a → a < b → b < i + c → Before (entry_in t a) (entry_in t b)
unfolding entries_from
entries_ordered t i zero O a b h g w = absurd (omega arith)
entries_ordered t i (suc c) (then u O) a b h g w = go (same? a i) (λ v. entries_ordered t (suc i) c O a b v g (omega arith))
  where
    go : Same a i → (suc i ≤ a → Before (entry_in t a) (entry_in t b)) → Before (entry_in t a) (entry_in t b)
    go (same e) ih = rw e (u (entry_in t b) (entry_mem t (suc i) c b (omega arith) (omega arith)))
    go (other e) ih = ih (omega arith)

-- ---- a store

module _ (t : Lists) (k : ℕ) (r : Run) where
  pub entry_stored : Has t k → entry_in (stored t k r) k ≡ r
  entry_stored H = run_eq (get_or-set_same t.starts k r.start 0 H.starts) (get_or-set_same t.ends k r.end 0 H.ends) (get_or-set_same t.periods k r.period 0 H.periods)

  pub entry_other : (i : ℕ) → i ≢ k → entry_in (stored t k r) i ≡ entry_in t i
  entry_other i h = run_eq (get_or-set_other t.starts k i r.start 0 h) (get_or-set_other t.ends k i r.end 0 h) (get_or-set_other t.periods k i r.period 0 h)
