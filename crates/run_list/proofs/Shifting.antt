-- Into entries that are in order a run is put in order: those that it comes before move up by one.
use mathlib.Core.Path.{◌≡◌, refl, sym, ap, ◌∙◌}
use mathlib.Core.Logic.{◌≢◌, ◌⊎◌, inl, inr}
use mathlib.Core.Bool.{true, false, true≢false}
use mathlib.Core.List.{◌∷◌, ◌++◌}
use Prim.Native.Nat.{ℕ, zero, suc, ◌+◌, ◌-◌, ◌≤◌, ◌<◌}
use native.Mathlib.Omega.{arith}
use lib.ListN.{length, length-set}
use Rattle.suffix.proofs.Cases.{Same, same, other, same?, Test, holds, fails, test}
use Rattle.repeats.specs.Runs.{Run}
use Rattle.repeats.specs.Report.{before, Before}
use Rattle.repeats.specs.Gathered.{insert}
use Rattle.repeats.specs.Refusals.{Lists}
use Rattle.repeats.proofs.Ordering.{before_trans, before_yes, before_told, insert_at}
use Rattle.repeats.proofs.Gathering.{put_none, put_one}
use Rattle.run_list.specs.Entries.{entry_in, entries_from, entries, stored, Has}
use Rattle.run_list.specs.Inserted.{placed}
use Rattle.run_list.specs.Claims.{Insertable, Put}
use Rattle.run_list.proofs.Entries.{entries_split, entries_same, mem_entry, entry_stored, entry_other}
use Rattle.run_list.proofs.Inserting.{placed_below, placed_here}

-- ---- entries j to c - 1 of t₀, which r comes before, are moved up by one

record Shifted (c j : ℕ) (r : Run) (t₀ t : Lists) : Type 0 where
  most : j ≤ c
  below : (k : ℕ) → k < j → entry_in t k ≡ entry_in t₀ k
  above : (k : ℕ) → j < k → k ≤ c → entry_in t k ≡ entry_in t₀ (k - 1)
  beyond : (k : ℕ) → c < k → entry_in t k ≡ entry_in t₀ k
  passed : (k : ℕ) → j ≤ k → k < c → Before r (entry_in t₀ k)
  starts : length t.starts ≡ length t₀.starts
  ends : length t.ends ≡ length t₀.ends
  periods : length t.periods ≡ length t₀.periods

shifted_none : (c : ℕ) (r : Run) (t : Lists) → Shifted c c r t t
shifted_none c r t =
    record { most = omega arith; below = λ k h. refl; above = λ k a b. absurd (omega arith); beyond = λ k h. refl; passed = λ k a b. absurd (omega arith); starts = refl; ends = refl; periods = refl }

module _ {c j : ℕ} {r : Run} {t₀ t : Lists} (S : Shifted c j r t₀ t) where
  shifted_has : Has t₀ c → Has t j
  shifted_has H = record { starts = omega arith; ends = omega arith; periods = omega arith }

  shifted_more : 0 < j → before r (entry_in t (j - 1)) ≡ true → Has t j → Shifted c (j - 1) r t₀ (stored t j (entry_in t (j - 1)))
  shifted_more h e H = more h (before_told r (entry_in t (j - 1)) e)
    where
      q : Run
      q = entry_in t (j - 1)

      above : (k : ℕ) → 0 < j → j - 1 < k → k ≤ c → Same k j → entry_in (stored t j q) k ≡ entry_in t₀ (k - 1)
      above k h a b (same e) = rw e (entry_stored t j q H ∙ S.below (j - 1) (omega arith))
      above k h a b (other e) = entry_other t j q k e ∙ S.above k (omega arith) b

      passed : Before r q → (k : ℕ) → j - 1 ≤ k → k < c → Same k (j - 1) → 0 < j → Before r (entry_in t₀ k)
      passed b k a w (same e) h = rw e (rw (S.below (j - 1) (omega arith)) at b)
      passed b k a w (other e) h = S.passed k (omega arith) w

      more : 0 < j → Before r q → Shifted c (j - 1) r t₀ (stored t j q)
      more h b =
          record {
            most = omega (arith, S.most);
            below = λ k w. entry_other t j q k (omega arith) ∙ S.below k (omega arith);
            above = λ k a w. above k h a w (same? k j);
            beyond = λ k w. entry_other t j q k (omega (arith, S.most)) ∙ S.beyond k w;
            passed = λ k a w. passed b k a w (same? k (j - 1)) h;
            starts = length-set t.starts j q.start ∙ S.starts;
            ends = length-set t.ends j q.end ∙ S.ends;
            periods = length-set t.periods j q.period ∙ S.periods;
          }

  module _ (no : 0 < j → before r (entry_in t (j - 1)) ≡ false) (I : Insertable t₀ c r) where
    -- those below its place come before r
    before_r : (k : ℕ) → k < j → Before (entry_in t₀ k) r
    before_r k h = go (same? k (j - 1))
      where
        last : Before (entry_in t₀ (j - 1)) r
        last = pick (I.fresh (j - 1) (omega (arith, S.most)))
          where
            pick : Before r (entry_in t₀ (j - 1)) ⊎ Before (entry_in t₀ (j - 1)) r → Before (entry_in t₀ (j - 1)) r
            pick (inl b) = absurd (true≢false (sym (rw (S.below (j - 1) (omega arith)) (before_yes b)) ∙ no (omega arith)))
            pick (inr b) = b

        go : Same k (j - 1) → Before (entry_in t₀ k) r
        go (same e) = rw e last
        go (other e) = before_trans (I.ordered k (j - 1) (omega arith) (omega (arith, S.most))) last

    inserted : Has t j → r.period ≢ 0 → Put c r t₀ (stored t j r) (c + 1)
    unfolding entries_from
    inserted H ne =
        record {
          holds =
              let a : c + 1 ≡ j + suc (c - j) = omega (arith, S.most) in
              let b : j + (c - j) ≡ c = omega (arith, S.most) in
              let z : 0 + j ≡ j = omega arith in
              let low : entries u j ≡ entries t₀ j = entries_same u t₀ 0 0 j (λ k h. entry_other t j r (0 + k) (omega arith) ∙ S.below (0 + k) (omega arith)) in
              let high : entries_from u (suc j) (c - j) ≡ entries_from t₀ j (c - j) = entries_same u t₀ (suc j) j (c - j) (λ k h. entry_other t j r (suc j + k) (omega arith) ∙ S.above (suc j + k) (omega arith) (omega arith) ∙ ap (entry_in t₀) (omega arith)) in
              let put_in : insert r (entries t₀ j ++ entries_from t₀ j (c - j)) ≡ entries t₀ j ++ r ∷ entries_from t₀ j (c - j) =
              insert_at r (entries t₀ j) (entries_from t₀ j (c - j))
              (λ q m. let E = mem_entry t₀ 0 j q m in rw E.is (before_r E.place (omega (arith, E.high))))
              (λ q m. let E = mem_entry t₀ j (c - j) q m in rw E.is (S.passed E.place E.low (omega (arith, E.high, S.most)))) in
              let whole : entries t₀ c ≡ entries t₀ j ++ entries_from t₀ j (c - j) = ap (entries t₀) (sym b) ∙ entries_split t₀ 0 j (c - j) ∙ rw z in
              rw (a) (entries_split u 0 j (suc (c - j)) ∙ rw (z, low, high, entry_stored t j r H) (sym put_in ∙ ap (insert r) (sym whole) ∙ sym (put_one r (entries t₀ c) ne)));
          keeps = λ k h. ap (λ (v : Run). v.period) (entry_other t j r k (omega (arith, S.most)) ∙ S.beyond k h);
        }
      where
        u : Lists
        u = stored t j r

-- ---- the run goes down from place c

module _ {c : ℕ} {r : Run} {t₀ : Lists} (H : Has t₀ c) (ne : r.period ≢ 0) (I : Insertable t₀ c r) where
  from_place : (j : ℕ) (t : Lists) → Shifted c j r t₀ t → Put c r t₀ (placed j t r) (c + 1)
  from_place zero t S = let no : 0 < 0 → before r (entry_in t (0 - 1)) ≡ false = λ h. absurd (omega arith) in rw (placed_here r t 0 no) (inserted S no I (shifted_has S H) ne)
  from_place (suc j) t S = go (test (before r (entry_in t (suc j - 1)))) (λ X. from_place j (stored t (suc j) (entry_in t j)) X)
    where
      z : suc j - 1 ≡ j
      z = omega arith

      u : Lists
      u = stored t (suc j) (entry_in t j)

      go : Test (before r (entry_in t (suc j - 1))) → (Shifted c j r t₀ u → Put c r t₀ (placed j u r) (c + 1)) → Put c r t₀ (placed (suc j) t r) (c + 1)
      go (holds e) ih = rw (placed_below r t (suc j) (omega arith) e, z) (ih (rw z at (shifted_more S (omega arith) e (shifted_has S H))))
      go (fails e) ih = rw (placed_here r t (suc j) (λ h. e)) (inserted S (λ h. e) I (shifted_has S H) ne)

  pub placed_put : Put c r t₀ (placed c t₀ r) (c + 1)
  placed_put = from_place c t₀ (shifted_none c r t₀)

pub put_nothing : (c : ℕ) (r : Run) (t : Lists) → r.period ≡ 0 → Put c r t t c
put_nothing c r t e = record { holds = sym (put_none r (entries t c) e); keeps = λ k h. refl }
