-- The reports of the places, put in order one after the other, are the report; a place gives one at most, so there are fewer than letters.
use mathlib.Core.Path.{◌≡◌, refl, sym, ap, ◌∙◌}
use mathlib.Core.Logic.{◌≢◌, ◌⊎◌, inl, inr}
use mathlib.Core.Bool.{Bool, true, false, true≢false}
use mathlib.Core.List.Memᴰ
use mathlib.Core.List.{List, [], ◌∷◌, Memᴰ}
use Prim.Native.Nat.{ℕ, zero, suc, ◌-◌, ◌≤◌, ◌<◌, max}
use native.Mathlib.Omega.{arith}
use lib.ListN.{length, get_or}
use borrow.Author.Tests.{eq-eqb, ne_eqb}
use Rattle.suffix.proofs.Cases.{Tri, lt, eq, gt, tri, Same, same, other, same?, Test, holds, fails, test}
use Rattle.repeats.specs.Runs.{Run, IsRun, no_run}
use Rattle.repeats.specs.Report.{Before, earlier, shorter, Ordered, none, runs_after, runs}
use Rattle.repeats.specs.Roots.{AtMost, reports, accepted, reported}
use Rattle.repeats.specs.Gathered.{report_of, report_at, insert, put, gathered}
use Rattle.repeats.proofs.Ordering.{insert_length, Fresh, Inserted, inserted}
use Rattle.repeats.proofs.Listing.{same_run, lists_only}
use Rattle.repeats.proofs.Accepting.{accepts_told}
use Rattle.repeats.proofs.Roots.{Reporter, accepted_within, reported_run, run_reported, reported_once, one_order}

-- ---- one place after the other

pub put_none : (r : Run) (l : List Run) → r.period ≡ 0 → put r l ≡ l
unfolding put
put_none r l e = rw (eq-eqb r.period 0 e, put)

pub put_one : (r : Run) (l : List Run) → r.period ≢ 0 → put r l ≡ insert r l
unfolding put
put_one r l e = rw (ne_eqb r.period 0 e, put)

-- the two ways: place i reports in an order, or in none
pub data Gathers (top : ℕ) (y : List ℕ) (i : ℕ) (r : Run) : Type 0 where
  puts : (o : Bool) → accepted top y o i ≡ true → r ≡ reported top y o i → r.period ≢ 0 → Gathers top y i r
  leaves : accepted top y false i ≡ false → accepted top y true i ≡ false → r ≡ no_run → Gathers top y i r

pub gathers_how : (top : ℕ) (y : List ℕ) (i : ℕ) → Gathers top y i (report_at top y i)
unfolding report_at report_of accepted reported reports
gathers_how top y i = go (test (accepted top y false i)) (test (accepted top y true i))
  where
    long : (o : Bool) → accepted top y o i ≡ true → (reported top y o i).period ≢ 0
    long o e = let A = accepts_told y o i _ _ e in omega (arith, A.one, A.uncut)

    go : Test (accepted top y false i) → Test (accepted top y true i) → Gathers top y i (report_at top y i)
    go (holds e) t = rw (e, report_of) (puts false e refl (long false e))
    go (fails e) (holds q) = rw (e, q, report_of) (puts true q refl (long true q))
    go (fails e) (fails q) = rw (e, q, report_of) (leaves e q refl)

-- the runs reported by places below i
pub record Holds (top : ℕ) (y : List ℕ) (i : ℕ) (l : List Run) : Type 0 where
  pub ordered : Ordered l
  pub from : (r : Run) → Memᴰ r l → (a : Reporter top y r) × (a.place < i)
  pub to : (o : Bool) (k : ℕ) → k < i → accepted top y o k ≡ true → Memᴰ (reported top y o k) l

module _ {top : ℕ} {y : List ℕ} (B : AtMost top y) where
  reporter_run : {r : Run} → Reporter top y r → IsRun y r
  reporter_run a = rw a.says at (reported_run top y B a.reverse a.place a.ok)

  compare : (r q : Run) → IsRun y r → IsRun y q → r ≢ q → Before r q ⊎ Before q r
  compare r q a b n = go (tri r.start q.start) (tri r.period q.period)
    where
      go : Tri r.start q.start → Tri r.period q.period → Before r q ⊎ Before q r
      go (lt h) t = inl (earlier h)
      go (gt h) t = inr (earlier h)
      go (eq e) (lt h) = inl (shorter e h)
      go (eq e) (gt h) = inr (shorter (sym e) h)
      go (eq e) (eq h) = absurd (n (same_run y a b e h))

  module _ {i : ℕ} {l : List Run} (H : Holds top y i l) where
    pub fresh : (o : Bool) → accepted top y o i ≡ true → Fresh (reported top y o i) l
    fresh o ok q m =
        let F = H.from q m in
        compare (reported top y o i) q (reported_run top y B o i ok) (reporter_run F.0)
        (λ e. omega (arith, F.1, (reported_once top y B (record { reverse = o; place = i; ok = ok; says = e }) F.0).0))

    add : (o : Bool) → accepted top y o i ≡ true → Holds top y (suc i) (insert (reported top y o i) l)
    add o ok = record { ordered = I.ordered; from = λ q m. whence q (I.from q m); to = λ u k h e. there u k h e (same? k i) }
      where
        r : Run
        r = reported top y o i

        I : Inserted r l (insert r l)
        I = inserted r l H.ordered (fresh o ok)

        whence : (q : Run) → (q ≡ r) ⊎ Memᴰ q l → (a : Reporter top y q) × (a.place < suc i)
        whence q (inl e) = (record { reverse = o; place = i; ok = ok; says = sym e }, omega arith)
        whence q (inr m) = let F = H.from q m in (F.0, omega (arith, F.1))

        alone : (o u : Bool) → accepted top y o i ≡ true → accepted top y u i ≡ true → u ≡ o
        alone false false a b = refl
        alone true true a b = refl
        alone false true a b = absurd (true≢false (sym b ∙ one_order top y B i a))
        alone true false a b = absurd (true≢false (sym a ∙ one_order top y B i b))

        there : (u : Bool) (k : ℕ) → k < suc i → accepted top y u k ≡ true → Same k i → Memᴰ (reported top y u k) (insert r l)
        there u k h e (same w) = rw (w, alone o u ok (rw w at e)) I.new
        there u k h e (other w) = I.old (reported top y u k) (H.to u k (omega arith) e)

    skip : accepted top y false i ≡ false → accepted top y true i ≡ false → Holds top y (suc i) l
    skip a b = record { ordered = H.ordered; from = λ q m. let F = H.from q m in (F.0, omega (arith, F.1)); to = λ u k h e. there u k h e (same? k i) }
      where
        neither : (u : Bool) → accepted top y u i ≡ true → ⊥
        neither false e = true≢false (sym e ∙ a)
        neither true e = true≢false (sym e ∙ b)

        there : (u : Bool) (k : ℕ) → k < suc i → accepted top y u k ≡ true → Same k i → Memᴰ (reported top y u k) l
        there u k h e (same w) = absurd (neither u (rw w at e))
        there u k h e (other w) = H.to u k (omega arith) e

    step : {r : Run} → Gathers top y i r → Holds top y (suc i) (put r l)
    step {r} (puts o ok e p) = rw (put_one r l p, e) (add o ok)
    step {r} (leaves a b e) = rw (put_none r l (ap (λ (v : Run). v.period) e)) (skip a b)

  pub gathered_holds : (i : ℕ) → Holds top y i (gathered top y i)
  unfolding gathered
  gathered_holds zero = record { ordered = none; from = λ r m. absurd (Memᴰ.not-nil m); to = λ o k h e. absurd (omega arith) }
  gathered_holds (suc i) = step (gathered_holds i) (gathers_how top y i)

  pub gathered_is : gathered top y (length y) ≡ runs y
  gathered_is =
      lists_only y (gathered top y (length y))
      (record { runs_only = λ r m. reporter_run (H.from r m).0; every = λ r I. there (run_reported top y B r I); ordered = H.ordered })
    where
      H : Holds top y (length y) (gathered top y (length y))
      H = gathered_holds (length y)

      there : {r : Run} → Reporter top y r → Memᴰ r (gathered top y (length y))
      there a = Memᴰ.cast (sym a.says) (H.to a.reverse a.place (accepted_within top y a.reverse a.place a.ok).1 a.ok)

-- ---- fewer than letters

put_most : (r : Run) (l : List Run) → length (put r l) ≤ suc (length l)
put_most r l = go (same? r.period 0)
  where
    go : Same r.period 0 → length (put r l) ≤ suc (length l)
    go (same e) = rw (put_none r l e) (omega arith)
    go (other e) = rw (put_one r l e) (omega (arith, insert_length r l))

pub gathered_few : (top : ℕ) (y : List ℕ) (i : ℕ) → length (gathered top y (suc i)) ≤ i
unfolding gathered
gathered_few top y zero = go (gathers_how top y 0)
  where
    go : {r : Run} → Gathers top y 0 r → length (put r []) ≤ 0
    go (puts o ok e p) = absurd (omega (arith, accepted_within top y o 0 ok))
    go {r} (leaves a b e) = rw (put_none r [] (ap (λ (v : Run). v.period) e)) (omega arith)
gathered_few top y (suc i) = omega (arith, put_most (report_at top y (suc i)) (gathered top y (suc i)), gathered_few top y i)

-- the greatest rank
unfoldable greatest : List ℕ → ℕ
greatest [] = 0
greatest (x ∷ y) = max x (greatest y)

at_most : (y : List ℕ) (i : ℕ) → get_or y i 0 ≤ greatest y
unfolding greatest
at_most [] i = omega arith
at_most (x ∷ y) zero = omega arith
at_most (x ∷ y) (suc i) = omega (arith, at_most y i)

pub fewer_runs : (y : List ℕ) → 1 ≤ length y → length (runs y) < length y
fewer_runs y h =
    let n : suc (length y - 1) ≡ length y = omega arith in
    let g : length (gathered (greatest y) y (length y)) ≤ length y - 1 = rw n at (gathered_few (greatest y) y (length y - 1)) in
    omega (arith, ap length (gathered_is {top = greatest y} {y = y} (record { at = λ i w. at_most y i })))

pub runs_most : (y : List ℕ) → length (runs y) ≤ length y - 1
unfolding runs runs_after
runs_most y = go (same? (length y) 0)
  where
    go : Same (length y) 0 → length (runs y) ≤ length y - 1
    go (same z) = omega (arith, ap (λ t. length (runs_after y 0 t)) z)
    go (other z) = omega (arith, fewer_runs y (omega arith))
