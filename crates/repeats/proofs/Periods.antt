-- Runs of an endless sequence f, and what a root of it reports.
use mathlib.Core.Path.{◌≡◌, sym, ap, ◌∙◌}
use mathlib.Core.Logic.{◌≢◌}
use Prim.Native.Nat.{ℕ, suc, ◌+◌, ◌-◌, ◌≤◌, ◌<◌}
use native.Mathlib.Omega.{arith}
use Rattle.suffix.proofs.Cases.{Tri, lt, eq, gt, tri, le_unless}
use Rattle.suffix.proofs.Sequence.{Agree, Less, Match, match_sym, match_letter, less_match}
use Rattle.suffix.proofs.Edges.{NextAt, next_edge, unbordered}

module _ (f : ℕ → ℕ) where
  -- letters before n, none from n on
  pub record Ends (n : ℕ) : Type 0 where
    pub inn : (k : ℕ) → k < n → 0 < f k
    pub out : (k : ℕ) → n ≤ k → f k ≡ 0

  -- letters p apart inside [s, e) are equal
  pub record PeriodIn (s e p : ℕ) : Type 0 where
    pub on : (t : ℕ) → s ≤ t → t + p < e → f t ≡ f (t + p)

  -- a run of n letters: start, end (exclusive), period
  pub record RunOf (n s e p : ℕ) : Type 0 where
    pub pos : 0 < p
    pub long : s + p + p ≤ e
    pub fits : e ≤ n
    pub same : PeriodIn s e p
    pub least : (q : ℕ) → 0 < q → q < p → PeriodIn s e q → ⊥
    pub left : 0 < s → f (s - 1) ≢ f (s - 1 + p)
    pub right : e < n → f e ≢ f (e - p)

  -- x letters before i and before j agree, as many as there are, but no more than c
  pub record Left (i j c x : ℕ) : Type 0 where
    pub most : x ≤ c
    pub room : x ≤ i
    pub same : (k : ℕ) → k < x → f (i - suc k) ≡ f (j - suc k)
    pub stop : x < c → x < i → f (i - suc x) ≢ f (j - suc x)

  pub left_unique : {i j c x z : ℕ} → Left i j c x → Left i j c z → x ≡ z
  left_unique {i} {j} {c} {x} {z} a b = go (tri x z)
    where
      go : Tri x z → x ≡ z
      go (lt h) = absurd (a.stop (omega (arith, b.most)) (omega (arith, b.room)) (b.same x h))
      go (eq h) = h
      go (gt h) = absurd (b.stop (omega (arith, a.most)) (omega (arith, a.room)) (a.same z h))

  -- what is asked of a place i, with next j, match m and left part x, before it reports the run (i - x, j + m, j - i)
  pub record RootOf (n i j m x : ℕ) : Type 0 where
    pub next : NextAt f i j
    pub inn : j ≤ n
    pub match : Match f i j m
    pub left : Left i j (suc (j - i)) x
    pub one : 0 < x
    pub uncut : x ≤ j - i
    pub twice : j - i ≤ x + m

  at_same : (x y : ℕ) → x ≡ y → f x ≡ f y
  at_same x y e = ap f e

  -- a root has no shorter period
  root_least : {i j : ℕ} → NextAt f i j → (q : ℕ) → 0 < q → q < j - i → PeriodIn i j q → ⊥
  root_least {i} {j} N q a b P =
      let s : Less f i (i + q) = N.nearest (i + q) (omega arith) (omega arith) in
      let w : i + q + s.at < j = unbordered f (next_edge f N) (omega arith) (omega arith) (less_match f s) in
      omega (arith, s.less, P.on (i + s.at) (omega arith) (omega arith), at_same (i + s.at + q) (i + q + s.at) (omega arith))

  -- the last letter of a root of two letters or more is above the first
  pub root_last : {i j : ℕ} → NextAt f i j → suc i < j → f i < f (j - 1)
  root_last {i} {j} N h =
      let s : Less f i (j - 1) = N.nearest (j - 1) (omega arith) (omega arith) in
      let w : j - 1 + s.at < j = unbordered f (next_edge f N) (omega arith) (omega arith) (less_match f s) in
      omega (arith, s.less, at_same (i + s.at) i (omega arith), at_same (j - 1 + s.at) (j - 1) (omega arith))

  match_fits : {n i j m : ℕ} → Ends n → i < j → j ≤ n → Agree f i j m → j + m ≤ n
  match_fits {n} {i} {j} {m} E a b q =
      le_unless (j + m) n
      (λ w. omega (arith, q.on (n - j) (omega arith), E.inn (i + (n - j)) (omega arith), E.out (j + (n - j)) (omega arith)))

  -- from a place of a run, the letters agree with those a period on up to its end, and not further
  pub run_agree : {n s e p : ℕ} → RunOf n s e p → (i : ℕ) → s ≤ i → i + p ≤ e → Agree f i (i + p) (e - p - i)
  run_agree {p = p} r i a b = record { on = λ k h. r.same.on (i + k) (omega arith) (omega arith) ∙ at_same (i + k + p) (i + p + k) (omega arith) }

  pub run_match : {n s e p : ℕ} → Ends n → RunOf n s e p → (i : ℕ) → s ≤ i → i + p ≤ e → Match f i (i + p) (e - p - i)
  run_match {n} {s} {e} {p} E r i a b = record { same = run_agree r i a b; differ = λ q. differ (tri e n) (at_same (e - p) (i + (e - p - i)) (omega arith) ∙ q ∙ at_same (i + p + (e - p - i)) e (omega arith)) }
    where
      differ : Tri e n → f (e - p) ≡ f e → ⊥
      differ (lt h) q = r.right h (sym q)
      differ (eq h) q = omega (arith, E.inn (e - p) (omega (arith, r.pos)), E.out e (omega arith))
      differ (gt h) q = omega (arith, r.fits)

  -- before a place of its first period, they agree back to its start, and not further
  pub run_left : {n s e p : ℕ} → RunOf n s e p → (i : ℕ) → s < i → i ≤ s + p → Left i (i + p) (suc p) (i - s)
  run_left {n} {s} {e} {p} r i a b =
      record {
        most = omega arith;
        room = omega arith;
        same = λ k h. r.same.on (i - suc k) (omega arith) (omega (arith, r.long)) ∙ at_same (i - suc k + p) (i + p - suc k) (omega arith);
        stop = λ u v q.
            r.left (omega arith) (at_same (s - 1) (i - suc (i - s)) (omega arith) ∙ q ∙ at_same (i + p - suc (i - s)) (s - 1 + p) (omega arith));
      }

  -- what a root reports is a run
  pub sound : {n i j m x : ℕ} → Ends n → RootOf n i j m x → RunOf n (i - x) (j + m) (j - i)
  sound {n} {i} {j} {m} {x} E r =
      record {
        pos = omega (arith, N.after);
        long = omega (arith, N.after, r.left.room, r.twice);
        fits = match_fits E N.after r.inn r.match.same;
        same = record { on = λ t a b. per t a b (tri t i) };
        least = λ q a b P. root_least N q a b (record { on = λ t u v. P.on t (omega arith) (omega arith) });
        left = λ h e.
            r.left.stop (omega (arith, r.uncut)) (omega arith)
            (at_same (i - suc x) (i - x - 1) (omega arith) ∙ e ∙ at_same (i - x - 1 + (j - i)) (j - suc x) (omega (arith, N.after)));
        right = λ h e. r.match.differ (at_same (i + m) (j + m - (j - i)) (omega (arith, N.after)) ∙ sym e);
      }
    where
      N : NextAt f i j
      N = r.next

      per : (t : ℕ) → i - x ≤ t → t + (j - i) < j + m → Tri t i → f t ≡ f (t + (j - i))
      per t a b (lt w) =
          at_same t (i - suc (i - suc t)) (omega arith)
          ∙ r.left.same (i - suc t) (omega (arith, r.left.room))
          ∙ at_same (j - suc (i - suc t)) (t + (j - i)) (omega (arith, N.after))
      per t a b (eq w) =
          at_same t (i + (t - i)) (omega arith) ∙ r.match.same.on (t - i) (omega (arith, N.after)) ∙ at_same (j + (t - i)) (t + (j - i)) (omega (arith, N.after))
      per t a b (gt w) =
          at_same t (i + (t - i)) (omega arith) ∙ r.match.same.on (t - i) (omega (arith, N.after)) ∙ at_same (j + (t - i)) (t + (j - i)) (omega (arith, N.after))

  -- the letter behind what a root reports is below the one a period before: the order is told by the run
  pub told : {n i j m x : ℕ} → RootOf n i j m x → f (j + m) < f (i + m)
  told r = match_letter f (match_sym f r.match) r.next.smaller
