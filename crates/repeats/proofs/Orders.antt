-- The two orders of the letters: each run has one root, in one of them, and each place is a root in one of them at most.
use mathlib.Core.Path.{◌≡◌, ap, ◌∙◌}
use mathlib.Core.Logic.{◌⊎◌, inl, inr}
use Prim.Native.Nat.{ℕ, suc, ◌+◌, ◌-◌, ◌≤◌, ◌<◌}
use native.Mathlib.Omega.{arith}
use Rattle.suffix.proofs.Cases.{Tri, lt, eq, gt, tri}
use Rattle.suffix.proofs.Sequence.{Match, asym, less_trans, match_unique}
use Rattle.suffix.proofs.Edges.{NextAt}
use Rattle.repeats.proofs.Periods.{Ends, PeriodIn, RunOf, Left, RootOf, root_last, told}
use Rattle.repeats.proofs.Rotations.{Found, complete}

-- two sequences whose first n letters are equal at the same places
pub record SamePattern (f g : ℕ → ℕ) (n : ℕ) : Type 0 where
  pub to : (k l : ℕ) → k < n → l < n → f k ≡ f l → g k ≡ g l
  pub from : (k l : ℕ) → k < n → l < n → g k ≡ g l → f k ≡ f l

pub pattern_sym : {f g : ℕ → ℕ} {n : ℕ} → SamePattern f g n → SamePattern g f n
pattern_sym A = record { to = A.from; from = A.to }

pub pattern_trans : {f g h : ℕ → ℕ} {n : ℕ} → SamePattern f g n → SamePattern g h n → SamePattern f h n
pattern_trans A B = record { to = λ k l a b e. B.to k l a b (A.to k l a b e); from = λ k l a b e. A.from k l a b (B.from k l a b e) }

pub pattern_left : {f g : ℕ → ℕ} {n i j c x : ℕ} → SamePattern f g n → i ≤ j → j ≤ n → Left f i j c x → Left g i j c x
pattern_left {i = i} {j} {c} {x} A h fits L =
    record {
      most = L.most;
      room = L.room;
      same = λ k a. A.to (i - suc k) (j - suc k) (omega (arith, L.room)) (omega (arith, L.room)) (L.same k a);
      stop = λ a b e. L.stop a b (A.from (i - suc x) (j - suc x) (omega arith) (omega arith) e);
    }

pattern_period : {f g : ℕ → ℕ} {n s e p : ℕ} → SamePattern f g n → e ≤ n → PeriodIn f s e p → PeriodIn g s e p
pattern_period {p = p} A h P = record { on = λ t a b. A.to t (t + p) (omega arith) (omega arith) (P.on t a b) }

pub pattern_run : {f g : ℕ → ℕ} {n s e p : ℕ} → SamePattern f g n → RunOf f n s e p → RunOf g n s e p
pattern_run {n = n} {s} {e} {p} A r =
    record {
      pos = r.pos;
      long = r.long;
      fits = r.fits;
      same = pattern_period A r.fits r.same;
      least = λ q a b P. r.least q a b (pattern_period (pattern_sym A) r.fits P);
      left = λ h q. r.left h (A.from (s - 1) (s - 1 + p) (omega (arith, r.long, r.fits, r.pos)) (omega (arith, r.long, r.fits, r.pos)) q);
      right = λ h q. r.right h (A.from e (e - p) h (omega (arith, r.long, r.fits, r.pos)) q);
    }

-- the orders of f and of g are reverse to one another; the end is below all letters in both
pub record Reverse (f g : ℕ → ℕ) (n c : ℕ) : Type 0 where
  pub ends : Ends f n
  pub ends' : Ends g n
  pub sum : (k : ℕ) → k < n → f k + g k ≡ c

pub reverse_pattern : {f g : ℕ → ℕ} {n c : ℕ} → Reverse f g n c → SamePattern f g n
reverse_pattern Q =
    record {
      to = λ k l a b e. omega (arith, Q.sum k a, Q.sum l b);
      from = λ k l a b e. omega (arith, Q.sum k a, Q.sum l b);
    }

module _ (f g : ℕ → ℕ) {n c : ℕ} (Q : Reverse f g n c) where
  -- a run has a root in one of them: in the second it ends before n
  pub complete_in : {s e p : ℕ} → RunOf f n s e p → Found f s e p ⊎ ((e < n) × Found g s e p)
  complete_in {s} {e} {p} r = go (tri (f e) (f (e - p)))
    where
      back : 0 < f (e - p)
      back = Q.ends.inn (e - p) (omega (arith, r.long, r.fits, r.pos))

      inside : f (e - p) ≤ f e → e < n
      inside h = go (tri e n)
        where
          go : Tri e n → e < n
          go (lt w) = w
          go (eq w) = absurd (omega (arith, back, Q.ends.out e (omega arith)))
          go (gt w) = absurd (omega (arith, r.fits))

      go : Tri (f e) (f (e - p)) → Found f s e p ⊎ ((e < n) × Found g s e p)
      go (lt w) = inl (complete f r w)
      go (eq w) = absurd (r.right (inside (omega arith)) w)
      go (gt w) =
          let h : e < n = inside (omega arith) in
          inr (h, complete g (pattern_run (reverse_pattern Q) r) (omega (arith, Q.sum e h, Q.sum (e - p) (omega arith))))

  -- a run has its roots in one order only
  pub order_once : {i j m x k l w z : ℕ} → RootOf f n i j m x → RootOf g n k l w z → l + w < n → j + m ≡ l + w → j - i ≡ l - k → ⊥
  order_once {i} {j} {m} {x} {k} {l} {w} a b h e q =
      omega (
        arith,
        told f a,
        told g b,
        Q.sum (j + m) (omega arith),
        Q.sum (i + m) (omega (arith, a.next.after)),
        ap g e,
        ap g {x = i + m} {y = k + w} (omega (arith, a.next.after, b.next.after)),
      )

  -- a place is a root in one order only
  pub place_once : {i j m x k w z : ℕ} → RootOf f n i j m x → RootOf g n i k w z → k + w < n → ⊥
  place_once {i} {j} {m} {x} {k} {w} {z} a b h =
      omega (arith, told f a, told g b, Q.sum (k + w) h, Q.sum (i + w) (omega (arith, b.next.after)), ap f meet_high, ap f meet_low)
    where
      -- the letter before the place is that before next
      before : (h : ℕ → ℕ) {j m x : ℕ} → RootOf h n i j m x → h (i - 1) ≡ h (j - 1)
      before h r = r.left.same 0 r.one

      -- so it is not below that at the place, and above it where the root has two letters or more
      step : (h : ℕ → ℕ) {j m x : ℕ} → RootOf h n i j m x → Tri j (suc i) → (h i ≤ h (i - 1)) × (h i ≡ h (i - 1) → j ≡ suc i)
      step h r (lt v) = absurd (omega (arith, r.next.after))
      step h {j} r (eq v) = (omega (arith, before h r, ap h {x = j - 1} {y = i} (omega arith)), λ _. v)
      step h r (gt v) = (omega (arith, before h r, root_last h r.next v), λ e. absurd (omega (arith, before h r, root_last h r.next v)))

      F : (f i ≤ f (i - 1)) × (f i ≡ f (i - 1) → j ≡ suc i)
      F = step f a (tri j (suc i))

      G : (g i ≤ g (i - 1)) × (g i ≡ g (i - 1) → k ≡ suc i)
      G = step g b (tri k (suc i))

      at : f i + g i ≡ c
      at = Q.sum i (omega (arith, b.next.after))

      at' : f (i - 1) + g (i - 1) ≡ c
      at' = Q.sum (i - 1) (omega (arith, b.next.after))

      one : j ≡ suc i
      one = F.1 (omega (arith, F.0, G.0, at, at'))

      two : k ≡ suc i
      two = G.1 (omega (arith, F.0, G.0, at, at'))

      other : Match f i j w
      other =
          record {
            same = record { on = λ t u. (reverse_pattern Q).from (i + t) (k + t) (omega (arith, b.next.after)) (omega arith) (b.match.same.on t u) ∙ ap f (omega (arith, one, two)) };
            differ = λ e. b.match.differ ((reverse_pattern Q).to (i + w) (k + w) (omega (arith, b.next.after)) h (e ∙ ap f (omega (arith, one, two))));
          }

      meet : m ≡ w
      meet = match_unique f a.match other

      meet_high : j + m ≡ k + w
      meet_high = omega (arith, one, two, meet)

      meet_low : i + m ≡ i + w
      meet_low = omega (arith, meet)

-- in one order two roots of one run are one place
pub same_place : (f : ℕ → ℕ) {n i j m x k l w z : ℕ} → RootOf f n i j m x → RootOf f n k l w z → i - x ≡ k - z → j - i ≡ l - k → i ≡ k
same_place f {n} {i} {j} {m} {x} {k} {l} {w} {z} a b e q = go (tri i k)
  where
    cross : {s t u v : ℕ} → NextAt f s u → NextAt f t v → s < t → t < u → u < v → ⊥
    cross {s} {t} {u} {v} p r h h' h'' = asym f p.smaller (less_trans f (p.nearest t h h') (r.nearest u h' h''))

    go : Tri i k → i ≡ k
    go (lt h) = absurd (cross a.next b.next h (omega (arith, a.next.after, a.one, b.uncut, a.left.room, b.left.room)) (omega (arith, a.next.after, b.next.after)))
    go (eq h) = h
    go (gt h) = absurd (cross b.next a.next h (omega (arith, b.next.after, b.one, a.uncut, a.left.room, b.left.room)) (omega (arith, a.next.after, b.next.after)))
