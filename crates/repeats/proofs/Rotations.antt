-- A run has a root: the smallest of the rotations of its word.
use mathlib.Core.Path.{◌≡◌, sym, ap, ◌∙◌}
use Prim.Native.Nat.{ℕ, zero, suc, ◌+◌, ◌-◌, ◌%◌, ◌≤◌, ◌<◌}
use native.Mathlib.Omega.{arith}
use native.Mathlib.Nat.{add-mod_right, mod-eq_of_lt}
use Rattle.suffix.proofs.Cases.{Tri, lt, eq, gt, tri, Same, same, other, same?}
use Rattle.suffix.proofs.Sequence.{Less, agree_sym, less_match}
use Rattle.suffix.proofs.Edges.{NextAt, unbordered}
use Rattle.suffix.proofs.Periodic.{Period, Smallest, smallest, smallest_alike, alike_sym, shift, around, smallest_edge}
use Rattle.repeats.proofs.Periods.{RunOf, run_agree}

-- the root of a run
pub record Found (f : ℕ → ℕ) (s e p : ℕ) : Type 0 where
  pub place : ℕ
  pub above : s < place
  pub upto : place ≤ s + p
  pub next : NextAt f place (place + p)

module _ (f : ℕ → ℕ) {n s e p : ℕ} (r : RunOf f n s e p) (down : f e < f (e - p)) where
  f_same : (x y : ℕ) → x ≡ y → f x ≡ f y
  f_same x y e = ap f e

  -- the word of the run, repeated without end
  F : ℕ → ℕ
  F k = f (s + k % p)

  F_period : Period F p
  unfolding F
  F_period = record { some = r.pos; again = λ k. rw (add-mod_right k p) }

  F_run : (fuel k : ℕ) → k < fuel → s + k < e → F k ≡ f (s + k)
  unfolding F
  F_run zero k a b = absurd (omega arith)
  F_run (suc t) k a b = go (tri k p) (λ x u v. F_run t x u v)
    where
      far : p ≤ k → ((x : ℕ) → x < t → s + x < e → F x ≡ f (s + x)) → F k ≡ f (s + k)
      far w ih =
          let z : k ≡ k - p + p = omega arith in
          ap F z
          ∙ F_period.again (k - p)
          ∙ ih (k - p) (omega (arith, r.pos)) (omega arith)
          ∙ r.same.on (s + (k - p)) (omega arith) (omega arith)
          ∙ f_same (s + (k - p) + p) (s + k) (omega arith)

      go : Tri k p → ((x : ℕ) → x < t → s + x < e → F x ≡ f (s + x)) → F k ≡ f (s + k)
      go (lt w) ih = rw (mod-eq_of_lt w)
      go (eq w) ih = far (omega arith) ih
      go (gt w) ih = far (omega arith) ih

  F_at : (k : ℕ) → s + k < e → F k ≡ f (s + k)
  F_at k h = F_run (suc k) k (omega arith) h

  F_least : (q : ℕ) → q < p → Period F q → ⊥
  F_least q b P =
      r.least q P.some b
      (record {
        on = λ t u v.
            f_same t (s + (t - s)) (omega arith)
            ∙ sym (F_at (t - s) (omega arith))
            ∙ sym (P.again (t - s))
            ∙ F_at (t - s + q) (omega arith)
            ∙ f_same (s + (t - s + q)) (t + q) (omega arith);
      })

  -- one of its rotations 1 to p
  root : (i : ℕ) × ((0 < i) × ((i ≤ p) × Smallest F i))
  root = let c = smallest F F_period in go c.0 c.1.0 c.1.1 (same? c.0 0)
    where
      go : (i : ℕ) → i < p → Smallest F i → Same i 0 → (i : ℕ) × ((0 < i) × ((i ≤ p) × Smallest F i))
      go i h S (same e) = let z : i + p ≡ p = omega arith in (p, (r.pos, (omega arith, rw z at (smallest_alike F (alike_sym F (shift F F_period i)) S))))
      go i h S (other e) = (i, (omega arith, (omega arith, S)))

  -- a run has a root at one of its places
  pub complete : Found f s e p
  complete =
      record {
        place = s + i;
        above = omega (arith, root.1.0);
        upto = omega (arith, high);
        next =
            record {
              after = omega (arith, r.pos);
              smaller = record { at = m; same = agree_sym f (run_agree f r (s + i) (omega arith) (omega (arith, high, r.long))); less = omega (arith, drop) };
              nearest = near;
            };
      }
    where
      i : ℕ
      i = root.0

      high : i ≤ p
      high = root.1.1.0

      S : Smallest F i
      S = root.1.1.1

      m : ℕ
      m = e - p - (s + i)

      size : m + (s + i) + p ≡ e
      size = omega (arith, high, r.long)

      drop : f (s + i + p + m) < f (s + i + m)
      drop = omega (arith, down, f_same (s + i + p + m) e (omega (arith, size)), f_same (s + i + m) (e - p) (omega (arith, size)))

      near : (k : ℕ) → s + i < k → k < s + i + p → Less f (s + i) k
      near k a b =
          let g : Less F i (k - s) = around F F_period F_least S (k - s) (omega arith) (omega arith) in
          let w : k - s + g.at < i + p = unbordered F (smallest_edge F F_period F_least S) (omega arith) (omega arith) (less_match F g) in
          record {
            at = g.at;
            same =
                record {
                  on = λ x h.
                      f_same (s + i + x) (s + (i + x)) (omega arith)
                      ∙ sym (F_at (i + x) (omega (arith, size)))
                      ∙ g.same.on x h
                      ∙ F_at (k - s + x) (omega (arith, size))
                      ∙ f_same (s + (k - s + x)) (k + x) (omega arith);
                };
            less =
                omega (
                  arith,
                  g.less,
                  F_at (i + g.at) (omega (arith, size)),
                  F_at (k - s + g.at) (omega (arith, size)),
                  f_same (s + i + g.at) (s + (i + g.at)) (omega arith),
                  f_same (s + (k - s + g.at)) (k + g.at) (omega arith),
                );
          }
