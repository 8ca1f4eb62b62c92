-- What the steps take from an earlier pair: document 004, section 5.
use mathlib.Core.Path.{◌≡◌, sym, ap, ◌∙◌}
use Prim.Native.Nat.{ℕ, ◌+◌, ◌-◌, ◌≤◌, ◌<◌}
use native.Mathlib.Omega.{arith}
use Rattle.suffix.proofs.Cases.{le_unless}
use Rattle.suffix.proofs.Sequence.{Agree, Less, Match, agree_sym, agree_trans, agree_cut, asym, match_sym, less_match, match_letter}
use Rattle.suffix.proofs.Edges.{Edge, unbordered}

module _ (f : ℕ → ℕ) where
  -- of two suffixes above that at r, the larger shares no more with it
  pub shares_no_more : {k h r m x : ℕ} → Less f r k → Less f k h → Match f k r m → Agree f h r x → x ≤ m
  shares_no_more {k} {h} {r} {m} {x} s g a b =
      le_unless x m
      (λ w.
      asym f g
      (record {
        at = m;
        same = agree_trans f (agree_cut f m (omega arith) b) (agree_sym f a.same);
        less = omega (arith, b.on m w, match_letter f (match_sym f a) s);
      }))

  -- from lo up to c the letters repeat at distance d
  pub record Window (lo c d : ℕ) : Type 0 where
    pub room : d ≤ lo
    pub back : (x : ℕ) → lo ≤ x → x < c → f (x - d) ≡ f x

  module _ {lo c d : ℕ} (W : Window lo c d) where
    shift : (i k : ℕ) → lo ≤ i → i + k < c → f (i - d + k) ≡ f (i + k)
    shift i k a b = ap f {x = i - d + k} {y = i + k - d} (omega (arith, W.room)) ∙ W.back (i + k) (omega arith) b

    less_shift : {i j : ℕ} → lo ≤ i → lo ≤ j → (p : Less f i j) → i + p.at < c → j + p.at < c → Less f (i - d) (j - d)
    less_shift {i} {j} a b p x y =
        record {
          at = p.at;
          same = record { on = λ k h. shift i k a (omega arith) ∙ p.same.on k h ∙ sym (shift j k b (omega arith)) };
          less = omega (arith, p.less, shift i p.at a x, shift j p.at b y);
        }

    agree_back : {i j m : ℕ} → lo ≤ i → lo ≤ j → Agree f (i - d) (j - d) m → i + m ≤ c → j + m ≤ c → Agree f i j m
    agree_back {i} {j} {m} a b q g h = record { on = λ k w. sym (shift i k a (omega arith)) ∙ q.on k w ∙ shift j k b (omega arith) }

    pub less_back : {i j : ℕ} → lo ≤ i → lo ≤ j → (p : Less f (i - d) (j - d)) → i + p.at < c → j + p.at < c → Less f i j
    less_back {i} {j} a b p x y =
        record {
          at = p.at;
          same = agree_back a b p.same (omega arith) (omega arith);
          less = omega (arith, p.less, shift i p.at a x, shift j p.at b y);
        }

    -- the match at distance d, where it ends inside the window
    pub match_back : {l r v : ℕ} → lo ≤ l → l < r → r + v < c → Match f (l - d) (r - d) v → Match f l r v
    match_back {l} {r} {v} a b g q =
        record {
          same = agree_back a (omega arith) q.same (omega arith) (omega arith);
          differ = λ e. q.differ (shift l v a (omega arith) ∙ e ∙ sym (shift r v (omega arith) g));
        }

    -- and where it does not, as far as the window goes
    pub match_to_end : {l r v : ℕ} → lo ≤ l → l < r → r < c → c ≤ r + v → Match f (l - d) (r - d) v → Agree f l r (c - r)
    match_to_end {l} {r} a b h g q = agree_back a (omega arith) (agree_cut f (c - r) (omega arith) q.same) (omega arith) (omega arith)

    -- property (ii): the pair at distance d is an edge too
    pub edge_shift : {l r : ℕ} → lo ≤ l → r < c → (e : Edge f l r) → ((h : ℕ) (a : l < h) (b : h < r) → r + (e.right h a b).at < c) → Edge f (l - d) (r - d)
    edge_shift {l} {r} a b e g =
        record { before = omega (arith, e.before, W.room); left = left; right = right }
      where
        left : (k : ℕ) → l - d < k → k < r - d → Less f (l - d) k
        left k x y =
            let p : Less f l (k + d) = e.left (k + d) (omega arith) (omega arith) in
            let t : k + d + p.at < r = unbordered f e (omega arith) (omega arith) (less_match f p) in
            let z : k + d - d ≡ k = omega arith in
            rw z at (less_shift a (omega (arith, W.room)) p (omega arith) (omega arith))

        right : (k : ℕ) → l - d < k → k < r - d → Less f (r - d) k
        right k x y =
            let p : Less f r (k + d) = e.right (k + d) (omega arith) (omega arith) in
            let t : r + p.at < c = g (k + d) (omega arith) (omega arith) in
            let z : k + d - d ≡ k = omega arith in
            rw z at (less_shift (omega (arith, W.room)) (omega (arith, W.room)) p (omega arith) (omega arith))
