-- Reading the brackets from left to right, with the previous entries as the stack of what is open.
use mathlib.Core.Path.{◌≡◌, refl, sym, ap, ◌∙◌}
use mathlib.Core.Logic.{◌≢◌}
use mathlib.Core.Bool.{Bool, true, false, true≢false}
use mathlib.Core.List.{List}
use Prim.Native.Nat.{ℕ, suc, ◌*◌, ◌≤◌, ◌<◌}
use native.Mathlib.Omega.{arith}
use lib.ListN.{length, get_or, set, length-set}
use lib.Seq.{get_or-set_same, get_or-set_other}
use Rattle.suffix.proofs.Cases.{Tri, lt, eq, gt, tri, Same, same, other, same?}
use Rattle.shape.proofs.Heights.{opened, Above, opened_none, opens, shuts, opened_grows, opening, opening_one, Opening, ClosedAt, Encloses, Enclosed, by, root, Entry}

-- no first bits of the m hold more closings than openings, and all are closed
pub record Balanced (g : ℕ → Bool) (m : ℕ) : Type 0 where
  pub above : (k : ℕ) → k ≤ m → k ≤ 2 * opened g k
  pub closed : m ≡ 2 * opened g m

module _ (g : ℕ → Bool) (n : ℕ) where
  -- of the opening at w, before bit k: it is still open, or its next entry is written
  data NextAt (next : List ℕ) (w k : ℕ) : Type 0 where
    open_yet : ((j : ℕ) → w < j → j ≤ k → Above g (suc w) 0 j) → NextAt next w k
    written : (c : ℕ) → ClosedAt g w c → get_or next (opened g w) 0 ≡ opened g c → NextAt next w k

  -- k bits are read; top is the last position that is open
  pub record Reading (k top : ℕ) (prev next : List ℕ) : Type 0 where
    pub within : k ≤ 2 * n
    pub prev_long : length prev ≡ n
    pub next_long : length next ≡ n
    pub top_is : Enclosed g n k top
    prevs : (w : ℕ) → w < k → g w ≡ true → Enclosed g n w (get_or prev (opened g w) 0)
    nexts : (w : ℕ) → w < k → g w ≡ true → NextAt next w k

  pub reading_start : (prev next : List ℕ) → length prev ≡ n → length next ≡ n → Reading 0 n prev next
  reading_start prev next p x =
      record {
        within = omega arith;
        prev_long = p;
        next_long = x;
        top_is = root refl (λ j h. (let z : j ≡ 0 = omega arith in rw z (omega arith)));
        prevs = λ w h e. absurd (omega arith);
        nexts = λ w h e. absurd (omega arith);
      }

  module _ (B : Balanced g (2 * n)) {k top : ℕ} {prev next : List ℕ} (R : Reading k top prev next) (more : k < 2 * n) where
    n_is : opened g (2 * n) ≡ n
    n_is = omega (arith, B.closed)

    pub opened_le : opened g k ≤ n
    opened_le = omega (arith, n_is, opened_grows g k (2 * n) (omega arith))

    earlier : (w : ℕ) → w < k → g w ≡ true → opened g w < opened g k
    earlier w h e = omega (arith, opens g w e, opened_grows g (suc w) k h)

    -- an opening
    module _ (e : g k ≡ true) where
      pub opened_lt : opened g k < n
      opened_lt = omega (arith, opens g k e, n_is, opened_grows g (suc k) (2 * n) more)

      pub read_open : Reading (suc k) (opened g k) (set prev (opened g k) top) next
      read_open =
          record {
            within = more;
            prev_long = length-set prev (opened g k) top ∙ R.prev_long;
            next_long = R.next_long;
            top_is =
                by k refl
                (record {
                  before = omega arith;
                  is_open = e;
                  within = λ j h l. (let z : j ≡ suc k = omega arith in rw z (omega arith));
                  opens_it = omega (arith, opens g k e);
                });
            prevs = λ w h o. prevs w h o (same? w k);
            nexts = λ w h o. nexts w h o (same? w k);
          }
        where
          prevs : (w : ℕ) → w < suc k → g w ≡ true → Same w k → Enclosed g n w (get_or (set prev (opened g k) top) (opened g w) 0)
          prevs w h o (same z) = rw (z, get_or-set_same prev (opened g k) top 0 (omega (arith, opened_lt, R.prev_long))) R.top_is
          prevs w h o (other z) = rw (get_or-set_other prev (opened g k) (opened g w) top 0 (omega (arith, earlier w (omega arith) o))) (R.prevs w (omega arith) o)

          nexts : (w : ℕ) → w < suc k → g w ≡ true → Same w k → NextAt next w (suc k)
          nexts w h o (same z) = open_yet (λ j a b. (let y : j ≡ suc w = omega arith in rw y (omega arith)))
          nexts w h o (other z) = go (R.nexts w (omega arith) o)
            where
              go : NextAt next w k → NextAt next w (suc k)
              go (written c C q) = written c C q
              go (open_yet f) = open_yet (λ j a b. pick j a b (same? j (suc k)))
                where
                  pick : (j : ℕ) → w < j → j ≤ suc k → Same j (suc k) → Above g (suc w) 0 j
                  pick j a b (same y) = rw y (omega (arith, f k (omega arith) (omega arith), opens g k e))
                  pick j a b (other y) = f j a (omega arith)

    -- a closing: something is open, and it is closed
    module _ (e : g k ≡ false) where
      last_open : (w : ℕ) × ((top ≡ opened g w) × Encloses g w k)
      last_open = go R.top_is
        where
          go : Enclosed g n k top → (w : ℕ) × ((top ≡ opened g w) × Encloses g w k)
          go (by w q E) = (w, (q, E))
          go (root q f) = absurd (omega (arith, opened_none g, f 0 (omega arith), B.above (suc k) more, shuts g k e))

      w : ℕ
      w = last_open.0

      T : top ≡ opened g w
      unfolding w
      T = last_open.1.0

      E : Encloses g w k
      unfolding w
      E = last_open.1.1

      pub top_lt : top < n
      top_lt = omega (arith, T, E.before, earlier w E.before E.is_open, opened_le)

      ow : opened g (suc w) ≡ suc (opened g w)
      ow = opens g w E.is_open

      closes_here : ClosedAt g w (suc k)
      closes_here =
          record {
            after = omega (arith, E.before);
            within = λ j a b. omega (arith, E.within j a (omega arith), E.opens_it, ow);
            closes = omega (arith, E.opens_it, ow, shuts g k e);
          }

      pub read_close : Reading (suc k) (get_or prev top 0) prev (set next top (opened g k))
      read_close =
          record {
            within = more;
            prev_long = R.prev_long;
            next_long = length-set next top (opened g k) ∙ R.next_long;
            top_is = rw T (around (R.prevs w E.before E.is_open));
            prevs = λ v h o. R.prevs v (inside v h o) o;
            nexts = λ v h o. nexts v (inside v h o) o (same? v w);
          }
        where
          inside : (v : ℕ) → v < suc k → g v ≡ true → v < k
          inside v h o = pick (same? v k)
            where
              pick : Same v k → v < k
              pick (same z) = absurd (true≢false (sym (rw z at o) ∙ e))
              pick (other z) = omega arith

          -- between w and here all is closed: the next bit stands as high as w, and what encloses w encloses it
          past : (j : ℕ) → j ≤ suc k → (j ≤ w → Above g w 0 j) → Above g (suc k) 0 j
          past j b f = go (tri j w) (same? j (suc k))
            where
              go : Tri j w → Same j (suc k) → Above g (suc k) 0 j
              go t (same z) = rw z (omega arith)
              go (lt u) (other z) = omega (arith, f (omega arith), closes_here.closes, ow)
              go (eq u) (other z) = omega (arith, f (omega arith), closes_here.closes, ow)
              go (gt u) (other z) = omega (arith, closes_here.within j u (omega arith), closes_here.closes, ow)

          around : {v : ℕ} → Enclosed g n w v → Enclosed g n (suc k) v
          around (root q f) = root q (λ j b. past j b (λ u. f j u))
          around (by x q X) =
              by x q
              (record {
                before = omega (arith, X.before, E.before);
                is_open = X.is_open;
                within = λ j a b. past j b (λ u. X.within j a u);
                opens_it = omega (arith, X.opens_it, closes_here.closes, ow);
              })

          nexts : (v : ℕ) → v < k → g v ≡ true → Same v w → NextAt (set next top (opened g k)) v (suc k)
          nexts v h o (same z) =
              rw z
              (written (suc k) closes_here
              (ap (λ x. get_or (set next top (opened g k)) x 0) (sym T) ∙ get_or-set_same next top (opened g k) 0 (omega (arith, top_lt, R.next_long)) ∙ sym (shuts g k e)))
          nexts v h o (other z) = go (R.nexts v h o)
            where
              apart : opened g v ≢ top
              apart q = z (opening_one g o E.is_open (q ∙ T))

              go : NextAt next v k → NextAt (set next top (opened g k)) v (suc k)
              go (written c C q) = written c C (get_or-set_other next top (opened g v) (opened g k) 0 apart ∙ q)
              go (open_yet f) = open_yet (λ j a b. pick j a b (same? j (suc k)))
                where
                  -- v is not the last that is open: it stays open
                  stays : Tri v w → Above g (suc v) 0 (suc k)
                  stays (lt u) = omega (arith, f w u (omega (arith, E.before)), closes_here.closes, ow)
                  stays (eq u) = absurd (z u)
                  stays (gt u) = absurd (omega (arith, f k h (omega arith), E.within v u (omega arith), opens g v o))

                  pick : (j : ℕ) → v < j → j ≤ suc k → Same j (suc k) → Above g (suc v) 0 j
                  pick j a b (same y) = rw y (stays (tri v w))
                  pick j a b (other y) = f j a (omega arith)

  -- all bits are read: each position has its two entries
  pub reading_end : Balanced g (2 * n) → {top : ℕ} {prev next : List ℕ} → Reading (2 * n) top prev next → (i : ℕ) → i < n → Entry g (2 * n) n i (get_or prev i 0) (get_or next i 0)
  reading_end B {top} {prev} {next} R i h = go (opening g (2 * n) i (omega (arith, B.closed)))
    where
      go : (w : ℕ) × Opening g (2 * n) i w → Entry g (2 * n) n i (get_or prev i 0) (get_or next i 0)
      go O = shut (R.nexts w O.1.below O.1.is_open)
        where
          w : ℕ
          w = O.0

          shut : NextAt next w (2 * n) → Entry g (2 * n) n i (get_or prev i 0) (get_or next i 0)
          shut (open_yet f) = absurd (omega (arith, f (2 * n) O.1.below (omega arith), B.closed, B.above w (omega (arith, O.1.below)), opens g w O.1.is_open))
          shut (written c C q) =
              record {
                place = w;
                opening = O.1;
                enclosed = rw O.1.number at (R.prevs w O.1.below O.1.is_open);
                close = c;
                closed = C;
                end = rw O.1.number at q;
              }
