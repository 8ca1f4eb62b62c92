-- What holds on the way through row r, and that what steps 3 and 4 write keeps it.
use mathlib.Core.Path.{◌≡◌, sym, ◌∙◌}
use mathlib.Core.Logic.{◌≢◌}
use mathlib.Core.Bool.{Bool}
use mathlib.Core.List.{List}
use Prim.Native.Nat.{ℕ, suc, ◌+◌, ◌≤◌, ◌<◌}
use native.Mathlib.Omega.{arith}
use lib.ListN.{length, get_or, set, length-set}
use lib.Seq.{get_or-set_same, get_or-set_other}
use Rattle.suffix.specs.Order.{lce}
use Rattle.suffix.specs.Nearest.{previous, next, previous_match}
use Rattle.suffix.specs.Rows.{Tables, previous_after, previous_match_after, next_after, next_match_after}
use Rattle.suffix.proofs.Cases.{Tri, lt, eq, gt, tri, Same, same, other, same?}
use Rattle.suffix.proofs.Sequence.{Agree, Less, asym, agree_match}
use Rattle.suffix.proofs.Edges.{Edge, PreviousAt, NoPrevious, NextAt, edge_prev, edge_next, edge_step, edge_none, skipped, below_prev}
use Rattle.suffix.proofs.Order.{extended, lce_is}
use Rattle.suffix.proofs.Nearest.{previous_is, previous_none, next_at_lem, next_is}
use Rattle.suffix.proofs.Rows.{previous_after_in, previous_after_out, previous_match_after_in, previous_match_some, previous_match_none, next_after_in, next_after_out, next_match_after_in, next_match_some, previous_after_stays, previous_match_after_stays, next_after_stays, next_match_after_stays}
use Rattle.reuse.specs.Steps.{Progress, BuildState, SettledPair, Walk, asked, settled, ended, record_previous, record_next}
use Rattle.reuse.proofs.Windows.{shares_no_more}
use Rattle.reuse.proofs.Scan.{Told}
use Rattle.reuse.proofs.Settle.{Filled, Last, Asked, last_lower, last_row}
use Rattle.reuse.proofs.Cost.{Cost, cost_next, cost_previous, cost_none}

-- ---- what holds

pub record Sizes (y : List ℕ) (t : Tables) : Type 0 where
  pub previous : length t.previous ≡ length y
  pub next : length t.next ≡ length y
  pub previous_match : length t.previous_match ≡ length y
  pub next_match : length t.next_match ≡ length y

pub next_sizes : {y : List ℕ} {t : Tables} → Sizes y t → (i v m : ℕ) → Sizes y (record_next t i v m)
unfolding record_next
next_sizes {y} {t} S i v m =
    record {
      previous = S.previous;
      next = length-set t.next i v ∙ S.next;
      previous_match = S.previous_match;
      next_match = length-set t.next_match i m ∙ S.next_match;
    }

pub previous_sizes : {y : List ℕ} {t : Tables} → Sizes y t → (i v m : ℕ) → Sizes y (record_previous t i v m)
unfolding record_previous
previous_sizes {y} {t} S i v m =
    record {
      previous = length-set t.previous i v ∙ S.previous;
      next = S.next;
      previous_match = length-set t.previous_match i m ∙ S.previous_match;
      next_match = S.next_match;
    }

-- c covers each edge of the rows before r, and each (a, r) with a from b on
pub record Covered (y : List ℕ) (r b c : ℕ) : Type 0 where
  pub seen : (a z : ℕ) → Edge (extended y) a z → z < r → z + lce y a z ≤ c
  pub here : (a : ℕ) → b ≤ a → Edge (extended y) a r → r + lce y a r ≤ c

-- where row r asks for (l, r) from m
pub record AtAsked (y : List ℕ) (r : ℕ) (s : Progress) (t : Tables) (l m : ℕ) : Type 0 where
  pub sizes : Sizes y t
  pub asked : Asked y r l m s t
  pub covered : Covered y r (suc l) s.reach
  pub cost : Cost (length y) s t 0

-- where (l, r) is settled
pub record AtSettled (y : List ℕ) (r : ℕ) (u : SettledPair) (t : Tables) (l : ℕ) : Type 0 where
  pub sizes : Sizes y t
  pub filled : Filled y r (suc l) t
  pub edge : Edge (extended y) l r
  pub told : Told y l r u.match u.left_smaller
  pub last : Last y u.progress.reach u.progress.shift r l
  pub covered : Covered y r l u.progress.reach
  pub cost : Cost (length y) u.progress t 1

-- R rows are done
pub record Done (y : List ℕ) (R : ℕ) (s : BuildState) : Type 0 where
  pub sizes : Sizes y s.tables
  pub previous : (i : ℕ) → i < length y → get_or s.tables.previous i 0 ≡ previous_after y R i
  pub previous_match : (i : ℕ) → i < length y → get_or s.tables.previous_match i 0 ≡ previous_match_after y R i
  pub next : (i : ℕ) → i < length y → get_or s.tables.next i 0 ≡ next_after y R i
  pub next_match : (i : ℕ) → i < length y → get_or s.tables.next_match i 0 ≡ next_match_after y R i
  pub last : Last y s.progress.reach s.progress.shift R R
  pub seen : (a z : ℕ) → Edge (extended y) a z → z < R → z + lce y a z ≤ s.progress.reach
  pub cost : Cost (length y) s.progress s.tables 0

pub data Holds (y : List ℕ) (r : ℕ) : Walk → Type 0 where
  at_asked : {s : Progress} {t : Tables} {l m : ℕ} → AtAsked y r s t l m → Holds y r (asked s t l m)
  at_settled : {u : SettledPair} {t : Tables} {l : ℕ} → AtSettled y r u t l → Holds y r (settled u t l)
  at_end : {s : BuildState} → Done y (suc r) s → Holds y r (ended s)

-- ---- stores

-- a store, read at every place
stored : (t : List ℕ) (n i v : ℕ) (g : ℕ → ℕ) → length t ≡ n → v ≡ g i → (k : ℕ) → k < n → (k ≢ i → get_or t k 0 ≡ g k) → get_or (set t i v) k 0 ≡ g k
stored t n i v g e h k w q = go (same? k i)
  where
    go : Same k i → get_or (set t i v) k 0 ≡ g k
    go (same z) = rw z (get_or-set_same t i v 0 (omega arith) ∙ h)
    go (other z) = get_or-set_other t i k v 0 z ∙ q z

module _ (y : List ℕ) (r : ℕ) (small : r < length y) where
  -- the place from which next is settled is lowered past entries that are not r
  filled_lower : {b : ℕ} {t : Tables} (b' : ℕ) → b' ≤ b → ((i : ℕ) → b' ≤ i → i < b → i < length y → next y i ≢ r) → Filled y r b t → Filled y r b' t
  filled_lower {b} {t} b' h q T =
      record {
        previous = T.previous;
        previous_match = T.previous_match;
        next_low = λ i g w. T.next_low i (omega arith) w;
        next_high = λ i g w. high i g w (T.next_low i) (T.next_high i) (next_after_stays y r i w) (tri i b);
        next_match_low = λ i g w. T.next_match_low i (omega arith) w;
        next_match_high = λ i g w. high i g w (T.next_match_low i) (T.next_match_high i) (next_match_after_stays y r i w) (tri i b);
      }
    where
      high : {v before after : ℕ} (i : ℕ) → b' ≤ i → i < length y → (i < b → i < length y → v ≡ before) → (b ≤ i → i < length y → v ≡ after) → (next y i ≢ r → before ≡ after) → Tri i b → v ≡ after
      high i g w low up keeps (lt x) = low x w ∙ keeps (q i g x w)
      high i g w low up keeps (eq x) = up (omega arith) w
      high i g w low up keeps (gt x) = up (omega arith) w

  -- previous[r] is not yet recorded
  unwritten : {b : ℕ} {t : Tables} → Filled y r b t → get_or t.previous r 0 ≡ length y
  unwritten T = T.previous r small ∙ previous_after_out y r r (omega arith)

  -- the row ends with previous[r] = p, with match m
  record End (s : Progress) (t : Tables) (p m : ℕ) : Type 0 where
    sizes : Sizes y t
    filled : Filled y r 0 t
    last : Last y s.reach s.shift r 0
    covered : Covered y r 0 s.reach
    place : previous y r ≡ p
    match : previous_match y r ≡ m
    cost : Cost (length y) s (record_previous t r p m) 0

  end : (s : Progress) (t : Tables) (p m : ℕ) → End s t p m → Done y (suc r) (record { progress = s; tables = record_previous t r p m })
  unfolding record_previous
  end s t p m E =
      record {
        sizes = previous_sizes E.sizes r p m;
        previous = λ k w.
            stored t.previous (length y) r p (previous_after y (suc r)) E.sizes.previous (sym (previous_after_in y (suc r) r (omega arith) ∙ E.place)) k w
            (λ h. E.filled.previous k w ∙ previous_after_stays y r k h);
        previous_match = λ k w.
            stored t.previous_match (length y) r m (previous_match_after y (suc r)) E.sizes.previous_match (sym (previous_match_after_in y (suc r) r (omega arith) ∙ E.match)) k w
            (λ h. E.filled.previous_match k w ∙ previous_match_after_stays y r k h);
        next = λ i w. E.filled.next_high i (omega arith) w;
        next_match = λ i w. E.filled.next_match_high i (omega arith) w;
        last = last_row (suc r) E.last;
        seen = λ a z e h. seen a z e h (same? z r);
        cost = E.cost;
      }
    where
      seen : (a z : ℕ) → Edge (extended y) a z → z < suc r → Same z r → z + lce y a z ≤ s.reach
      seen a z e h (same x) = rw x (E.covered.here a (omega arith) (rw x at e))
      seen a z e h (other x) = E.covered.seen a z e (omega arith)

  covered_all : {b c : ℕ} → ((a : ℕ) → a < b → Edge (extended y) a r → ⊥) → Covered y r b c → Covered y r 0 c
  covered_all {b} {c} q C = record { seen = C.seen; here = λ a _ e. go a e (tri a b) }
    where
      go : (a : ℕ) → Edge (extended y) a r → Tri a b → r + lce y a r ≤ c
      go a e (lt w) = absurd (q a w e)
      go a e (eq w) = C.here a (omega arith) e
      go a e (gt w) = C.here a (omega arith) e

  -- ---- step 3, where the suffix at l is the smaller: previous[r] = l

  pub finish : {u : SettledPair} {t : Tables} {l : ℕ} → AtSettled y r u t l → Less (extended y) l r → Done y (suc r) (record { progress = u.progress; tables = record_previous t r l u.match })
  finish {u} {t} {l} M g =
      end u.progress t l u.match
      (record {
        sizes = M.sizes;
        filled = filled_lower 0 (omega arith) (λ i _ w h. none_low i w h) M.filled;
        last = last_lower 0 (omega arith) M.last;
        covered = covered_all (λ a w e. asym (extended y) g (e.right l w M.edge.before)) M.covered;
        place = place;
        match =
            previous_match_some y r l (omega (arith, M.edge.before)) place
            ∙ lce_is y l r (omega (arith, M.edge.before)) (omega (arith, M.edge.before)) (omega arith) u.match M.told.match;
        cost = cost_previous r l u.match (omega (arith, M.sizes.previous)) (unwritten M.filled) (omega (arith, M.edge.before)) M.cost;
      })
    where
      P : PreviousAt (extended y) r l
      P = edge_prev (extended y) M.edge g

      place : previous y r ≡ l
      place = previous_is y r small l P

      none_low : (i : ℕ) → i < suc l → i < length y → next y i ≢ r
      none_low i w h e = pick (same? i l)
        where
          N : NextAt (extended y) i r
          N = rw e at (next_at_lem y i h)

          pick : Same i l → ⊥
          pick (same x) = asym (extended y) g (rw x at N.smaller)
          pick (other x) = below_prev (extended y) P (omega arith) N

  -- ---- step 3, where it is not: next[l] = r, and on from previous[l]

  module _ {u : SettledPair} {t : Tables} {l : ℕ} (M : AtSettled y r u t l) (g : Less (extended y) r l) where
    abbrev t' : Tables
    t' = record_next t l r u.match

    N : NextAt (extended y) l r
    N = edge_next (extended y) M.edge g

    l_in : l < length y
    l_in = omega (arith, M.edge.before)

    next_l : next y l ≡ r
    next_l = next_is y l l_in r N

    put_sizes : Sizes y t'
    put_sizes = next_sizes M.sizes l r u.match

    put_filled : Filled y r l t'
    unfolding record_next
    put_filled =
        record {
          previous = M.filled.previous;
          previous_match = M.filled.previous_match;
          next_low = λ i h w. get_or-set_other t.next l i r 0 (omega arith) ∙ M.filled.next_low i (omega arith) w;
          next_high = λ i h w.
              stored t.next (length y) l r (next_after y (suc r)) M.sizes.next (sym (next_after_in y (suc r) l l_in (omega (arith, next_l)) ∙ next_l)) i w
              (λ x. M.filled.next_high i (omega arith) w);
          next_match_low = λ i h w. get_or-set_other t.next_match l i u.match 0 (omega arith) ∙ M.filled.next_match_low i (omega arith) w;
          next_match_high = λ i h w.
              stored t.next_match (length y) l u.match (next_match_after y (suc r)) M.sizes.next_match (sym is_match) i w
              (λ x. M.filled.next_match_high i (omega arith) w);
        }
      where
        is_match : next_match_after y (suc r) l ≡ u.match
        is_match =
            next_match_after_in y (suc r) l l_in (omega (arith, next_l))
            ∙ next_match_some y l r (omega arith) next_l
            ∙ lce_is y l r (omega (arith, M.edge.before)) (omega arith) (omega arith) u.match M.told.match

    put_cost : Cost (length y) u.progress t' 0
    put_cost =
        cost_next l r u.match (omega (arith, M.sizes.next, l_in)) (M.filled.next_low l (omega arith) l_in ∙ next_after_out y r l (omega (arith, next_l)))
        (omega arith) M.cost

    -- l has no previous: neither has r
    pub finish_none : NoPrevious (extended y) l → Done y (suc r) (record { progress = u.progress; tables = record_previous t' r (length y) 0 })
    finish_none q =
        end u.progress t' (length y) 0
        (record {
          sizes = put_sizes;
          filled =
              filled_lower 0 (omega arith) (λ i _ w h e. asym (extended y) (q.least i w) ((rw e at (next_at_lem y i h)).nearest l w M.edge.before)) put_filled;
          last = last_lower 0 (omega arith) M.last;
          covered = covered_all (λ a w e. asym (extended y) (e.left l w M.edge.before) (q.least a w)) M.covered;
          place = place;
          match = previous_match_none y r place;
          cost = cost_none r 0 (unwritten put_filled) put_cost;
        })
      where
        place : previous y r ≡ length y
        place = previous_none y r small (edge_none (extended y) q M.edge g)

    -- p is previous[l]
    module _ (p : ℕ) (P : PreviousAt (extended y) l p) where
      up_edge : Edge (extended y) p r
      up_edge = edge_step (extended y) P M.edge g

      up_filled : Filled y r (suc p) t'
      up_filled = filled_lower (suc p) P.before (λ i h w v e. skipped (extended y) P M.edge.before h w (rw e at (next_at_lem y i v))) put_filled

      up_covered : Covered y r (suc p) u.progress.reach
      up_covered = record { seen = M.covered.seen; here = λ a v e. go a v e (tri a l) }
        where
          go : (a : ℕ) → suc p ≤ a → Edge (extended y) a r → Tri a l → r + lce y a r ≤ u.progress.reach
          go a v e (lt x) = absurd (asym (extended y) (e.left l x M.edge.before) (P.nearest a v x))
          go a v e (eq x) = M.covered.here a (omega arith) e
          go a v e (gt x) = M.covered.here a (omega arith) e

      -- step 4 knows the match and the order of (p, r) with no comparison
      pub up_known : (m : ℕ) (b : Bool) → Told y p r m b → m ≤ u.match → AtSettled y r (record { progress = u.progress; match = m; left_smaller = b }) t' p
      up_known m b o w =
          record {
            sizes = put_sizes;
            filled = up_filled;
            edge = up_edge;
            told = o;
            last = last_lower p (omega (arith, P.before)) M.last;
            covered = record { seen = M.covered.seen; here = λ a v e. go a v e (same? a p) };
            cost = record { equal = put_cost.equal; unequal = omega (arith, put_cost.unequal) };
          }
        where
          -- the pair (l, r) reaches at least as far
          go : (a : ℕ) → p ≤ a → Edge (extended y) a r → Same a p → r + lce y a r ≤ u.progress.reach
          go a v e (other x) = up_covered.here a (omega arith) e
          go a v e (same x) =
              rw x
              (omega (
                arith,
                lce_is y p r (omega (arith, up_edge.before)) (omega (arith, up_edge.before)) (omega arith) m o.match,
                lce_is y l r (omega (arith, M.edge.before)) (omega arith) (omega arith) u.match M.told.match,
                M.covered.here l (omega arith) M.edge,
              ))

      -- or it asks for (p, r) from m
      pub up_asked : Agree (extended y) p r u.match → AtAsked y r u.progress t' p u.match
      up_asked a =
          record {
            sizes = put_sizes;
            asked =
                record {
                  filled = up_filled;
                  edge = up_edge;
                  agree = a;
                  bound = record { most = λ h x v w q. go h x v w q (tri h l) };
                  last = last_lower (suc p) P.before M.last;
                };
            covered = up_covered;
            cost = put_cost;
          }
        where
          go : (h x : ℕ) → p < h → h < r → Agree (extended y) h r x → Tri h l → x ≤ u.match
          go h x v w q (lt k) = shares_no_more (extended y) g (P.nearest h v k) M.told.match q
          go h x v w q (eq k) = agree_match (extended y) (rw k at q) M.told.match
          go h x v w q (gt k) = shares_no_more (extended y) g (M.edge.left h k w) M.told.match q
