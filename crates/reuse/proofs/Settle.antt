-- Steps 1 and 2: a pair that is asked for is settled.
use mathlib.Core.Path.{◌≡◌, refl, ap, ◌∙◌}
use mathlib.Core.Logic.{◌≢◌, ◌⊎◌, inl, inr}
use mathlib.Core.Bool.{Bool, true, false, true≢false, false≢true}
use mathlib.Core.List.{List}
use Prim.Native.Nat.{ℕ, suc, ◌+◌, ◌-◌, ◌≤◌, ◌<◌}
use native.Mathlib.Omega.{arith}
use lib.ListN.{length, get_or}
use borrow.Author.Tests.{lt-ltb, le-ltb, eq-eqb, ne_eqb}
use Rattle.suffix.specs.Order.{lce}
use Rattle.suffix.specs.Nearest.{previous, next}
use Rattle.suffix.specs.Rows.{Tables, previous_after, previous_match_after, next_after, next_match_after}
use Rattle.suffix.proofs.Cases.{Tri, lt, eq, gt, tri, le_unless}
use Rattle.suffix.proofs.Sequence.{Agree, Less, Match, agree_sym, asym, less_match, match_unique, match_sym, match_order}
use Rattle.suffix.proofs.Edges.{Edge, no_cross, edge_prev, edge_next}
use Rattle.suffix.proofs.Order.{extended, lce_match, agree_fits}
use Rattle.suffix.proofs.Nearest.{previous_is, next_is, next_at_lem}
use Rattle.suffix.proofs.Rows.{previous_after_in, previous_match_after_in, previous_match_some, next_after_in, next_after_out, next_match_after_in, next_match_some}
use Rattle.reuse.specs.Steps.{Progress, ScanReport, SettledPair, scanned as scanned_pair, scan_from, reuse, settle}
use Rattle.reuse.proofs.Windows.{Window, match_back, match_to_end, less_back, edge_shift}
use Rattle.reuse.proofs.Scan.{Told, Reported, scan_told}

-- ---- the clauses of the steps

pub settle_scan : (y : List ℕ) (s : Progress) (t : Tables) (l r m : ℕ) → s.reach ≤ r + m → settle y s t l r m ≡ scan_from y s l r m
unfolding settle
settle_scan y s t l r m h = rw (le-ltb (r + m) s.reach h, settle)

module _ (y : List ℕ) (s : Progress) (t : Tables) (l r m : ℕ) (h : r + m < s.reach) where
  pub settle_by_next : get_or t.next (l - s.shift) 0 ≡ r - s.shift → settle y s t l r m ≡ reuse y s l r (get_or t.next_match (l - s.shift) 0) false
  unfolding settle
  settle_by_next e = rw (lt-ltb (r + m) s.reach h, eq-eqb (get_or t.next (l - s.shift) 0) (r - s.shift) e, settle)

  pub settle_by_previous : get_or t.next (l - s.shift) 0 ≢ r - s.shift → settle y s t l r m ≡ reuse y s l r (get_or t.previous_match (r - s.shift) 0) true
  unfolding settle
  settle_by_previous e = rw (lt-ltb (r + m) s.reach h, ne_eqb (get_or t.next (l - s.shift) 0) (r - s.shift) e, settle)

-- a pair that is settled with no comparison
abbrev pub copied : Progress → ℕ → Bool → SettledPair
copied s v b = record { progress = s; match = v; left_smaller = b }

module _ (y : List ℕ) (s : Progress) (l r v : ℕ) (b : Bool) where
  pub reuse_copy : r + v < s.reach → reuse y s l r v b ≡ copied s v b
  unfolding reuse
  reuse_copy h = rw (lt-ltb (r + v) s.reach h, reuse)

  pub reuse_scan : s.reach ≤ r + v → reuse y s l r v b ≡ scan_from y s l r (s.reach - r)
  unfolding reuse
  reuse_scan h = rw (le-ltb (r + v) s.reach h, reuse)

-- ---- what holds in row r

-- the tables, where next is settled from b on
pub record Filled (y : List ℕ) (r b : ℕ) (t : Tables) : Type 0 where
  pub previous : (i : ℕ) → i < length y → get_or t.previous i 0 ≡ previous_after y r i
  pub previous_match : (i : ℕ) → i < length y → get_or t.previous_match i 0 ≡ previous_match_after y r i
  pub next_low : (i : ℕ) → i < b → i < length y → get_or t.next i 0 ≡ next_after y r i
  pub next_high : (i : ℕ) → b ≤ i → i < length y → get_or t.next i 0 ≡ next_after y (suc r) i
  pub next_match_low : (i : ℕ) → i < b → i < length y → get_or t.next_match i 0 ≡ next_match_after y r i
  pub next_match_high : (i : ℕ) → b ≤ i → i < length y → get_or t.next_match i 0 ≡ next_match_after y (suc r) i

-- the pair (at - d, at) was the last to be scanned, up to c; and where it stands to row r with all from b on settled
pub record LastPair (y : List ℕ) (c d r b : ℕ) : Type 0 where
  pub at : ℕ
  pub low : d ≤ at
  pub high : at ≤ c
  pub edge : Edge (extended y) (at - d) at
  pub match : Match (extended y) (at - d) at (c - at)
  pub place : (at < r) ⊎ ((at ≡ r) × (b ≤ at - d))

pub data Last (y : List ℕ) (c d r b : ℕ) : Type 0 where
  unscanned : c ≡ 1 → Last y c d r b
  scanned : LastPair y c d r b → Last y c d r b

-- between l and r nothing shares more than m letters with the suffix at r
pub record Bound (y : List ℕ) (l r m : ℕ) : Type 0 where
  pub most : (h x : ℕ) → l < h → h < r → Agree (extended y) h r x → x ≤ m

-- (l, r) is settled, from s
pub record Settled (y : List ℕ) (s : Progress) (l r : ℕ) (u : SettledPair) : Type 0 where
  pub told : Told y l r u.match u.left_smaller
  pub covers : r + u.match ≤ u.progress.reach
  pub grows : s.reach ≤ u.progress.reach
  pub last : Last y u.progress.reach u.progress.shift r l
  pub equal_grows : u.progress.equal + s.reach ≤ s.equal + u.progress.reach
  pub unequal_grows : u.progress.unequal ≤ suc s.unequal

-- ---- the last pair

last_window : {y : List ℕ} {c d r b : ℕ} (P : LastPair y c d r b) → Window (extended y) P.at c d
last_window {y} P =
    record {
      room = P.low;
      back = λ x g h.
          ap (extended y) (omega (arith, P.low)) ∙ P.match.same.on (x - P.at) (omega arith) ∙ ap (extended y) (omega arith);
    }

last_move : {y : List ℕ} {c d r b r' b' : ℕ} (P : LastPair y c d r b) → ((P.at < r') ⊎ ((P.at ≡ r') × (b' ≤ P.at - d))) → Last y c d r' b'
last_move P g = scanned (record { at = P.at; low = P.low; high = P.high; edge = P.edge; match = P.match; place = g })

pub last_lower : {y : List ℕ} {c d r b : ℕ} (b' : ℕ) → b' ≤ b → Last y c d r b → Last y c d r b'
last_lower b' h (unscanned g) = unscanned g
last_lower {y} {c} {d} {r} {b} b' h (scanned P) = last_move P (go P.place)
  where
    go : (P.at < r) ⊎ ((P.at ≡ r) × (b ≤ P.at - d)) → (P.at < r) ⊎ ((P.at ≡ r) × (b' ≤ P.at - d))
    go (inl w) = inl w
    go (inr w) = inr (w.0, omega (arith, w.1))

pub last_row : {y : List ℕ} {c d r b : ℕ} (b' : ℕ) → Last y c d r b → Last y c d (suc r) b'
last_row b' (unscanned g) = unscanned g
last_row {y} {c} {d} {r} {b} b' (scanned P) = last_move P (go P.place)
  where
    go : (P.at < r) ⊎ ((P.at ≡ r) × (b ≤ P.at - d)) → (P.at < suc r) ⊎ ((P.at ≡ suc r) × (b' ≤ P.at - d))
    go (inl w) = inl (omega arith)
    go (inr w) = inl (omega (arith, w.0))

-- a scan never passes the end
pub last_fits : {y : List ℕ} {c d r b : ℕ} → 0 < length y → r ≤ length y → Last y c d r b → c ≤ length y
last_fits g h (unscanned e) = omega arith
last_fits {y} {c} {d} {r} {b} g h (scanned P) = omega (arith, agree_fits y P.edge.before (low P.place) P.match.same, P.high)
  where
    low : (P.at < r) ⊎ ((P.at ≡ r) × (b ≤ P.at - d)) → P.at ≤ length y
    low (inl w) = omega arith
    low (inr w) = omega (arith, w.0)

-- property (i): a pair that ends below the reach starts at the last pair's right end or later
pub inside : (y : List ℕ) (c d r l m : ℕ) (P : LastPair y c d r (suc l)) → Edge (extended y) l r → r + m < c → Bound y l r m → P.at ≤ l
inside y c d r l m P e h B = go P.place
  where
    q : ℕ
    q = P.at

    -- where that pair is of an earlier row, r - d stands not between l and r
    later : q < r → q ≤ l
    later w = le_unless q l (λ v. no_cross (extended y) P.edge e (omega (arith, P.low, far)) v w)
      where
        back : Agree (extended y) (r - d) r (c - r)
        back =
            record {
              on = λ k g. ap (extended y) (omega (arith, P.low, P.high)) ∙ (last_window P).back (r + k) (omega arith) (omega (arith, P.high));
            }

        far : r - d ≤ l
        far = le_unless (r - d) l (λ v. omega (arith, P.edge.before, B.most (r - d) (c - r) v (omega (arith, P.edge.before, P.low)) back))

    go : (q < r) ⊎ ((q ≡ r) × (suc l ≤ q - d)) → q ≤ l
    go (inl w) = later w
    go (inr w) =
        absurd
        (omega (
          arith,
          w.0,
          w.1,
          B.most (r - d) (c - r) (omega (arith, w.0, w.1)) (omega (arith, w.0, P.edge.before)) (rw w.0 at P.match.same),
        ))

-- ---- a pair is settled

module _ (y : List ℕ) (s : Progress) (l r : ℕ) (small : r < length y) (e : Edge (extended y) l r) where
  from_scan : (m : ℕ) → s.reach ≤ r + m → Agree (extended y) l r m → Settled y s l r (scan_from y s l r m)
  unfolding scan_from
  from_scan m h a =
      let f : r + m ≤ length y = agree_fits y e.before (omega arith) a in
      done (scan_told y l r m (length y - (r + m)) s.equal s.unequal e.before (omega arith) a)
    where
      done : {u : ScanReport} → Reported y l r m s.equal s.unequal u → Settled y s l r (scanned_pair l r u)
      done {u} S =
          let z : r - (r - l) ≡ l = omega (arith, e.before) in
          let x : r + u.match - r ≡ u.match = omega arith in
          record {
            told = S.told;
            covers = omega arith;
            grows = omega (arith, S.more);
            last =
                scanned
                (record {
                  at = r;
                  low = omega arith;
                  high = omega arith;
                  edge = rw z e;
                  match = rw (z, x) S.told.match;
                  place = inr (refl, omega arith);
                });
            equal_grows = omega (arith, S.equal_grows);
            unequal_grows = S.unequal_grows;
          }

  module _ (L : LastPair y s.reach s.shift r (suc l)) (at : L.at ≤ l) (near : r < s.reach) where
    W : Window (extended y) L.at s.reach s.shift
    W = last_window L

    from_reuse : (v : ℕ) (b : Bool) → Told y (l - s.shift) (r - s.shift) v b → Settled y s l r (reuse y s l r v b)
    from_reuse v b o = go (tri (r + v) s.reach)
      where
        more : s.reach ≤ r + v → Settled y s l r (reuse y s l r v b)
        more w = rw (reuse_scan y s l r v b w) (from_scan (s.reach - r) (omega arith) (match_to_end (extended y) W at e.before near w o.match))

        keep : r + v < s.reach → Settled y s l r (copied s v b)
        keep w =
            record {
              told = record { match = match_back (extended y) W at e.before w o.match; left = λ q. left (o.left q); right = λ q. right (o.right q) };
              covers = omega arith;
              grows = omega arith;
              last = last_lower l (omega arith) (scanned L);
              equal_grows = omega arith;
              unequal_grows = omega arith;
            }
          where
            left : Less (extended y) (l - s.shift) (r - s.shift) → Less (extended y) l r
            left p =
                let x : p.at ≡ v = match_unique (extended y) (less_match (extended y) p) o.match in
                less_back (extended y) W at (omega (arith, e.before)) p (omega (arith, e.before)) (omega arith)

            right : Less (extended y) (r - s.shift) (l - s.shift) → Less (extended y) r l
            right p =
                let x : p.at ≡ v = match_unique (extended y) (less_match (extended y) p) (match_sym (extended y) o.match) in
                less_back (extended y) W (omega (arith, e.before)) at p (omega arith) (omega (arith, e.before))

        go : Tri (r + v) s.reach → Settled y s l r (reuse y s l r v b)
        go (lt w) = rw (reuse_copy y s l r v b w) (keep w)
        go (eq w) = more (omega arith)
        go (gt w) = more (omega arith)

    -- the pair at distance d, and what is recorded of it
    module _ (m : ℕ) (t : Tables) (T : Filled y r (suc l) t) (far : r + m < s.reach) (B : Bound y l r m) where
      abbrev a : ℕ
      a = l - s.shift

      abbrev b : ℕ
      b = r - s.shift

      E : Edge (extended y) a b
      E = edge_shift (extended y) W at near e (λ h u v. omega (arith, B.most h (e.right h u v).at u v (agree_sym (extended y) (e.right h u v).same)))

      b_row : b < r
      b_row = omega (arith, L.edge.before)

      a_in : a < length y
      a_in = omega (arith, e.before)

      entry : get_or t.next a 0 ≡ next_after y r a
      entry = T.next_low a (omega arith) a_in

      abbrev ByNext : Type 0
      ByNext = (get_or t.next a 0 ≡ b) × Told y a b (get_or t.next_match a 0) false

      abbrev ByPrevious : Type 0
      ByPrevious = (get_or t.next a 0 ≢ b) × (get_or t.previous b 0 ≡ a) × Told y a b (get_or t.previous_match b 0) true

      recorded_pair : ByNext ⊎ ByPrevious
      recorded_pair = go (match_order (extended y) M)
        where
          M : Match (extended y) a b (lce y a b)
          M = lce_match y a b (omega (arith, E.before)) (omega arith) (omega arith)

          taken : Less (extended y) b a → ByNext
          taken g =
              let nx : next y a ≡ b = next_is y a a_in b (edge_next (extended y) E g) in
              let v : get_or t.next_match a 0 ≡ lce y a b =
              T.next_match_low a (omega arith) a_in ∙ next_match_after_in y r a a_in (omega (arith, b_row)) ∙ next_match_some y a b (omega arith) nx in
              (entry ∙ next_after_in y r a a_in (omega (arith, b_row)) ∙ nx, rw v (record { match = M; left = λ z. absurd (false≢true z); right = λ z. g }))

          missing : Less (extended y) a b → get_or t.next a 0 ≢ b
          missing g q = no_next (tri (next y a) r)
            where
              out : r ≤ next y a → ⊥
              out w = omega (arith, entry, next_after_out y r a w)

              no_next : Tri (next y a) r → ⊥
              no_next (lt w) =
                  let z : next y a ≡ b = omega (arith, entry, next_after_in y r a a_in w) in
                  asym (extended y) g (rw z at (next_at_lem y a a_in).smaller)
              no_next (eq w) = out (omega arith)
              no_next (gt w) = out (omega arith)

          before : Less (extended y) a b → ByPrevious
          before g =
              let b_in : b < length y = omega arith in
              let pv : previous y b ≡ a = previous_is y b b_in a (edge_prev (extended y) E g) in
              let v : get_or t.previous_match b 0 ≡ lce y a b =
              T.previous_match b b_in ∙ previous_match_after_in y r b b_row ∙ previous_match_some y b a (omega (arith, a_in)) pv in (
                missing g,
                T.previous b b_in ∙ previous_after_in y r b b_row ∙ pv,
                rw v (record { match = M; left = λ z. g; right = λ z. absurd (true≢false z) }),
              )

          go : Less (extended y) a b ⊎ Less (extended y) b a → ByNext ⊎ ByPrevious
          go (inr g) = inl (taken g)
          go (inl g) = inr (before g)

      from_table : Settled y s l r (settle y s t l r m)
      from_table = go recorded_pair
        where
          go : ByNext ⊎ ByPrevious → Settled y s l r (settle y s t l r m)
          go (inl q) = rw (settle_by_next y s t l r m far q.0) (from_reuse (get_or t.next_match a 0) false q.1)
          go (inr q) = rw (settle_by_previous y s t l r m far q.0) (from_reuse (get_or t.previous_match b 0) true q.2)

      found : (get_or t.next a 0 ≡ b) ⊎ (get_or t.previous b 0 ≡ a)
      found = go recorded_pair
        where
          go : ByNext ⊎ ByPrevious → (get_or t.next a 0 ≡ b) ⊎ (get_or t.previous b 0 ≡ a)
          go (inl q) = inl q.0
          go (inr q) = inr q.1

-- ---- what holds where a pair is asked for

pub record Asked (y : List ℕ) (r l m : ℕ) (s : Progress) (t : Tables) : Type 0 where
  pub filled : Filled y r (suc l) t
  pub edge : Edge (extended y) l r
  pub agree : Agree (extended y) l r m
  pub bound : Bound y l r m
  pub last : Last y s.reach s.shift r (suc l)

module _ {y : List ℕ} {r l m : ℕ} {s : Progress} {t : Tables} (small : r < length y) (A : Asked y r l m s t) where
  pub settle_settled : Settled y s l r (settle y s t l r m)
  settle_settled = go (tri (r + m) s.reach) A.last
    where
      scan : s.reach ≤ r + m → Settled y s l r (settle y s t l r m)
      scan w = rw (settle_scan y s t l r m w) (from_scan y s l r small A.edge m w A.agree)

      go : Tri (r + m) s.reach → Last y s.reach s.shift r (suc l) → Settled y s l r (settle y s t l r m)
      go (lt w) (unscanned h) = absurd (omega (arith, A.edge.before))
      go (lt w) (scanned P) =
          from_table y s l r small A.edge P (inside y s.reach s.shift r l m P A.edge w A.bound) (omega arith) m t A.filled w A.bound
      go (eq w) q = scan (omega arith)
      go (gt w) q = scan (omega arith)

  -- step 2 has a shift to use
  pub settle_shifted : r + m < s.reach → 0 < s.shift
  settle_shifted w = go A.last
    where
      go : Last y s.reach s.shift r (suc l) → 0 < s.shift
      go (unscanned h) = absurd (omega (arith, A.edge.before))
      go (scanned P) = omega (arith, P.edge.before)

  -- it looks at two places of the string, and their pair is recorded
  pub settle_recorded : r + m < s.reach
      → (s.shift ≤ l) × ((get_or t.next (l - s.shift) 0 ≡ r - s.shift) ⊎ (get_or t.previous (r - s.shift) 0 ≡ l - s.shift))
  settle_recorded w = go A.last
    where
      go : Last y s.reach s.shift r (suc l)
          → (s.shift ≤ l) × ((get_or t.next (l - s.shift) 0 ≡ r - s.shift) ⊎ (get_or t.previous (r - s.shift) 0 ≡ l - s.shift))
      go (unscanned h) = absurd (omega (arith, A.edge.before))
      go (scanned P) =
          let i : P.at ≤ l = inside y s.reach s.shift r l m P A.edge w A.bound in
          (omega (arith, P.low), found y s l r small A.edge P i (omega arith) m t A.filled w A.bound)
