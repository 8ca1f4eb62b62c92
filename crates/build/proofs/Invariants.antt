-- What holds at the head of the row loop and at the head of the walk, and how each way through the two loops keeps it.
use mathlib.Core.Path.{◌≡◌, refl, sym, ap, ap₂, ◌∙◌}
use mathlib.Core.Logic.{◌≢◌, ◌⊎◌, inl, inr}
use mathlib.Core.Bool.{Bool, true, false}
use mathlib.Core.List.{List}
use Prim.Native.Nat.{ℕ, suc, ◌+◌, ◌-◌, ◌/◌, ◌%◌, ◌^◌, ◌≤◌, ◌<◌}
use native.Mathlib.Omega.{arith}
use mir.Syntax.{w64}
use mir.Val.{Fits}
use lib.Dec.{ltb}
use lib.ListN.{length, get_or, set, take, replicate, length-set}
use lib.Seq.{get_or-set_same}
use Rattle.suffix.specs.Search.{count_below}
use Rattle.suffix.specs.Nearest.{previous}
use Rattle.suffix.specs.Rows.{Tables}
use Rattle.suffix.specs.Tree.{tree_length, tree_bytes, unclosed}
use Rattle.suffix.proofs.Order.{agree_fits}
use Rattle.suffix.proofs.Nearest.{previous_low}
use Rattle.suffix.proofs.Rows.{previous_after_in}
use Rattle.suffix.proofs.Levels.{level, level_is, level_suc}
use Rattle.suffix.proofs.Bytes as bytes
use Rattle.reuse.specs.Steps.{asked, settled, record_previous, record_next, start, after_rows}
use Rattle.reuse.proofs.Cost.{pairs_most}
use Rattle.reuse.proofs.Settle.{last_fits, settle_recorded, settle_shifted}
use Rattle.reuse.proofs.Row.{Sizes, next_sizes, previous_sizes, AtSettled, Done, Holds, at_asked, at_settled, reads_previous}
use Rattle.reuse.proofs.Exact.{rows_done}
use Rattle.build.specs.declared.State.{State}
use Rattle.build.specs.declared.SettledPair as declared
use Rattle.build.specs.States.{progress_of, pair_of, build_state, Safe, settled_from}
use Rattle.outcome.specs.Built.{tables_of}
use Rattle.entries.specs.Cleared.{cleared_from}
use Rattle.entries.specs.Lent.{cleared_tables, AreOf}
use Rattle.entries.proofs.Clearing.{cleared_length, cleared_get}
use Rattle.build.proofs.Clearing.{next_recorded, row_recorded, previous_none, all_cleared}
use Rattle.build.proofs.Parts.{replicate_part, part_room, part_raised}
use Rattle.build.proofs.Settling.{reads_before}
use Rattle.build.proofs.Walking.{standing, Going, starts, settles, left_ends, none_ends, less_ends, goes_on}

-- The tables hold what the steps recorded in the rows that are done, and anything from there on.

-- the state when a row more is done
abbrev pub raised : State → State
raised s = record { reach = s.reach; shift = s.shift; rows = s.rows + 1; equal = s.equal; unequal = s.unequal }

-- at the head of the row loop: the rows are done; of the last one the opening bit is still to be set, the previous entry p to be recorded with
-- its match v, and the next entry to be left pending
pub record AtRows (y : List ℕ) (rows : ℕ) (s : State) (t : Tables) (p v : ℕ) (tree : List ℕ) (bit : ℕ) : Type 0 where
  pub pos : 0 < s.rows
  pub most : s.rows ≤ rows
  pub fits : rows ≤ length y
  pub is : build_state s (record_previous (cleared_tables (length y) (s.rows - 1) t) (s.rows - 1) p v) ≡ after_rows y s.rows
  pub entry_fits : p ≤ length y
  pub match_fits : v ≤ length y
  pub sizes : Sizes y t
  pub written : tree ≡ take (length tree) (tree_bytes y (s.rows - 1))
  -- the place of that bit
  pub at : bit + level y (s.rows - 1) + 1 ≡ s.rows + s.rows

-- at the head of the walk of row r: p is previous[l], with match v
pub record AtWalk (y : List ℕ) (rows r : ℕ) (s : State) (t : Tables) (tree : List ℕ) (bit p v l m : ℕ) (known : Bool) : Type 0 where
  pub more : r < rows
  pub fits : rows ≤ length y
  pub rows_are : s.rows ≡ r
  pub going : Going y r (standing known (progress_of s) (cleared_tables (length y) r t) l m)
  pub before : l < r
  pub entry : p ≡ get_or t.previous l 0
  pub entry_match : v ≡ get_or t.previous_match l 0
  pub sizes : Sizes y t
  pub written : tree ≡ take (length tree) (tree_bytes y r)
  -- the bits of the rows before, and the closings up to l
  pub at : bit + level y l ≡ r + r

-- ---- the row loop

sizes_of : (y : List ℕ) (k : ℕ) (t : Tables) → Sizes y (cleared_tables (length y) k t) → Sizes y t
sizes_of y k t S =
    record {
      previous = sym (cleared_length k (length y) t.previous) ∙ S.previous;
      next = sym (cleared_length k (length y) t.next) ∙ S.next;
      previous_match = sym (cleared_length k 0 t.previous_match) ∙ S.previous_match;
      next_match = sym (cleared_length k 0 t.next_match) ∙ S.next_match;
    }

-- tables of n entries, for a string of n letters
pub sizes_are : {y : List ℕ} {n : ℕ} {t : Tables} → length y ≡ n → AreOf n t → Sizes y t
sizes_are e A = record { previous = A.previous ∙ sym e; next = A.next ∙ sym e; previous_match = A.previous_match ∙ sym e; next_match = A.next_match ∙ sym e }

pub are_sizes : {y : List ℕ} {n : ℕ} {t : Tables} → length y ≡ n → Sizes y t → AreOf n t
are_sizes e S = record { previous = S.previous ∙ e; next = S.next ∙ e; previous_match = S.previous_match ∙ e; next_match = S.next_match ∙ e }

-- next[l] is recorded with its match
pub next_is : (t : Tables) (l r m : ℕ) {x v : List ℕ} → x ≡ set t.next l r → v ≡ set t.next_match l m
    → record { previous = t.previous; next = x; previous_match = t.previous_match; next_match = v } ≡ record_next t l r m
unfolding record_next
next_is t l r m e f = rw (e, f)

-- the row's entries are recorded
pub row_is : (t : Tables) (i p v n : ℕ) {a x b z : List ℕ} → a ≡ set t.previous i p → x ≡ set t.next i n → b ≡ set t.previous_match i v → z ≡ set t.next_match i 0
    → record { previous = a; next = x; previous_match = b; next_match = z } ≡ record_next (record_previous t i p v) i n 0
unfolding record_previous record_next
row_is t i p v n e f h k = rw (e, f, h, k)

-- a position that is not the length of the string
pub not_none : {p n m : ℕ} → m ≡ n → p ≢ n → p ≢ m
not_none e f q = f (q ∙ e)

at_rows : (y : List ℕ) (rows r : ℕ) (s : State) (t : Tables) (p v : ℕ) (tree : List ℕ) (bit : ℕ) → r < rows → rows ≤ length y → s.rows ≡ r + 1
    → build_state s (record_previous (cleared_tables (length y) r t) r p v) ≡ after_rows y (suc r) → p ≤ length y → v ≤ length y → Sizes y t → tree ≡ take (length tree) (tree_bytes y r)
    → bit + level y r ≡ suc (r + r) → AtRows y rows s t p v tree bit
at_rows y rows r s t p v tree bit h n k e a b S q c =
    let z : s.rows ≡ suc r = omega arith in
    let j : s.rows - 1 ≡ r = omega arith in
    record {
      pos = omega arith;
      most = omega arith;
      fits = n;
      is = rw (j, z) e;
      entry_fits = a;
      match_fits = b;
      sizes = S;
      written = rw j q;
      at = rw j (omega arith);
    }

module _ (y : List ℕ) (t : Tables) (S : Sizes y t) where
  cleared : cleared_tables (length y) 0 t ≡ tables_of (replicate (length y) (length y)) (replicate (length y) (length y)) (replicate (length y) 0) (replicate (length y) 0)
  cleared = all_cleared (length y) t S.previous S.next S.previous_match S.next_match

  pub no_rows : build_state (record { reach = 0; shift = 0; rows = 0; equal = 0; unequal = 0 }) (cleared_tables (length y) 0 t) ≡ after_rows y 0
  unfolding after_rows start
  no_rows = rw cleared

  -- no bit is set in a tree that is cleared
  pub no_bits : (tree : List ℕ) → length tree ≤ tree_length (length y) → tree ≡ replicate (length tree) 0 → tree ≡ take (length tree) (tree_bytes y 0)
  no_bits tree h q = q ∙ sym (replicate_part (length tree) (tree_length (length y)) 0 h) ∙ ap (take (length tree)) (bytes.no_bytes y)

  pub first_row : (rows none : ℕ) (tree : List ℕ) → 0 < rows → rows ≤ length y → none ≡ length y → length tree ≤ tree_length (length y) → tree ≡ replicate (length tree) 0
      → AtRows y rows (record { reach = 1; shift = 0; rows = 1; equal = 0; unequal = 0 }) t none 0 tree 0
  unfolding after_rows start unclosed count_below
  first_row rows none tree h n e k q =
      rw e
      (at_rows y rows 0 _ t (length y) 0 tree 0 h n refl (rw (previous_none (length y) t, cleared)) (omega arith) (omega arith) S (no_bits tree k q)
      (omega (arith, level_suc y 0 (omega arith), level_is y 0 (omega arith))))

module _ {y : List ℕ} {rows : ℕ} {s : State} {t : Tables} {p v : ℕ} {tree : List ℕ} {bit : ℕ} (A : AtRows y rows s t p v tree bit) where
  last : s.rows - 1 < length y
  last = omega (arith, A.pos, A.most, A.fits)

  place : bit + level y (s.rows - 1) ≡ suc (s.rows - 1 + (s.rows - 1))
  place = omega (arith, A.pos, A.at)

  pub row_fits : length y ≤ 1000000 → Fits w64 s.rows
  row_fits n = omega (arith, A.most, A.fits)

  abbrev before : List ℕ
  before = tree_bytes y (s.rows - 1)

  pub byte_room : bit / 8 < length tree → get_or tree (bit / 8) 0 + 2 ^ (bit % 8) < 256
  byte_room h =
      let w = A.written in
      let z : bit / 8 < length (take (length tree) before) = omega (arith, ap length w) in
      omega (arith, ap (λ u. get_or u (bit / 8) 0) w, part_room (length tree) before (bit / 8) (2 ^ (bit % 8)) (bytes.byte_room y (s.rows - 1) bit last place) z)

  pub bit_set : {tree' : List ℕ} → tree' ≡ set tree (bit / 8) (get_or tree (bit / 8) 0 + 2 ^ (bit % 8)) → tree' ≡ take (length tree') (tree_bytes y s.rows)
  bit_set q =
      let z : suc (s.rows - 1) ≡ s.rows = omega (arith, A.pos) in
      q ∙ ap (λ u. set u (bit / 8) (get_or u (bit / 8) 0 + 2 ^ (bit % 8))) A.written ∙ part_raised (length tree) before (bit / 8) (2 ^ (bit % 8))
      ∙ ap (take (length tree)) (bytes.tree_set y (s.rows - 1) bit last place ∙ ap (tree_bytes y) z)
      ∙ ap (λ k. take k (tree_bytes y s.rows)) (sym (ap length q ∙ length-set tree (bit / 8) (get_or tree (bit / 8) 0 + 2 ^ (bit % 8))))

  -- the row's entries are recorded in t'
  pub rows_are_done : {t' : Tables} → t' ≡ record_next (record_previous t (s.rows - 1) p v) (s.rows - 1) (length y) 0 → (k : ℕ) → s.rows ≡ k
      → build_state s (cleared_tables (length y) k t') ≡ after_rows y k
  rows_are_done {t'} w k e =
      let z : k ≡ suc (s.rows - 1) = omega (arith, A.pos) in
      ap₂ (λ i u. build_state s (cleared_tables (length y) i u)) z w ∙ ap (build_state s) (row_recorded (length y) t (s.rows - 1) p v) ∙ A.is ∙ ap (after_rows y) e

  pub recorded_sizes : {t' : Tables} → t' ≡ record_next (record_previous t (s.rows - 1) p v) (s.rows - 1) (length y) 0 → Sizes y t'
  recorded_sizes w = rw w (next_sizes (previous_sizes A.sizes (s.rows - 1) p v) (s.rows - 1) (length y) 0)

-- ---- the walk

at_walk : (y : List ℕ) (rows r : ℕ) (s : State) (t : Tables) (tree : List ℕ) (bit p v l m : ℕ) (known : Bool) → r < rows → rows ≤ length y → s.rows ≡ r
    → Going y r (standing known (progress_of s) (cleared_tables (length y) r t) l m) → p ≡ get_or t.previous l 0 → v ≡ get_or t.previous_match l 0
    → tree ≡ take (length tree) (tree_bytes y r) → bit + level y l ≡ r + r → AtWalk y rows r s t tree bit p v l m known
at_walk y rows r s t tree bit p v l m known h n k G e f q b = go known G.holds
  where
    make : l < r → Sizes y (cleared_tables (length y) r t) → AtWalk y rows r s t tree bit p v l m known
    make w S = record { more = h; fits = n; rows_are = k; going = G; before = w; entry = e; entry_match = f; sizes = sizes_of y r t S; written = q; at = b }

    go : (b : Bool) → Holds y r (standing b (progress_of s) (cleared_tables (length y) r t) l m) → AtWalk y rows r s t tree bit p v l m known
    go true (at_settled M) = make M.edge.before M.sizes
    go false (at_asked A) = make A.asked.edge.before A.sizes

pub begins : {y : List ℕ} {rows : ℕ} {s : State} {t : Tables} {p v : ℕ} {tree : List ℕ} {bit : ℕ} → AtRows y rows s t p v tree bit → s.rows < rows
    → {t' : Tables} → t' ≡ record_next (record_previous t (s.rows - 1) p v) (s.rows - 1) (length y) 0
    → {tree' : List ℕ} → tree' ≡ set tree (bit / 8) (get_or tree (bit / 8) 0 + 2 ^ (bit % 8))
    → AtWalk y rows s.rows s t' tree' (bit + 1) p v (s.rows - 1) 0 false
unfolding record_previous record_next
begins {y} {rows} {s} {t} {p} {v} {tree} {bit} A h {t'} w {tree'} q =
    at_walk y rows s.rows _ t' tree' (bit + 1) p v (s.rows - 1) 0 false h A.fits refl
    (starts y s.rows (omega (arith, A.fits)) (build_state s (cleared_tables (length y) s.rows t')) A.pos (rows_are_done A w s.rows refl))
    (sym (ap (λ u. get_or u.previous (s.rows - 1) 0) w ∙ get_or-set_same t.previous (s.rows - 1) p 0 (omega (arith, last A, A.sizes.previous))))
    (sym (ap (λ u. get_or u.previous_match (s.rows - 1) 0) w ∙ get_or-set_same t.previous_match (s.rows - 1) v 0 (omega (arith, last A, A.sizes.previous_match))))
    (bit_set A q) (omega (arith, A.at))

module _ {y : List ℕ} {rows r : ℕ} {s : State} {t : Tables} {tree : List ℕ} {bit p v l m : ℕ} {known : Bool} (W : AtWalk y rows r s t tree bit p v l m known) where
  small : r < length y
  small = omega (arith, W.more, W.fits)

  pub bit_low : bit < length y + length y
  bit_low = omega (arith, W.at, small)

  abbrev seen : Tables
  seen = cleared_tables (length y) r t

  pub safe : {n : ℕ} → length y ≡ n → known ≡ false → Safe n (progress_of s) l r m
  safe z e = rw z at (go (rw e at W.going.holds))
    where
      go : Holds y r (asked (progress_of s) seen l m) → Safe (length y) (progress_of s) l r m
      go (at_asked A) =
          let top : s.reach ≤ length y = last_fits (omega (arith, small)) (omega (arith, small)) A.asked.last in
          record {
            before = W.before;
            small = small;
            fits = agree_fits y W.before (omega (arith, small)) A.asked.agree;
            top = top;
            shift = λ h. (settle_recorded small A.asked h).0;
            shifted = λ h. settle_shifted small A.asked h;
            equal = omega (arith, A.cost.equal);
            unequal = omega (arith, A.cost.unequal, pairs_most (length y) seen, A.sizes.previous, A.sizes.next);
          }

  -- (l, r) is settled as u
  pub record Settled (u : declared.SettledPair) : Type 0 where
    pub pair : pair_of u ≡ settled_from known y (progress_of s) t l r m
    pub rows_stay : u.state.rows ≡ s.rows

  module _ {u : declared.SettledPair} (E : Settled u) where
    G : Going y r (settled (pair_of u) seen l)
    G = settles y r small known (progress_of s) seen l m W.going (E.pair ∙ reads_before known y (progress_of s) (length y) t l r m W.before (λ e. (safe refl e).shifted))

    M : AtSettled y r (pair_of u) seen l
    M = go G.holds
      where
        go : Holds y r (settled (pair_of u) seen l) → AtSettled y r (pair_of u) seen l
        go (at_settled M) = M

    pub advances : (k : ℕ) → r ≡ k + 1 → rows - u.state.rows < rows - k
    advances k e = omega (arith, W.more, W.rows_are, E.rows_stay)

    pub match_fits : r + u.matched ≤ length y
    match_fits = agree_fits y W.before (omega (arith, small)) M.told.match.same

    pub next_fits : length y ≤ 1000000 → (l < length t.next) × (l < length t.next_match) × (r ≤ 1000000) × (u.matched ≤ 1000000)
    next_fits n = (omega (arith, W.before, small, W.sizes.next), omega (arith, W.before, small, W.sizes.next_match), omega (arith, small), omega (arith, match_fits))

    -- previous[r] is v with match w: the row is done
    done : (t' : Tables) (bit' v w : ℕ) → bit' + level y v ≡ r + r → v ≤ length y → w ≤ length y → Sizes y t'
        → build_state u.state (record_previous (cleared_tables (length y) r t') r v w) ≡ after_rows y (suc r) → AtRows y rows (raised u.state) t' v w tree bit'
    unfolding record_previous
    done t' bit' v w b e f S i =
        let D : Done y (suc r) (build_state u.state (record_previous (cleared_tables (length y) r t') r v w)) = rw i (rows_done y (suc r) (omega arith) (omega (arith, small))) in
        let p : previous y r ≡ v =
        sym (previous_after_in y (suc r) r (omega arith)) ∙ sym (D.previous r small)
        ∙ get_or-set_same (cleared_from r (length y) t'.previous) r v 0 (omega (arith, small, cleared_length r (length y) t'.previous, S.previous)) in
        at_rows y rows r (raised u.state) t' v w tree bit' W.more W.fits (ap (λ k. k + 1) (E.rows_stay ∙ W.rows_are)) i e f S W.written
        (omega (arith, level_is y r small, ap (level y) p))

    pub ends_left : u.left_smaller ≡ true → AtRows y rows (raised u.state) t l u.matched tree bit
    ends_left b = done t bit l u.matched W.at (omega (arith, W.before, small)) (omega (arith, match_fits)) W.sizes (left_ends y r small G b)

    -- the suffix at r is the smaller: next[l] is recorded in t'
    module _ (b : u.left_smaller ≡ false) {t' : Tables} (recorded-next : t' ≡ record_next t l r u.matched) where
      -- what is read before r is what is seen, and what is recorded there is seen
      p_seen : get_or seen.previous l 0 ≡ p
      p_seen = cleared_get r (length y) l t.previous W.before ∙ sym W.entry

      t'_seen : record_next seen l r u.matched ≡ cleared_tables (length y) r t'
      t'_seen = sym (ap (cleared_tables (length y) r) recorded-next ∙ next_recorded (length y) t r l r u.matched W.before)

      t'_sizes : Sizes y t'
      t'_sizes = rw recorded-next (next_sizes W.sizes l r u.matched)

      p_is : p ≡ previous y l
      p_is = sym p_seen ∙ reads_previous y r small M b

      up : bit + 1 + level y p ≡ r + r
      up = omega (arith, W.at, level_is y l (omega (arith, W.before, small)), ap (level y) p_is)

      -- the row ends with p in previous[r]
      ends : (w : ℕ) → p ≤ length y → w ≤ length y → build_state u.state (record_previous (record_next seen l r u.matched) r p w) ≡ after_rows y (suc r)
          → AtRows y rows (raised u.state) t' p w tree (bit + 1)
      ends w a f e = done t' (bit + 1) p w up a f t'_sizes (ap (λ k. build_state u.state (record_previous k r p w)) (sym t'_seen) ∙ e)

      pub ends_none : p ≡ length y → AtRows y rows (raised u.state) t' p 0 tree (bit + 1)
      ends_none z =
          ends 0 (omega arith) (omega arith) (ap (λ i. build_state u.state (record_previous (record_next seen l r u.matched) r i 0)) z ∙ none_ends y r small G b (p_seen ∙ z))

      module _ (some : p ≢ length y) where
        pub falls : p < l
        falls = go (previous_low y l (omega (arith, W.before, small)))
          where
            go : (previous y l < l) ⊎ (previous y l ≡ length y) → p < l
            go (inl w) = omega (arith, p_is)
            go (inr w) = absurd (some (p_is ∙ w))

        -- p is a place of the tables
        pub p_in : (p < length t.previous) × (p < length t.previous_match)
        p_in = (omega (arith, falls, W.before, small, W.sizes.previous), omega (arith, falls, W.before, small, W.sizes.previous_match))

        v_seen : get_or seen.previous_match l 0 ≡ v
        v_seen = cleared_get r 0 l t.previous_match W.before ∙ sym W.entry_match

        pub ends_less : v < u.matched → AtRows y rows (raised u.state) t' p v tree (bit + 1)
        ends_less w =
            ends v (omega (arith, falls, W.before, small)) (omega (arith, match_fits))
            (ap₂ (λ i j. build_state u.state (record_previous (record_next seen l r u.matched) r i j)) (sym p_seen) (sym v_seen)
            ∙ less_ends y r small G b (λ e. some (sym p_seen ∙ e)) (omega (arith, v_seen)))

        -- previous[p] is read, with its match
        pub goes : u.matched ≤ v → {i j : ℕ} → i ≡ get_or t'.previous p 0 → j ≡ get_or t'.previous_match p 0
            → AtWalk y rows r u.state t' tree (bit + 1) i j p u.matched (ltb u.matched v)
        goes w {i} {j} reads reads-match =
            at_walk y rows r u.state t' tree (bit + 1) i j p u.matched _ W.more W.fits (E.rows_stay ∙ W.rows_are)
            (rw (t'_seen, p_seen, v_seen) at (goes_on y r small G b (λ e. some (sym p_seen ∙ e)) (omega (arith, v_seen)))) reads reads-match W.written up
