-- The moves of a row keep what holds, and the row ends.
use mathlib.Core.Path.{◌≡◌, refl, sym, ap, ◌∙◌}
use mathlib.Core.Logic.{◌≢◌}
use mathlib.Core.Bool.{true, false, true≢false, false≢true}
use mathlib.Core.List.{List}
use Prim.Native.Nat.{ℕ, zero, suc, ◌+◌, ◌-◌, ◌≤◌, ◌<◌}
use native.Mathlib.Omega.{arith}
use lib.ListN.{length, get_or}
use borrow.Author.Tests.{lt-ltb, le-ltb, eq-eqb, ne_eqb}
use Rattle.suffix.specs.Order.{lce}
use Rattle.suffix.specs.Nearest.{previous}
use Rattle.suffix.specs.Rows.{Tables}
use Rattle.suffix.proofs.Cases.{Tri, lt, eq, gt, tri, Same, same, other, same?, Test, holds, fails, test}
use Rattle.suffix.proofs.Sequence.{Less, Match}
use Rattle.suffix.proofs.Edges.{Edge, PreviousAt, NextAt, edge_next, match_below, match_above, match_equal}
use Rattle.suffix.proofs.Order.{extended, lce_match, lce_is}
use Rattle.suffix.proofs.Nearest.{PreviousCase, some, none, previous_case}
use Rattle.suffix.proofs.Rows.{previous_after_in, previous_match_after_in, previous_match_some}
use Rattle.reuse.specs.Steps.{Progress, BuildState, SettledPair, Walk, asked, settled, ended, settle, record_previous, record_next, climb, advance, advances}
use Rattle.reuse.proofs.Settle.{Settled, settle_settled}
use Rattle.reuse.proofs.RowKeeps.{finish, finish_none, up_known, up_asked}
pub use Rattle.reuse.proofs.RowKeeps.{Sizes, next_sizes, previous_sizes, AtAsked, AtSettled, Done, Holds, at_asked, at_settled, at_end}

module _ (y : List ℕ) (r : ℕ) (small : r < length y) where
  -- ---- the clauses of a move

  module _ (u : SettledPair) (t : Tables) (l : ℕ) where
    pub advance_left : u.left_smaller ≡ true → advance y r (settled u t l) ≡ ended (record { progress = u.progress; tables = record_previous t r l u.match })
    unfolding advance
    advance_left e = rw (e, advance)

    pub advance_right : u.left_smaller ≡ false → advance y r (settled u t l) ≡ climb y r u (record_next t l r u.match) l
    unfolding advance
    advance_right e =
        rw (e, advance) (ap (λ b. climb y r (record { progress = u.progress; match = u.match; left_smaller = b }) (record_next t l r u.match) l) e)

    abbrev above : ℕ
    above = get_or t.previous l 0

    abbrev above_match : ℕ
    above_match = get_or t.previous_match l 0

    pub climb_none : above ≡ length y → climb y r u t l ≡ ended (record { progress = u.progress; tables = record_previous t r (length y) 0 })
    unfolding climb
    climb_none e = rw (eq-eqb above (length y) e, climb)

    module _ (some : above ≢ length y) where
      pub climb_less : above_match < u.match → climb y r u t l ≡ ended (record { progress = u.progress; tables = record_previous t r above above_match })
      unfolding climb
      climb_less h = rw (ne_eqb above (length y) some, lt-ltb above_match u.match h, climb)

      pub climb_equal : above_match ≡ u.match → climb y r u t l ≡ asked u.progress t above u.match
      unfolding climb
      climb_equal h = rw (ne_eqb above (length y) some, le-ltb above_match u.match (omega arith), eq-eqb above_match u.match h, climb)

      pub climb_more : u.match < above_match → climb y r u t l ≡ settled u t above
      unfolding climb
      climb_more h = rw (ne_eqb above (length y) some, le-ltb above_match u.match (omega arith), ne_eqb above_match u.match (omega arith), climb)

  -- ---- a move keeps what holds, and fewer moves are left

  abbrev pub left : Walk → ℕ
  left (asked s t l m) = suc l + suc l
  left (settled u t l) = suc (l + l)
  left (ended s) = 0

  record Next (k : ℕ) (w : Walk) : Type 0 where
    after : Holds y r w
    fewer : left w ≤ k

  settled_next : {s : Progress} {t : Tables} {l m : ℕ} → AtAsked y r s t l m → AtSettled y r (settle y s t l r m) t l
  settled_next {s} {t} {l} {m} A = go (settle_settled small A.asked)
    where
      go : {u : SettledPair} → Settled y s l r u → AtSettled y r u t l
      go {u} S =
          record {
            sizes = A.sizes;
            filled = A.asked.filled;
            edge = A.asked.edge;
            told = S.told;
            last = S.last;
            covered =
                record {
                  seen = λ a z e w. omega (arith, A.covered.seen a z e w, S.grows);
                  here = λ a w e. here a w e (same? a l);
                };
            cost = record { equal = omega (arith, A.cost.equal, S.equal_grows); unequal = omega (arith, A.cost.unequal, S.unequal_grows) };
          }
        where
          here : (a : ℕ) → l ≤ a → Edge (extended y) a r → Same a l → r + lce y a r ≤ u.progress.reach
          here a w e (other x) = omega (arith, A.covered.here a (omega arith) e, S.grows)
          here a w e (same x) =
              rw x
              (omega (
                arith,
                lce_is y l r (omega (arith, A.asked.edge.before)) (omega (arith, A.asked.edge.before)) (omega arith) u.match S.told.match,
                S.covers,
              ))

  module _ {u : SettledPair} {t : Tables} {l : ℕ} (M : AtSettled y r u t l) (f : u.left_smaller ≡ false) where
    abbrev t'' : Tables
    t'' = record_next t l r u.match

    abbrev p : ℕ
    p = get_or t.previous l 0

    abbrev v : ℕ
    v = get_or t.previous_match l 0

    smaller : Less (extended y) r l
    smaller = M.told.right f

    inn : l < length y
    inn = omega (arith, M.edge.before)

    pub reads_previous : p ≡ previous y l
    reads_previous = M.filled.previous l inn ∙ previous_after_in y r l M.edge.before

    climbs_some : PreviousAt (extended y) l p → Next (l + l) (climb y r u t'' l)
    unfolding record_next
    climbs_some P = go (tri v u.match)
      where
        ne : p ≢ length y
        ne = omega (arith, P.before)

        A : Match (extended y) p l v
        A =
            let e : v ≡ lce y p l =
            M.filled.previous_match l inn ∙ previous_match_after_in y r l M.edge.before ∙ previous_match_some y l p (omega arith) (sym reads_previous) in
            rw e (lce_match y p l (omega (arith, P.before)) (omega (arith, P.before)) (omega arith))

        NL : NextAt (extended y) l r
        NL = edge_next (extended y) M.edge smaller

        go : Tri v u.match → Next (l + l) (climb y r u t'' l)
        go (lt w) =
            let x : Match (extended y) p r v × Less (extended y) p r = match_below (extended y) P NL A M.told.match w in
            let K : AtSettled y r (record { progress = u.progress; match = v; left_smaller = true }) t'' p =
            up_known y r small M smaller p P v true (record { match = x.0; left = λ _. x.1; right = λ z. absurd (true≢false z) }) (omega arith) in
            rw (climb_less u t'' l ne w) (record { after = at_end (finish y r small K x.1); fewer = omega arith })
        go (eq w) =
            rw (climb_equal u t'' l ne w)
            (record { after = at_asked (up_asked y r small M smaller p P (match_equal (extended y) P NL A M.told.match w)); fewer = omega (arith, P.before) })
        go (gt w) =
            let x : Match (extended y) p r u.match × Less (extended y) r p = match_above (extended y) P NL A M.told.match w in
            let K : AtSettled y r u t'' p =
            rw (← f) at (up_known y r small M smaller p P u.match false (record { match = x.0; left = λ z. absurd (false≢true z); right = λ _. x.1 }) (omega arith)) in
            rw (climb_more u t'' l ne w) (record { after = at_settled K; fewer = omega (arith, P.before) })

    climbs : Next (l + l) (climb y r u t'' l)
    unfolding record_next
    climbs = go (previous_case y l inn)
      where
        go : PreviousCase y l (previous y l) → Next (l + l) (climb y r u t'' l)
        go (some P) = climbs_some (rw reads_previous P)
        go (none e N) = rw (climb_none u t'' l (reads_previous ∙ e)) (record { after = at_end (finish_none y r small M smaller N); fewer = omega arith })

  advance_next : {w : Walk} → Holds y r w → Next (left w - 1) (advance y r w)
  unfolding advance
  advance_next (at_asked {l = l} A) = record { after = at_settled (settled_next A); fewer = omega arith }
  advance_next (at_end D) = record { after = at_end D; fewer = omega arith }
  advance_next (at_settled {u = u} {t = t} {l = l} M) = go (test u.left_smaller)
    where
      go : Test u.left_smaller → Next (left (settled u t l) - 1) (advance y r (settled u t l))
      go (holds e) = rw (advance_left u t l e) (record { after = at_end (finish y r small M (M.told.left e)); fewer = omega arith })
      go (fails e) = rw (advance_right u t l e) (let N = climbs M e in record { after = N.after; fewer = omega (arith, N.fewer) })

  pub advance_holds : {w : Walk} → Holds y r w → Holds y r (advance y r w)
  advance_holds H = (advance_next H).after

  pub advances_hold : (k : ℕ) {w : Walk} → Holds y r w → Holds y r (advances y r k w)
  unfolding advances
  advances_hold zero H = H
  advances_hold (suc k) H = advances_hold k (advance_holds H)

  -- with enough moves the row has ended
  pub record Ended (w : Walk) : Type 0 where
    pub state : BuildState
    pub is : w ≡ ended state
    pub done : Done y (suc r) state

  pub advances_end : (k : ℕ) {w : Walk} → Holds y r w → left w ≤ k → Ended (advances y r k w)
  unfolding advances
  advances_end zero (at_asked A) h = absurd (omega arith)
  advances_end zero (at_settled M) h = absurd (omega arith)
  advances_end zero (at_end {s = s} D) h = record { state = s; is = refl; done = D }
  advances_end (suc k) H h = let N = advance_next H in advances_end k N.after (omega (arith, N.fewer))
