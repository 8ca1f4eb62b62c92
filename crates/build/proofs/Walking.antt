-- The walk of a row as the code goes it: what is left of the walk ends the row.
use mathlib.Core.Path.{◌≡◌, refl, sym, ap, ◌∙◌}
use mathlib.Core.Logic.{◌≢◌}
use mathlib.Core.Bool.{Bool, true, false}
use mathlib.Core.List.{List}
use Prim.Native.Nat.{ℕ, zero, suc, ◌+◌, ◌-◌, ◌≤◌, ◌<◌}
use native.Mathlib.Omega.{arith}
use lib.Dec.{ltb}
use lib.ListN.{length, get_or}
use borrow.Author.Tests.{lt-ltb, le-ltb}
use Rattle.suffix.specs.Rows.{Tables}
use Rattle.suffix.proofs.Cases.{Tri, lt, eq, gt, tri}
use Rattle.reuse.specs.Steps.{Progress, BuildState, SettledPair, Walk, asked, settled, ended, record_previous, record_next, advance, advances, row_start, row, after_rows}
use Rattle.reuse.proofs.Row.{Holds, left, advance_left, advance_right, climb_none, climb_less, climb_equal, climb_more, advance_holds}
use Rattle.reuse.proofs.Exact.{row_starts, row_ends, rows_done}
use Rattle.build.specs.States.{settled_from}

-- (l, r) is to be settled from m; or it is known to have match m, and the suffix at r is the smaller
abbrev pub standing : Bool → Progress → Tables → ℕ → ℕ → Walk
standing true s t l m = settled (record { progress = s; match = m; left_smaller = false }) t l
standing false s t l m = asked s t l m

-- row r stands at w, and ends as it should
pub record Going (y : List ℕ) (r : ℕ) (w : Walk) : Type 0 where
  pub holds : Holds y r w
  pub steps : ℕ
  pub ends : advances y r steps w ≡ ended (after_rows y (suc r))

module _ (y : List ℕ) (r : ℕ) (small : r < length y) where
  pub starts : (s : BuildState) → 0 < r → s ≡ after_rows y r → Going y r (asked s.progress s.tables (r - 1) 0)
  unfolding row_start after_rows
  starts s pos e =
      rw e
      (let D = rows_done y r pos (omega arith) in
      record { holds = row_starts y r pos small (after_rows y r) D; steps = r + r; ends = row_ends y r pos small (after_rows y r) D ∙ ap ended (sym (next_row r pos)) })
    where
      next_row : (r : ℕ) → 0 < r → after_rows y (suc r) ≡ row y (after_rows y r) r
      next_row zero h = absurd (omega arith)
      next_row (suc r) h = refl

  on : {w : Walk} → Going y r w → 0 < left y r small w → Going y r (advance y r w)
  unfolding advances
  on {w} G more = go G.steps G.ends
    where
      go : (k : ℕ) → advances y r k w ≡ ended (after_rows y (suc r)) → Going y r (advance y r w)
      go zero e = absurd (omega (arith, ap (left y r small) e))
      go (suc k) e = record { holds = advance_holds y r small G.holds; steps = k; ends = e }

  over : {s : BuildState} → Going y r (ended s) → s ≡ after_rows y (suc r)
  unfolding advances advance
  over {s} G = let e : ended s ≡ ended (after_rows y (suc r)) = sym (stays G.steps) ∙ G.ends in cc
    where
      stays : (k : ℕ) → advances y r k (ended s) ≡ ended s
      stays zero = refl
      stays (suc k) = stays k

  -- the pair is settled
  pub settles : (known : Bool) (s : Progress) (t : Tables) (l m : ℕ) {u : SettledPair} → Going y r (standing known s t l m) → u ≡ settled_from known y s t l r m → Going y r (settled u t l)
  unfolding advance
  settles true s t l m G e = rw e G
  settles false s t l m G e = rw e (on G (omega arith))

  module _ {u : SettledPair} {t : Tables} {l : ℕ} (G : Going y r (settled u t l)) where
    stepped : Going y r (advance y r (settled u t l))
    stepped = on G (omega arith)

    -- step 3, where the suffix at l is the smaller
    pub left_ends : u.left_smaller ≡ true → record { progress = u.progress; tables = record_previous t r l u.match } ≡ after_rows y (suc r)
    left_ends e = over (rw (advance_left y r small u t l e) at stepped)

    -- step 3, where it is not, and step 4
    module _ (e : u.left_smaller ≡ false) where
      abbrev t' : Tables
      t' = record_next t l r u.match

      abbrev p : ℕ
      p = get_or t.previous l 0

      abbrev v : ℕ
      v = get_or t.previous_match l 0

      pub none_ends : p ≡ length y → record { progress = u.progress; tables = record_previous t' r (length y) 0 } ≡ after_rows y (suc r)
      unfolding record_next
      none_ends q = over (rw (advance_right y r small u t l e, climb_none y r small u t' l q) at stepped)

      module _ (some : p ≢ length y) where
        pub less_ends : v < u.match → record { progress = u.progress; tables = record_previous t' r p v } ≡ after_rows y (suc r)
        unfolding record_next
        less_ends h = over (rw (advance_right y r small u t l e, climb_less y r small u t' l some h) at stepped)

        pub goes_on : u.match ≤ v → Going y r (standing (ltb u.match v) u.progress t' p u.match)
        unfolding record_next
        goes_on h = go (tri u.match v)
          where
            go : Tri u.match v → Going y r (standing (ltb u.match v) u.progress t' p u.match)
            go (lt w) = rw (lt-ltb u.match v w) (rw (advance_right y r small u t l e, climb_more y r small u t' l some w, e) at stepped)
            go (eq w) = rw (le-ltb u.match v (omega arith)) (rw (advance_right y r small u t l e, climb_equal y r small u t' l some (sym w)) at stepped)
            go (gt w) = absurd (omega arith)
