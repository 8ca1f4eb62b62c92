-- The loops of `build::build_rows`.
use mathlib.Core.Path.{◌≡◌}
use Prim.Native.Nat.{◌-◌}
use lib.ListN.{length}
use Rattle.std.specs.Prelude.{map}
use Rattle.ranks.specs.Ranks.{oriented}
use Rattle.entries.specs.Lent.{tables_in, SameLent}
use Rattle.build.proofs.Invariants.{raised, AtRows, AtWalk}
use Rattle.build.proofs.build_rows.Given as goal

abbrev pub invariant-walk : goal.invariant-walk
invariant-walk g l =
    AtWalk (oriented l.reverse (map g.S.Letter.rank l.string)) l.rows l.r l.state (tables_in l.tables) l.tree l.bit l.p l.v l.l l.m l.known
    × SameLent l.fn.tables l.tables

abbrev pub decreases-walk : goal.decreases-walk
decreases-walk g l = l.l

abbrev pub invariant-rows : goal.invariant-rows
invariant-rows g l =
    AtRows (oriented l.reverse (map g.S.Letter.rank l.string)) l.rows (raised l.state) (tables_in l.tables) l.p l.v l.tree l.bit
    × (length l.tree ≡ length l.fn.tree) × SameLent l.fn.tables l.tables

abbrev pub decreases-rows : goal.decreases-rows
decreases-rows g l = l.rows - l.state.rows
