-- The loop of `trees_text::print_lines`: a line is in the buffer, and those before it are written.
use mathlib.Core.Path.{◌≡◌}
use Prim.Native.Nat.{◌-◌}
use lib.ListN.{length}
use Rattle.trees_text.specs.Text.{size_text}
use Rattle.trees_text.proofs.Running.{Running}
use Rattle.trees_text.proofs.print_lines.Given as goal

abbrev pub invariant-loop-line : goal.invariant-loop-line
invariant-loop-line g l = (length l.tree ≡ length l.initial.tree) × (length l.text ≡ length l.initial.text) × Running l.size l.bytes l.line l.tree

abbrev pub decreases-loop-line : goal.decreases-loop-line
decreases-loop-line g l = length (size_text l.size) - l.bytes
