-- A tree split off what is left of the trees.
use mathlib.Core.Path.{◌≡◌, refl}
use mathlib.Core.List.{List}
use Prim.Native.Nat.{ℕ, ◌+◌, ◌≤◌, ◌<◌}
use native.Mathlib.Omega.{arith}
use lib.ListN.{length, take, drop, length-drop}
use lib.Seq.{drop-drop}
use Rattle.suffix.specs.Lyndon.{part}
use Rattle.suffix.specs.Tree.{tree_length}
use Rattle.refusal.specs.Conditions.{flaw_number, tree_refusal}
use Rattle.cabinet.specs.File.{body_bytes, count_in}
use Rattle.cabinet.specs.Refusals.{Fitting}
use Rattle.cabinet.proofs.Contents.{bytes_more, bytes_up}
use Rattle.cabinet.proofs.Bodies.{body_flaw, all_sound}

module _ {counts trees : List ℕ} (F : Fitting counts trees) (k : ℕ) (h : k < length counts) where
  abbrev start : ℕ
  start = body_bytes (count_in counts) k

  abbrev n : ℕ
  n = count_in counts k

  within : start + tree_length n ≤ length trees
  within = omega (arith, bytes_more (count_in counts) k, bytes_up (count_in counts) (k + 1) (length counts) (omega arith), F.bodies)

  module _ {rest : List ℕ} {m : ℕ} (e : rest ≡ drop start trees) (z : m ≡ tree_length n) where
    pub is_left : m ≤ length rest
    is_left = rw (e, z) (omega (arith, within, length-drop start trees))

    pub its_flaw : {body : List ℕ} → body ≡ take m rest → tree_refusal n body ≡ flaw_number n (part trees start (tree_length n))
    its_flaw b = rw (b, e) (body_flaw trees start n m refl (F.allowed.short k h) within z)

    pub left_then : {behind : List ℕ} → behind ≡ drop m rest → behind ≡ drop (body_bytes (count_in counts) (k + 1)) trees
    left_then b = rw (b, e, z, bytes_more (count_in counts) k) (drop-drop (tree_length n) start trees)

-- what the loop over the trees needs
pub ruleset splitting = (is_left, all_sound)
