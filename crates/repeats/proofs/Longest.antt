-- The longest Lyndon word at a place is one, and ends where next is.
use mathlib.Core.Path.{◌≡◌}
use mathlib.Core.Bool.{true}
use mathlib.Core.List.{List}
use Prim.Native.Nat.{ℕ, suc, ◌+◌, ◌-◌, ◌<◌}
use native.Mathlib.Omega.{arith}
use lib.ListN.{length}
use Rattle.suffix.specs.Nearest.{next}
use Rattle.suffix.specs.Lyndon.{is_lyndon, part, longest_lyndon}
use Rattle.suffix.proofs.Search.{Greatest, found, absent, greatest}
use Rattle.suffix.proofs.Edges.{NextAt}
use Rattle.suffix.proofs.Order.{extended}
use Rattle.suffix.proofs.Nearest.{next_at_lem, next_is}
use Rattle.suffix.proofs.Laws.{longest_is_next}

module _ (y : List ℕ) (i p : ℕ) where
  pub longest_lyndon_lem : 0 < p → longest_lyndon y i ≡ p → is_lyndon (part y i p) ≡ true
  unfolding longest_lyndon
  longest_lyndon_lem h e = rw e at (go (greatest (λ k. is_lyndon (part y i k)) 0 (suc (length y - i))) (omega arith))
    where
      go : {v : ℕ} → Greatest (suc (length y - i)) (λ k. is_lyndon (part y i k)) 0 v → 0 < v → is_lyndon (part y i v) ≡ true
      go (found a b c) w = b
      go (absent a c) w = absurd (omega arith)

  pub next_longest : i < length y → NextAt (extended y) i (i + p) → longest_lyndon y i ≡ p
  next_longest h N = omega (arith, longest_is_next y i h, next_is y i h (i + p) N)

  pub longest_next : i < length y → longest_lyndon y i ≡ p → NextAt (extended y) i (i + p)
  longest_next h e =
      let N : NextAt (extended y) i (next y i) = next_at_lem y i h in
      let q : next y i ≡ i + p = omega (arith, longest_is_next y i h, N.after) in
      rw q at N
