-- Tables that are written row by row, and hold anything from there on: seen as cleared from there on.
use mathlib.Core.Path.{◌≡◌, sym, ◌∙◌}
use mathlib.Core.List.{List}
use Prim.Native.Nat.{ℕ, suc, ◌<◌}
use native.Mathlib.Omega.{arith}
use lib.ListN.{length, replicate}
use Rattle.suffix.specs.Rows.{Tables}
use Rattle.entries.specs.Cleared.{cleared_from}
use Rattle.entries.proofs.Clearing.{cleared_all, cleared_none, cleared_set, cleared_more, cleared_same}
use Rattle.reuse.specs.Steps.{record_previous, record_next}
use Rattle.outcome.specs.Built.{tables_of}
use Rattle.entries.specs.Lent.{cleared_tables}

module _ (n : ℕ) (t : Tables) where
  pub next_recorded : (k l r m : ℕ) → l < k → cleared_tables n k (record_next t l r m) ≡ record_next (cleared_tables n k t) l r m
  unfolding record_next
  next_recorded k l r m h = rw (cleared_set k n l r t.next h, cleared_set k 0 l m t.next_match h)

  -- of position k, previous is recorded and next is left pending
  pub row_recorded : (k p v : ℕ) → cleared_tables n (suc k) (record_next (record_previous t k p v) k n 0) ≡ record_previous (cleared_tables n k t) k p v
  unfolding record_previous record_next
  row_recorded k p v = rw (cleared_more k n p t.previous, cleared_more k 0 v t.previous_match, cleared_same k n t.next, cleared_same k 0 t.next_match)

  -- none is recorded where none is
  pub previous_none : record_previous (cleared_tables n 0 t) 0 n 0 ≡ cleared_tables n 0 t
  unfolding record_previous
  previous_none =
      rw (sym (cleared_more 0 n n t.previous) ∙ cleared_same 0 n t.previous, sym (cleared_more 0 0 0 t.previous_match) ∙ cleared_same 0 0 t.previous_match)

  -- nothing is recorded
  pub all_cleared : length t.previous ≡ n → length t.next ≡ n → length t.previous_match ≡ n → length t.next_match ≡ n
      → cleared_tables n 0 t ≡ tables_of (replicate n n) (replicate n n) (replicate n 0) (replicate n 0)
  all_cleared a b c d =
      rw (cleared_all n t.previous, cleared_all n t.next, cleared_all 0 t.previous_match, cleared_all 0 t.next_match, a, b, c, d)

-- no place is left to clear
pub none_left : (n : ℕ) (t : Tables) → length t.previous ≡ n → length t.next ≡ n → length t.previous_match ≡ n → length t.next_match ≡ n → cleared_tables n n t ≡ t
none_left n t a b c d = rw (past t.previous n a, past t.next n b, past t.previous_match 0 c, past t.next_match 0 d)
  where
    past : (l : List ℕ) (v : ℕ) → length l ≡ n → cleared_from n v l ≡ l
    past l v e = cleared_none n v l (omega arith)
