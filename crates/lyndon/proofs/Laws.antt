-- The claims of specs/Claims.antt, each proved.
use mathlib.Core.Path.{◌≡◌, ap, ◌∙◌}
use mathlib.Core.List.{List}
use Prim.Native.Nat.{ℕ, ◌≤◌}
use native.Mathlib.Nat.{le_trans, lt_of_lt_of_le}
use lib.ListN.{length, get_or}
use borrow.Author.Tests.{eq-eqb}
use Rattle.suffix.specs.Search.{tabulate}
use Rattle.suffix.specs.Rows.{previous_after, next_after, tables_after}
use Rattle.suffix.proofs.Search.{tabulate_entry, tabulate_same}
use Rattle.suffix.proofs.Laws.{all_rows_give_all_entries}
use Rattle.refusal.specs.Numbers.{lowest, lowest_from}
use Rattle.refusal.specs.Conditions.{read_refusal, tree_refusal}
use Rattle.outcome.specs.Built.{Lent, lent_after, refusal_of}
use Rattle.outcome.proofs.Answers.{Accepted, accepted, left_built}
use Rattle.shape.specs.Claims.{ReadsAs, for_none}
use Rattle.brackets.specs.Answers as brackets
use Rattle.shape.proofs.Laws.{finished_tree, halted_tree, halted_tree_is_refused}
use Rattle.lyndon.specs.Claims.{Fits, Reads, BuiltThenRead, HaltedThenRefused, HaltedThenRead}

-- what a build that is not refused was lent
was_lent : (y : List ℕ) (R : ℕ) (before : Lent) → refusal_of y R before ≡ 0 → Accepted (length y) R before
unfolding refusal_of
was_lent y R before e = accepted (length y) R before e

-- over tables that fit, reading refuses what is no tree, and nothing else
as_tree : (n : ℕ) (t : List ℕ) (tables : brackets.Lent) → Fits n tables → brackets.refusal_of n t tables ≡ tree_refusal n t
unfolding brackets.refusal_of read_refusal tree_refusal lowest lowest_from
as_tree n t tables F = rw (eq-eqb (length tables.previous) n F.previous, eq-eqb (length tables.next) n F.next)

reads : (n : ℕ) (t p x : List ℕ) (tables : brackets.Lent) → Fits n tables → ReadsAs n t p x → Reads n t tables p x
unfolding brackets.lent_at_exit
reads n t p x tables F A =
    let e : brackets.refusal_of n t tables ≡ 0 = as_tree n t tables F ∙ A.accepted in
    record { taken = e; leaves = rw (eq-eqb (brackets.refusal_of n t tables) 0 e, brackets.lent_at_exit) (rw (A.previous, A.next)) }

pub built_then_read : BuiltThenRead
unfolding lent_after
built_then_read y before after tables e z F =
    let n = length y in
    let a = was_lent y n before e in
    reads n after.tree after.tables.previous after.tables.next tables F (rw (z, left_built y n before e, all_rows_give_all_entries y) (finished_tree y a.few))

pub halted_then_refused : HaltedThenRefused
unfolding lent_after
halted_then_refused y R before after tables h e z F =
    let a = was_lent y R before e in
    as_tree (length y) after.tree tables F ∙ rw (z, left_built y R before e) (halted_tree_is_refused y R h a.few)

pub halted_then_read : HaltedThenRead
unfolding lent_after tables_after
halted_then_read y R before after tables e z F =
    let a = was_lent y R before e in
    reads R _ _ _ tables F (rw (z, left_built y R before e, seen (previous_after y R) a.rows, seen (next_after y R) a.rows) (halted_tree y R a.rows (le_trans a.rows a.few)))
  where
    n : ℕ
    n = length y

    seen : (f : ℕ → ℕ) → R ≤ n → tabulate R (λ i. for_none n R (get_or (tabulate n f) i 0)) ≡ tabulate R (λ i. for_none n R (f i))
    seen f h = tabulate_same (λ i. for_none n R (get_or (tabulate n f) i 0)) (λ i. for_none n R (f i)) R (λ i k. ap (for_none n R) (tabulate_entry f n i (lt_of_lt_of_le k h)))
