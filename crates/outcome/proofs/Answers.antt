-- Each way out of a build answers, and leaves, what the definitions say.
use mathlib.Core.Path.{◌≡◌, refl, ap, ◌∙◌}
use mathlib.Core.List.{List}
use Prim.Native.Nat.{ℕ, ◌≤◌}
use native.Mathlib.Omega.{arith}
use lib.ListN.{length}
use borrow.Author.Tests.{eq-eqb, ne_eqb}
use Rattle.suffix.specs.Rows.{tables_after, reach}
use Rattle.suffix.specs.Tree.{tree_length, tree_bytes}
use Rattle.refusal.specs.declared.Refusal.{Refusal}
use Rattle.refusal.specs.Numbers.{number_of}
use Rattle.refusal.specs.Conditions.{build_refusal}
use Rattle.refusal.proofs.Numbers.{positive}
use Rattle.refusal.proofs.Tables.{build_taken}
use Rattle.reuse.specs.Steps.{Progress, BuildState, after_rows, equal_comparisons, unequal_comparisons}
use Rattle.reuse.specs.Claims.{Exact}
use Rattle.reuse.proofs.Exact.{exact}
use Rattle.std.specs.Prelude.{Err}
use Rattle.outcome.specs.Built.{Lent, lent_after, Figures, finished, halted, figures_of, figures_at, refusal_of, answer, lent_at_exit, BuiltExactly}

-- what is lent and asked for n letters, where it is not refused
pub record Accepted (n R : ℕ) (before : Lent) : Type 0 where
  pub few : n ≤ 1000000
  pub previous : length before.tables.previous ≡ n
  pub next : length before.tables.next ≡ n
  pub previous_match : length before.tables.previous_match ≡ n
  pub next_match : length before.tables.next_match ≡ n
  pub tree : length before.tree ≡ tree_length n
  pub rows : R ≤ n

pub accepted : (n R : ℕ) (before : Lent) → let t = before.tables in
    build_refusal n R (length t.previous) (length t.next) (length t.previous_match) (length t.next_match) (length before.tree) ≡ 0 → Accepted n R before
accepted n R before e =
    let a = build_taken _ _ _ _ _ R (length before.tree) e in
    let u = a.0 in
    record { few = u.few; previous = u.previous; next = u.next; previous_match = u.previous_match; next_match = u.next_match; tree = a.1; rows = a.2 }

-- the refusal for n letters is that of a string of so many
pub refusal_at : (y : List ℕ) (R : ℕ) (before : Lent) {n : ℕ} → n ≡ length y → let t = before.tables in
    build_refusal n R (length t.previous) (length t.next) (length t.previous_match) (length t.next_match) (length before.tree) ≡ refusal_of y R before
unfolding refusal_of
refusal_at y R before e =
    let t = before.tables in
    ap (λ n. build_refusal n R (length t.previous) (length t.next) (length t.previous_match) (length t.next_match) (length before.tree)) e

module _ (y : List ℕ) (R : ℕ) (before : Lent) where
  abbrev n : ℕ
  n = length y

  -- what a build that is not refused leaves
  pub left_built : refusal_of y R before ≡ 0 → lent_at_exit y R before ≡ lent_after y R
  unfolding lent_at_exit
  left_built e = rw (eq-eqb (refusal_of y R before) 0 e, lent_at_exit)

  pub refused : (k : Refusal) → number_of k ≡ refusal_of y R before → BuiltExactly y R before before (figures_of (Err k))
  unfolding answer lent_at_exit
  refused k e =
      let ne = ne_eqb (refusal_of y R before) 0 (omega (arith, positive k)) in
      record {
        answers = rw (ne, answer) (ap Rattle.outcome.specs.Built.refused e);
        leaves = rw (ne, lent_at_exit) refl;
        bounded = λ z. absurd (omega (arith, positive k));
      }

  module _ (taken : refusal_of y R before ≡ 0) where
    fits : R ≤ n
    unfolding refusal_of
    fits = (accepted n R before taken).rows

    module _ (p : Progress) (after : Lent) (i : record { progress = p; tables = after.tables } ≡ after_rows y R) (q : after.tree ≡ tree_bytes y R) where
      E : Exact y R
      E = exact y R fits

      tables : after.tables ≡ tables_after y R
      tables = ap (λ (b : BuildState). b.tables) i ∙ E.tables

      equals : p.equal ≡ equal_comparisons y R
      equals = ap (λ (b : BuildState). b.progress.equal) i

      unequals : p.unequal ≡ unequal_comparisons y R
      unequals = ap (λ (b : BuildState). b.progress.unequal) i

      reached : p.reach ≡ reach y R
      reached = ap (λ (b : BuildState). b.progress.reach) i ∙ E.reached

      pub built : {letters rows : ℕ} → letters ≡ n → rows ≡ R → {figures : Figures} → figures ≡ figures_at letters rows p.equal p.unequal p.reach
          → BuiltExactly y R before after figures
      unfolding lent_after answer
      built e r f =
          record {
            answers = f ∙ rw (e, r, equals, unequals, reached, eq-eqb (refusal_of y R before) 0 taken, answer);
            leaves = rw (left_built taken, ← q, ← tables);
            bounded = λ z. E.bounded;
          }
