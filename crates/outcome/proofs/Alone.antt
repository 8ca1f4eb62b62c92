-- Each way out of a build of the four tables alone answers, and leaves, what the definitions say.
use mathlib.Core.Path.{◌≡◌, sym, ap, ◌∙◌}
use mathlib.Core.List.{List}
use Prim.Native.Nat.{ℕ}
use native.Mathlib.Omega.{arith}
use lib.ListN.{length}
use Rattle.std.specs.Prelude.{Result, Ok, Err}
use Rattle.suffix.specs.Rows.{Tables, tables_after}
use Rattle.refusal.specs.declared.Refusal.{Refusal}
use Rattle.refusal.specs.Numbers.{number_of}
use Rattle.refusal.specs.Conditions.{tables_refusal}
use Rattle.refusal.proofs.Numbers.{positive, unless_taken, unless_refused_lem}
use Rattle.refusal.proofs.Tables.{Taken}
use Rattle.refusal.proofs.Tables as verdict
use Rattle.reuse.specs.Steps.{Progress, BuildState, after_rows}
use Rattle.reuse.proofs.Exact.{exact}
use Rattle.outcome.specs.Built.{tables_refusal_of, TablesBuilt}

abbrev pub Lengths : ℕ → Tables → Type 0
Lengths n t = Taken n (length t.previous) (length t.next) (length t.previous_match) (length t.next_match)

-- the refusal for n letters is that of a string of so many
pub refusal_at : (y : List ℕ) (t : Tables) {n : ℕ} → n ≡ length y
    → tables_refusal n (length t.previous) (length t.next) (length t.previous_match) (length t.next_match) ≡ tables_refusal_of y t
unfolding tables_refusal_of
refusal_at y t e = ap (λ n. tables_refusal n (length t.previous) (length t.next) (length t.previous_match) (length t.next_match)) e

module _ (y : List ℕ) (before : Tables) where
  -- what is left over tables of n entries
  pub whole : {after : Tables} {verdict : Result (Unit {0}) Refusal} → Lengths (length y) before → TablesBuilt y before after verdict → after ≡ tables_after y (length y)
  unfolding tables_refusal_of
  whole S B = B.leaves ∙ unless_taken _ _ _ (verdict.none_refused _ _ _ _ _ S)

  pub refused : (k : Refusal) → number_of k ≡ tables_refusal_of y before → TablesBuilt y before before (Err k)
  refused k e = record { answers = e; leaves = sym (unless_refused_lem _ _ _ (λ z. omega (arith, positive k))) }

  module _ (n : ℕ) (long : length y ≡ n) (e : tables_refusal_of y before ≡ 0) (p : Progress) (after : Tables) (i : record { progress = p; tables = after } ≡ after_rows y n) where
    tables : after ≡ tables_after y (length y)
    tables = ap (λ (b : BuildState). b.tables) i ∙ (exact y n (omega arith)).tables ∙ ap (tables_after y) (sym long)

    pub built : TablesBuilt y before after (Ok tt)
    built = record { answers = sym e; leaves = tables ∙ sym (unless_taken _ _ _ e) }
