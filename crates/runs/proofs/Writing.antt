-- The lists are written, or left; the first entries of a table are cleared.
use mathlib.Core.Path.{◌≡◌, refl, sym, ap, ◌∙◌}
use mathlib.Core.List.{List}
use Prim.Native.Nat.{ℕ, ◌≤◌, ◌<◌}
use native.Mathlib.Omega.{arith}
use lib.ListN.{length, get_or, get_or-eq_default}
use borrow.Author.Tests.{lt-ltb, le-ltb}
use Rattle.suffix.specs.Search.{tabulate}
use Rattle.suffix.proofs.Cases.{Tri, lt, eq, gt, tri}
use Rattle.suffix.proofs.Search.{tabulate_length, tabulate_entry, tabulate_is, tabulate_same}
use Rattle.refusal.specs.declared.Refusal.TheVariants.{TooManyRuns}
use Rattle.std.specs.Prelude.{false, not, eqb, Ok, Err}
use Rattle.refusal.specs.Numbers.{number_if}
use Rattle.refusal.proofs.Tables.{not_off}
use Rattle.refusal.proofs.Numbers.{neither, unless_taken, unless_refused_lem}
use Rattle.refusal.proofs.Answers.{answered_value, answered_refused}
use Rattle.repeats.specs.Runs.{Run, no_run}
use Rattle.repeats.specs.Refusals.{Lists, lists, list_lengths_differ}
use Rattle.repeats.specs.Answers.{entry_of, lists_of}
use Rattle.runs.specs.Lists.{cut_at, cut, room_refusal, Written, Ended}

cut_in : (c : ℕ) (t : List ℕ) (k : ℕ) → k < c → get_or t k 0 ≡ cut_at c t k
unfolding cut_at
cut_in c t k h = rw (lt-ltb k c h, cut_at)

cut_out : (c : ℕ) (t : List ℕ) (k : ℕ) → c ≤ k → 0 ≡ cut_at c t k
unfolding cut_at
cut_out c t k h = rw (le-ltb k c h, cut_at)

-- a list of n entries, of which the first c are those of t and the others 0
pub cut_is : (c : ℕ) (t : List ℕ) {d : List ℕ} {n : ℕ} → length d ≡ n → ((k : ℕ) → k < c → get_or d k 0 ≡ get_or t k 0) → ((k : ℕ) → c ≤ k → k < n → get_or d k 0 ≡ 0) → d ≡ tabulate n (cut_at c t)
cut_is c t {d} {n} s a b = tabulate_is (cut_at c t) d n s (λ k h. go k h (tri k c))
  where
    go : (k : ℕ) → k < n → Tri k c → get_or d k 0 ≡ cut_at c t k
    go k h (lt w) = a k w ∙ cut_in c t k w
    go k h (eq w) = b k (omega arith) h ∙ cut_out c t k (omega arith)
    go k h (gt w) = b k (omega arith) h ∙ cut_out c t k (omega arith)

-- lists that do not differ in length
pub in_lists : (l : Lists) → list_lengths_differ (length l.starts) (length l.ends) (length l.periods) ≡ false → (length l.ends ≡ length l.starts) × (length l.periods ≡ length l.starts)
in_lists l h = let u = neither (not (eqb (length l.ends) (length l.starts))) (not (eqb (length l.periods) (length l.starts))) h in (not_off _ _ u.0, not_off _ _ u.1)

module _ (t : Lists) (c : ℕ) (before : Lists) where
  abbrev size : ℕ
  size = length before.starts

  -- the lists have fewer entries
  pub left : size < c → Written c t before before (Err TooManyRuns)
  left h =
      let q : room_refusal c size ≡ 13 = ap (λ b. number_if b TooManyRuns) (lt-ltb size c h) in
      record {
        answers = answered_refused (room_refusal c size) c TooManyRuns (sym q);
        leaves = sym (unless_refused_lem (room_refusal c size) (cut c t size) before (λ z. omega (arith, q, z)));
      }

  pub written : c ≤ size → list_lengths_differ size (length before.ends) (length before.periods) ≡ false → {s e p : List ℕ} → s ≡ tabulate size (cut_at c t.starts) → e ≡ tabulate (length before.ends) (cut_at c t.ends)
      → p ≡ tabulate (length before.periods) (cut_at c t.periods) → Written c t before (lists s e p) (Ok c)
  written h even {s} {e} {p} a b d =
      let u = in_lists before even in
      let q : room_refusal c size ≡ 0 = ap (λ b. number_if b TooManyRuns) (le-ltb size c h) in
      let z : lists s e p ≡ cut c t size = rw (a, b, d, u.0, u.1) in
      record {
        answers = answered_value (room_refusal c size) c q;
        leaves = z ∙ sym (unless_taken (room_refusal c size) (cut c t size) before q);
      }

-- ---- tables of n entries that hold the runs l

module _ (l : List Run) (n : ℕ) (few : length l ≤ n) where
  module _ (field : Run → ℕ) (none : field no_run ≡ 0) where
    abbrev table : ℕ → List ℕ
    table size = tabulate size (λ k. field (entry_of l k))

    past : (k : ℕ) → length l ≤ k → field (entry_of l k) ≡ 0
    past k h = ap field (get_or-eq_default l no_run h) ∙ none

    field_ends : Ended (length l) (table n)
    field_ends =
        let z = tabulate_length (λ k. field (entry_of l k)) n in
        record { room = omega (arith, z); beyond = λ k h w. tabulate_entry (λ k. field (entry_of l k)) n k (omega (arith, z)) ∙ past k h }

    cut_field : (size : ℕ) → tabulate size (cut_at (length l) (table n)) ≡ table size
    cut_field size = tabulate_same _ _ size (λ k h. go k (tri k (length l)))
      where
        go : (k : ℕ) → Tri k (length l) → cut_at (length l) (table n) k ≡ field (entry_of l k)
        go k (lt h) = sym (cut_in (length l) (table n) k h) ∙ tabulate_entry (λ k. field (entry_of l k)) n k (omega arith)
        go k (eq h) = sym (cut_out (length l) (table n) k (omega arith)) ∙ sym (past k (omega arith))
        go k (gt h) = sym (cut_out (length l) (table n) k (omega arith)) ∙ sym (past k (omega arith))

  pub lists_end : Ended (length l) (lists_of l n).starts × Ended (length l) (lists_of l n).periods × Ended (length l) (lists_of l n).ends
  unfolding lists_of
  lists_end = (field_ends (λ r. r.start) refl, field_ends (λ r. r.period) refl, field_ends (λ r. r.end) refl)

  pub cut_lists : (size : ℕ) → cut (length l) (lists_of l n) size ≡ lists_of l size
  unfolding lists_of
  cut_lists size = rw (cut_field (λ r. r.start) refl size, cut_field (λ r. r.end) refl size, cut_field (λ r. r.period) refl size)

pub lists_length : (l : List Run) (n : ℕ) → (length (lists_of l n).starts ≡ n) × (length (lists_of l n).periods ≡ n) × (length (lists_of l n).ends ≡ n)
unfolding lists_of
lists_length l n = (tabulate_length _ n, tabulate_length _ n, tabulate_length _ n)
