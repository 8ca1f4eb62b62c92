-- Place after place, the reports are put into three tables.
use mathlib.Core.Path.{◌≡◌, refl, ap, ◌∙◌}
use mathlib.Core.Logic.{◌≢◌}
use mathlib.Core.Bool.{Bool, true, false}
use mathlib.Core.List.{List}
use Prim.Native.Nat.{ℕ, suc, ◌+◌, ◌≤◌, ◌<◌}
use native.Mathlib.Omega.{arith}
use native.Mathlib.Numerals.{add-one}
use lib.ListN.{length, get_or}
use Rattle.suffix.specs.Search.{tabulate}
use Rattle.suffix.specs.Rows.{Tables}
use Rattle.suffix.specs.Nearest.{next, next_match}
use Rattle.suffix.proofs.Search.{tabulate_length, tabulate_entry}
use Rattle.suffix.proofs.Nearest.{next_at_lem, next_le, next_match_is}
use Rattle.suffix.proofs.Order.{lce_match, agree_fits}
use Rattle.suffix.proofs.Laws.{all_rows_give_all_entries}
use Rattle.ranks.specs.Ranks.{AllFit, greatest_rank, oriented}
use Rattle.ranks.proofs.Ranks.{oriented_length}
use Rattle.std.specs.Prelude.{Option, Some, None, Result, Err}
use Rattle.refusal.specs.declared.Refusal.{Refusal}
use Rattle.refusal.proofs.Numbers.{positive}
use Rattle.refusal.proofs.Tables.{none_refused}
use Rattle.outcome.specs.Built.{tables_refusal_of, TablesBuilt}
use Rattle.outcome.proofs.Alone.{Lengths, whole}
use Rattle.repeats.specs.Runs.{Run, no_run}
use Rattle.repeats.specs.Report.{runs, Before}
use Rattle.repeats.specs.Roots.{AtMost}
use Rattle.repeats.specs.Gathered.{report_at, put, gathered}
use Rattle.repeats.specs.Refusals.{Lists}
use Rattle.repeats.proofs.Gathering.{Holds, Gathers, puts, leaves, gathers_how, gathered_holds, gathered_is, gathered_few, fresh}
use Rattle.run_list.specs.declared.Run as declared
use Rattle.run_list.specs.declared.RunList.{RunList}
use Rattle.run_list.specs.Entries.{tables, entry_in, entries_from, entries, Has, SameTables}
use Rattle.run_list.specs.Inserted.{is_taken, lists_with, count_with, Inserted}
use Rattle.run_list.specs.Claims.{Insertable, Put}
use Rattle.run_list.proofs.Entries.{same_here, same_after, entries_count, entry_mem, entries_ordered}
use Rattle.run_list.proofs.Laws.{order_is_kept}
use Rattle.root_runs.specs.States.{Within, run_in}
use Rattle.root_runs.specs.Bounds.{report_within}
use Rattle.root_runs.proofs.Laws.{within_as_reported}
use Rattle.roots.specs.States.{Tabled}

pub at_most : {y : List ℕ} → AllFit y → AtMost greatest_rank y
at_most h = record { at = h }

-- next and its match lie in the string, under either order
within_next : (y : List ℕ) (o : Bool) (i : ℕ) → i < length y → {j : ℕ} → j ≡ next (oriented o y) i → {m : ℕ} → m ≡ next_match (oriented o y) i → Within (length y) i j m
within_next y o i h a b =
    let z : List ℕ = oriented o y in
    let n : length z ≡ length y = oriented_length greatest_rank o y in
    let g : i < length z = omega arith in
    let N = next_at_lem z i g in
    let w = next_le z i in
    let m = agree_fits z N.after w (lce_match z i (next z i) (omega arith) (omega arith) w).same in
    record { after = omega (arith, N.after); fits = omega (arith, next_match_is z i g) }

-- the tables of an order are built
pub tabled : (y : List ℕ) (o : Bool) {before after : Tables} {verdict : Result (Unit {0}) Refusal} → Lengths (length (oriented o y)) before → TablesBuilt (oriented o y) before after verdict
    → Tabled y o after.next after.next_match
tabled y o {before} {after} S B =
    let z : List ℕ = oriented o y in
    let n : length z ≡ length y = oriented_length greatest_rank o y in
    let all = whole z before S B ∙ all_rows_give_all_entries z in
    record { next = ap (λ (t : Tables). t.next) all ∙ ap (λ k. tabulate k (next z)) n; match = ap (λ (t : Tables). t.next_match) all ∙ ap (λ k. tabulate k (next_match z)) n }

pub tabled_as : {y : List ℕ} {o : Bool} {a b : List ℕ} → Tabled y o a b → {c d : List ℕ} → c ≡ a → d ≡ b → Tabled y o c d
tabled_as T e f = record { next = e ∙ T.next; match = f ∙ T.match }

-- such tables keep their lengths, and are not refused
pub still : (y : List ℕ) (o : Bool) {before after : Tables} {verdict : Result (Unit {0}) Refusal} → Lengths (length (oriented o y)) before → TablesBuilt (oriented o y) before after verdict
    → Lengths (length (oriented o y)) after
still y o {before} S B =
    let z : List ℕ = oriented o y in
    let all = whole z before S B ∙ all_rows_give_all_entries z in
    record {
      few = S.few;
      previous = ap (λ (t : Tables). length t.previous) all ∙ tabulate_length _ _;
      next = ap (λ (t : Tables). length t.next) all ∙ tabulate_length _ _;
      previous_match = ap (λ (t : Tables). length t.previous_match) all ∙ tabulate_length _ _;
      next_match = ap (λ (t : Tables). length t.next_match) all ∙ tabulate_length _ _;
    }

pub not_refused : (y : List ℕ) (o : Bool) {before after : Tables} {k : Refusal} → Lengths (length (oriented o y)) before → TablesBuilt (oriented o y) before after (Err k) → ⊥
unfolding tables_refusal_of
not_refused y o {k = k} S B = omega (arith, positive k, B.answers, none_refused _ _ _ _ _ S)

-- what the tables of an order say
module _ {y : List ℕ} {o : Bool} {nexts matches : List ℕ} (T : Tabled y o nexts matches) where
  pub nexts_length : length nexts ≡ length y
  nexts_length = ap length T.next ∙ tabulate_length _ (length y)

  pub matches_length : length matches ≡ length y
  matches_length = ap length T.match ∙ tabulate_length _ (length y)

  pub next_entry : (i : ℕ) → i < length y → get_or nexts i 0 ≡ next (oriented o y) i
  next_entry i h = ap (λ t. get_or t i 0) T.next ∙ tabulate_entry (next (oriented o y)) (length y) i h

  pub match_entry : (i : ℕ) → i < length y → get_or matches i 0 ≡ next_match (oriented o y) i
  match_entry i h = ap (λ t. get_or t i 0) T.match ∙ tabulate_entry (next_match (oriented o y)) (length y) i h

-- the places below i are done, c runs are found; `periods` still holds next from i on
pub record Gathering (y : List ℕ) (i c : ℕ) (t : Lists) : Type 0 where
  pub most : i ≤ length y
  pub few : c ≤ i
  pub holds : entries t c ≡ gathered greatest_rank y i
  pub starts : length t.starts ≡ length y
  pub ends : length t.ends ≡ length y
  pub periods : length t.periods ≡ length y
  pub next : (k : ℕ) → i ≤ k → k < length y → get_or t.periods k 0 ≡ next (oriented false y) k

pub gathering_none : {y : List ℕ} {t : Lists} {matches : List ℕ} → Tabled y false t.periods matches → length t.starts ≡ length y → length t.ends ≡ length y → Gathering y 0 0 t
unfolding entries_from gathered
gathering_none T a b =
    record { most = omega arith; few = omega arith; holds = refl; starts = a; ends = b; periods = nexts_length T; next = λ k h w. next_entry T k w }

module _ {y : List ℕ} (B : AtMost greatest_rank y) {i c : ℕ} {t : Lists} (G : Gathering y i c t) (h : i < length y) where
  gathering_has : Has t c
  gathering_has = record { starts = omega arith; ends = omega arith; periods = omega arith }

  insertable : (r : Run) → r ≡ report_at greatest_rank y i → r.period ≢ 0 → Insertable t c r
  insertable r e ne = rw e (go (gathers_how greatest_rank y i) (rw e at ne))
    where
      H : Holds greatest_rank y i (gathered greatest_rank y i)
      H = gathered_holds B i

      ordered : (a b : ℕ) → a < b → b < c → Before (entry_in t a) (entry_in t b)
      ordered a b u v = entries_ordered t 0 c (rw G.holds H.ordered) a b (omega arith) u (omega arith)

      go : {q : Run} → Gathers greatest_rank y i q → q.period ≢ 0 → Insertable t c q
      go (puts o ok w p) n =
          record { ordered = ordered; fresh = λ k v. rw w (fresh B H o ok (entry_in t k) (rw G.holds at (entry_mem t 0 c k (omega arith) (omega arith)))) }
      go (leaves a b w) n = absurd (n (ap (λ (v : Run). v.period) w))

  pub gathering_more : (r : Run) → r ≡ report_at greatest_rank y i → (u : Lists) (d : ℕ) → Inserted c r t u d → length u.starts ≡ length t.starts → length u.ends ≡ length t.ends → length u.periods ≡ length t.periods
      → Gathering y (i + 1) d u
  unfolding gathered
  gathering_more r e u d E a b g =
      rw (add-one i)
      (record {
        most = omega arith;
        few = omega (arith, entries_count u d holds, gathered_few greatest_rank y i);
        holds = holds;
        starts = omega arith;
        ends = omega arith;
        periods = omega arith;
        next = λ k v w. P.keeps k (omega arith) ∙ G.next k (omega arith) w;
      })
    where
      P : Put c r t u d
      P = order_is_kept c r t u d gathering_has (insertable r e) E

      holds : entries u d ≡ gathered greatest_rank y (suc i)
      holds = P.holds ∙ ap (put r) G.holds ∙ ap (λ q. put q (gathered greatest_rank y i)) e

-- what is not a run is none
pub none_in : (o : Option declared.Run) → ((r : declared.Run) → o ≡ Some r → ⊥) → run_in o ≡ no_run
none_in None h = refl
none_in (Some r) h = absurd (h r refl)

-- no run is put in
none_inserted : (c : ℕ) (t : Lists) → Inserted c no_run t t c
unfolding is_taken lists_with count_with
none_inserted c t = record { leaves = refl; answers = refl }

-- the same of a list of runs, whose tables are the lent ones
pub record Collecting (y : List ℕ) (i : ℕ) (was is : RunList) : Type 0 where
  pub same : SameTables was is
  pub gathering : Gathering y i is.count (tables is)

pub collecting_none : {y : List ℕ} {l : RunList} {matches : List ℕ} → Tabled y false l.periods.now matches → length l.starts.now ≡ length y → length l.ends.now ≡ length y → l.count ≡ 0
    → Collecting y 0 l l
collecting_none T a b e = record { same = same_here; gathering = rw e (gathering_none T a b) }

pub collecting_more : {y : List ℕ} → AtMost greatest_rank y → {i : ℕ} {was is : RunList} → Collecting y i was is → i < length y
    → {r : Run} → r ≡ report_at greatest_rank y i → {to : RunList} → SameTables is to → Inserted is.count r (tables is) (tables to) to.count → Collecting y (i + 1) was to
collecting_more B K h e S E =
    record { same = same_after K.same S; gathering = gathering_more B K.gathering h _ e _ _ E S.starts.size S.ends.size S.periods.size }

pub collecting_none_more : {y : List ℕ} → AtMost greatest_rank y → {i : ℕ} {was is : RunList} → Collecting y i was is → i < length y → no_run ≡ report_at greatest_rank y i → Collecting y (i + 1) was is
collecting_none_more B K h e = collecting_more B K h e same_here (none_inserted _ _)

pub gathering_done : {y : List ℕ} → AtMost greatest_rank y → {i c : ℕ} {t : Lists} → Gathering y i c t → length y ≤ i → entries t c ≡ runs y
gathering_done {y} B {i} G w = let z : i ≡ length y = omega arith in G.holds ∙ ap (gathered greatest_rank y) z ∙ gathered_is B

-- what is read at place i is its report
pub report_read : (y : List ℕ) → length y ≤ 1000000 → (i : ℕ) → i < length y → {j m k l : ℕ} {r : Run} → r ≡ report_within y i j m k l → j ≡ next (oriented false y) i → m ≡ next_match (oriented false y) i → k ≡ next (oriented true y) i → l ≡ next_match (oriented true y) i
    → r ≡ report_at greatest_rank y i
unfolding report_at
report_read y few i h {j} {m} {k} {l} w a b d e =
    let is = within_as_reported y i j m k l few (within_next y false i h a b) (within_next y true i h d e) in
    rw (a, b, d, e) at (w ∙ is)
