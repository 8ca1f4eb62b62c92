-- The refusals 1 and 2, test by test, and the ways out of the gathering.
use mathlib.Core.Path.{◌≡◌, refl, sym, ap, ◌∙◌}
use mathlib.Core.Bool.{Bool, true, false, not, ◌||◌}
use mathlib.Core.List.{List, [], ◌∷◌, map}
use Prim.Native.Nat.{ℕ, ◌≤◌}
use native.Mathlib.Omega.{arith}
use lib.Dec.{eqb}
use lib.ListN.{length}
use borrow.Author.Tests.{ltb-false}
use Rattle.refusal.specs.declared.Refusal.{Refusal}
use Rattle.refusal.specs.declared.Refusal.TheVariants.{TooLong, TableLength}
use Rattle.std.specs.Prelude.{Result, Ok, Err}
use Rattle.refusal.specs.Numbers.{number_of, number_if, first_of}
use Rattle.refusal.specs.Answers.{value}
use Rattle.refusal.specs.Conditions.{too_long}
use Rattle.refusal.proofs.Numbers.{positive, neither, unless_taken, unless_refused_lem}
use Rattle.refusal.proofs.Tables.{not_off}
use Rattle.refusal.proofs.Answers.{answered_value, answered_refused}
use Rattle.repeats.specs.Report.{runs}
use Rattle.repeats.specs.Refusals.{work_length_off}
use Rattle.suffix.specs.Rows.{Tables}
use Rattle.ranks.specs.Ranks.{oriented, greatest_rank}
use Rattle.ranks.proofs.Ranks.{oriented_length}
use Rattle.outcome.specs.Built.{tables_of, TablesBuilt}
use Rattle.outcome.proofs.Alone.{Lengths}
use Rattle.roots.specs.declared.WorkTables.{WorkTables}
use Rattle.roots.specs.WorkTables.{work_in, work_refusal, work_with, Gathered}
use Rattle.roots.specs.States.{HasRoom}
use Rattle.roots.proofs.Gathering.{still}

-- ---- whether a length is off

none_off : (a n : ℕ) (others : Bool) → not (eqb a n) || others ≡ false → (a ≡ n) × (others ≡ false)
none_off a n others h = let u = neither (not (eqb a n)) others h in (not_off a n u.0, u.1)

-- ---- 1 and 2

neither_applies : (a b : Bool) → first_of (number_if a TooLong ∷ number_if b TableLength ∷ []) ≡ 0 → (a ≡ false) × (b ≡ false)
unfolding first_of
neither_applies true b h = absurd (omega arith)
neither_applies false true h = absurd (omega arith)
neither_applies false false h = (refl, refl)

-- lengths of six tables for n letters that are not refused
pub record Fitting (n a b c d e f : ℕ) : Type 0 where
  pub few : n ≤ 1000000
  pub previous : a ≡ n
  pub next : b ≡ n
  pub previous_match : c ≡ n
  pub next_match : d ≡ n
  pub reverse_next : e ≡ n
  pub reverse_match : f ≡ n

pub fitting : (n a b c d e f : ℕ) → work_refusal n (a ∷ b ∷ c ∷ d ∷ e ∷ f ∷ []) ≡ 0 → Fitting n a b c d e f
unfolding work_refusal
fitting n a b c d e f h =
    let L = neither_applies (too_long n) (work_length_off n (a ∷ b ∷ c ∷ d ∷ e ∷ f ∷ [])) h in
    let p = none_off a n _ L.1 in
    let q = none_off b n _ p.1 in
    let r = none_off c n _ q.1 in
    let s = none_off d n _ r.1 in
    let t = none_off e n _ s.1 in
    record { few = ltb-false 1000000 n L.0; previous = p.0; next = q.0; previous_match = r.0; next_match = s.0; reverse_next = t.0; reverse_match = (none_off f n _ t.1).0 }

-- six tables for n letters that are not refused: those that the build of the order has of them, those that the build of the reverse has, where the
-- first leaves t, and those that it leaves
module _ (y : List ℕ) (w : WorkTables) {n : ℕ} (long : n ≡ length y) (taken : 0 ≡ work_refusal n (map length (work_in w))) where
  abbrev fit : Fitting n (length w.previous.now) (length w.next.now) (length w.previous_match.now) (length w.next_match.now) (length w.reverse_next.now) (length w.reverse_match.now)
  fit = fitting _ _ _ _ _ _ _ (sym taken)

  pub for_build : Lengths (length (oriented false y)) (tables_of w.previous.now w.next.now w.previous_match.now w.next_match.now)
  for_build = rw (sym long) (record { few = fit.few; previous = fit.previous; next = fit.next; previous_match = fit.previous_match; next_match = fit.next_match })

  pub for_reverse : (t : Tables) {verdict : Result (Unit {0}) Refusal} → TablesBuilt (oriented false y) (tables_of w.previous.now w.next.now w.previous_match.now w.next_match.now) t verdict
      → {a b : List ℕ} → a ≡ t.previous → b ≡ t.previous_match → Lengths (length (oriented true y)) (tables_of a w.reverse_next.now b w.reverse_match.now)
  for_reverse t B e f =
      let m : length (oriented true y) ≡ length y = oriented_length greatest_rank true y in
      let L = still y false for_build B in
      record {
        few = omega (arith, m, long, fit.few);
        previous = ap length e ∙ L.previous ∙ sym m;
        next = fit.reverse_next ∙ long ∙ sym m;
        previous_match = ap length f ∙ L.previous_match ∙ sym m;
        next_match = fit.reverse_match ∙ long ∙ sym m;
      }

  pub has_room : {before : Tables} → Lengths (length (oriented true y)) before → (t : Tables) {verdict : Result (Unit {0}) Refusal} → TablesBuilt (oriented true y) before t verdict
      → {v : WorkTables} → v.previous.now ≡ t.previous → v.previous_match.now ≡ t.previous_match → HasRoom n v
  has_room S t B e f =
      let m : length (oriented true y) ≡ length y = oriented_length greatest_rank true y in
      let L = still y true S B in
      record { few = fit.few; previous = ap length e ∙ L.previous ∙ m ∙ sym long; previous_match = ap length f ∙ L.previous_match ∙ m ∙ sym long }

-- ---- the ways out

module _ (y : List ℕ) (work : List (List ℕ)) where
  abbrev number : ℕ
  number = work_refusal (length y) (map length work)

  pub refused : {n : ℕ} (k : Refusal) → number_of k ≡ work_refusal n (map length work) → n ≡ length y → Gathered y work work (Err k)
  refused k q long =
      let e : number_of k ≡ number = q ∙ ap (λ n. work_refusal n (map length work)) long in
      record { answers = answered_refused number (length (runs y)) k e; leaves = sym (unless_refused_lem number (work_with (runs y) (length y)) work (λ z. omega (arith, positive k, e, z))) }

  -- the runs are left in the tables
  pub gathered : {n c : ℕ} → n ≡ length y → 0 ≡ work_refusal n (map length work) → c ≡ length (runs y) → {after : List (List ℕ)} → after ≡ work_with (runs y) n → Gathered y work after (Ok c)
  gathered long q a b =
      let e : number ≡ 0 = ap (λ n. work_refusal n (map length work)) (sym long) ∙ sym q in
      record { answers = ap value a ∙ answered_value number (length (runs y)) e; leaves = b ∙ ap (work_with (runs y)) long ∙ sym (unless_taken number (work_with (runs y) (length y)) work e) }
