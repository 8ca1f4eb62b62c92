-- The refusals, test by test, and the ways out of the report.
use mathlib.Core.Path.{◌≡◌, refl, sym, ap, ◌∙◌}
use mathlib.Core.Logic.{◌≢◌, ◌⊎◌, inl, inr}
use mathlib.Core.Bool.{Bool, true, false, false≢true}
use mathlib.Core.List.{List, [], ◌∷◌, ◌++◌, map}
use Prim.Native.Nat.{ℕ, ◌≤◌, ◌<◌}
use native.Mathlib.Omega.{arith}
use lib.ListN.{length, get_or, replicate}
use Rattle.refusal.specs.declared.Refusal.TheVariants.{TooLong, TableLength, ListLengths, TooManyRuns}
use Rattle.refusal.specs.declared.Refusal.{Refusal}
use Rattle.std.specs.Prelude.{Result, Ok, Err}
use Rattle.suffix.proofs.Cases.{Same, same, other, same?}
use Rattle.refusal.specs.Answers.{Figures, value, refused, figures_of, answered}
use Rattle.refusal.specs.Numbers.{number_of, number_if, first_of, unless_refused}
use Rattle.refusal.specs.Conditions.{too_long}
use Rattle.refusal.proofs.Numbers.{positive, unless_taken, unless_refused_lem}
use Rattle.refusal.proofs.Answers.{answered_value, answered_told}
use Rattle.repeats.specs.Report.{runs}
use Rattle.repeats.specs.Refusals.{Lists, lists, work_length_off, list_lengths_differ, too_many_runs, lengths_refusal, runs_refusal}
use Rattle.repeats.specs.Answers.{answer, lists_of, lists_after, zeros}
use Rattle.repeats.proofs.Gathering.{runs_most}
use Rattle.repeats.proofs.Laws.{refusals_leave}
use Rattle.roots.specs.declared.WorkTables.{WorkTables}
use Rattle.roots.specs.WorkTables.{work_in, work_refusal, work_with, Gathered}
use Rattle.roots.proofs.Refusing.{fitting}
use Rattle.runs.specs.Lists.{room_refusal, HasRoom, Written, Ended}
use Rattle.runs.specs.Reported.{work_of, Reported}
use Rattle.runs.proofs.Writing.{lists_end, cut_lists, lists_length}

-- the refusal that is told
abbrev is_value : Figures → Bool
is_value (value x) = true
is_value (refused x) = false

abbrev figure : Figures → ℕ
figure (value x) = x
figure (refused x) = x

refused_told : (number v k : ℕ) → refused k ≡ answered number v → k ≡ number
refused_told number v k h = go (same? number 0)
  where
    go : Same number 0 → k ≡ number
    go (same e) = absurd (false≢true (ap is_value (h ∙ sym (answered_value number v e))))
    go (other e) = ap figure (h ∙ unless_refused_lem number (value v) (refused number) e)

-- ---- 1, 2 and 12, by their tests a, b and c, and then 13, by its test d

abbrev numbers : (a b c : Bool) → List ℕ
numbers a b c = number_if a TooLong ∷ number_if b TableLength ∷ number_if c ListLengths ∷ []

abbrev two : (a b : Bool) → List ℕ
two a b = number_if a TooLong ∷ number_if b TableLength ∷ []

-- 1 and 2 come first, with neither of them 12 is left
work_first : (a b c : Bool) → first_of (two a b) ≢ 0 → first_of (numbers a b c) ≡ first_of (two a b)
unfolding first_of
work_first true b c h = refl
work_first false true c h = refl
work_first false false c h = absurd (h refl)

work_none : (a b c : Bool) → first_of (two a b) ≡ 0 → first_of (numbers a b c) ≡ number_if c ListLengths
unfolding first_of
work_none true b c h = absurd (omega arith)
work_none false true c h = absurd (omega arith)
work_none false false true h = refl
work_none false false false h = refl

-- a refusal by lengths is the refusal, and is not 13
lengths_first : (a b c d : Bool) → first_of (numbers a b c) ≢ 0 → (first_of (numbers a b c ++ number_if d TooManyRuns ∷ []) ≡ first_of (numbers a b c)) × (first_of (numbers a b c) ≢ 13)
unfolding first_of
lengths_first true b c d h = (refl, omega arith)
lengths_first false true c d h = (refl, omega arith)
lengths_first false false true d h = (refl, omega arith)
lengths_first false false false d h = absurd (h refl)

-- with none of them 13 is left
lengths_none : (a b c d : Bool) → first_of (numbers a b c) ≡ 0 → (first_of (two a b) ≡ 0) × (first_of (numbers a b c ++ number_if d TooManyRuns ∷ []) ≡ number_if d TooManyRuns)
unfolding first_of
lengths_none true b c d h = absurd (omega arith)
lengths_none false true c d h = absurd (omega arith)
lengths_none false false true d h = absurd (omega arith)
lengths_none false false false true h = (refl, refl)
lengths_none false false false false h = (refl, refl)

module _ (n : ℕ) (work : List ℕ) (starts ends periods : ℕ) where
  abbrev by_lengths : ℕ
  by_lengths = lengths_refusal n work starts ends periods

  abbrev differ : Bool
  differ = list_lengths_differ starts ends periods

  pub says_work : {k : ℕ} → k ≢ 0 → k ≡ work_refusal n work → k ≡ by_lengths
  unfolding work_refusal lengths_refusal
  says_work h e = e ∙ sym (work_first (too_long n) (work_length_off n work) differ (λ z. h (e ∙ z)))

  module _ (w : work_refusal n work ≡ 0) where
    says : {k : ℕ} (b : Bool) → k ≡ number_if b ListLengths → differ ≡ b → k ≡ by_lengths
    unfolding work_refusal lengths_refusal
    says b z e = z ∙ ap (λ d. number_if d ListLengths) (sym e) ∙ sym (work_none (too_long n) (work_length_off n work) differ w)

    pub says_twelve : differ ≡ true → 12 ≡ by_lengths
    says_twelve e = says true refl e

    pub says_none : differ ≡ false → 0 ≡ by_lengths
    says_none e = says false refl e

-- ---- the two ways out

module _ (y : List ℕ) (work : List (List ℕ)) (lent : Lists) where
  abbrev size : ℕ
  size = length lent.starts

  abbrev number : ℕ
  number = runs_refusal y work lent

  abbrev of_lengths : ℕ
  of_lengths = lengths_refusal (length y) (map length work) size (length lent.ends) (length lent.periods)

  abbrev differ_in_length : Bool
  differ_in_length = list_lengths_differ size (length lent.ends) (length lent.periods)

  pub refused_by_lengths : (k : ℕ) → 0 < k → k ≡ of_lengths → Reported y work lent work lent (refused k)
  unfolding lengths_refusal runs_refusal answer
  refused_by_lengths k h e =
      let L = lengths_first (too_long (length y)) (work_length_off (length y) (map length work)) differ_in_length (too_many_runs y size) (λ z. omega (arith, h, e, z)) in
      let q : k ≡ number = e ∙ sym L.0 in
      let ne : number ≢ 0 = (λ z. omega (arith, h, q, z)) in
      let R = refusals_leave y work lent in
      record { answers = ap refused q ∙ sym (unless_refused_lem number (value (length (runs y))) (refused number) ne); leaves_lists = sym (R.same_lists ne); leaves_work = sym (R.same_work ne (λ z. L.1 (sym e ∙ q ∙ z))) }

  -- where lengths refuse nothing: the runs are written or are too many, and the work tables are cleared
  module _ (taken : of_lengths ≡ 0) where
    room_left : number ≡ room_refusal (length (runs y)) size
    unfolding lengths_refusal runs_refusal
    room_left = (lengths_none (too_long (length y)) (work_length_off (length y) (map length work)) differ_in_length (too_many_runs y size) taken).1

    writes_work : (number ≡ 0) ⊎ (number ≡ 13)
    writes_work = go (too_many_runs y size) room_left
      where
        go : (b : Bool) → number ≡ number_if b TooManyRuns → (number ≡ 0) ⊎ (number ≡ 13)
        go true e = inr e
        go false e = inl e

    written_all : {after : Lists} {r : Result ℕ Refusal} → Written (length (runs y)) (lists_of (runs y) (length y)) lent after r → {cleared : List (List ℕ)} → cleared ≡ map zeros work
        → Reported y work lent cleared after (figures_of r)
    unfolding answer lists_after
    written_all W w =
        let l = runs y in
        let m : length l ≤ length y = omega (arith, runs_most y) in
        record {
          answers = W.answers ∙ ap (λ k. answered k (length l)) (sym room_left);
          leaves_lists = W.leaves ∙ ap (λ (t : Lists). unless_refused (room_refusal (length l) size) t lent) (cut_lists l (length y) m size) ∙ ap (λ k. unless_refused k (lists_of l size) lent) (sym room_left);
          leaves_work = w ∙ sym ((refusals_leave y work lent).cleared writes_work);
        }

  -- ---- by the tests of the lengths

  abbrev of_work : ℕ
  of_work = work_refusal (length y) (map length work)

  -- the work tables are refused
  work_refused : (k : Refusal) → number_of k ≡ of_work → Reported y work lent work lent (refused (number_of k))
  work_refused k e = refused_by_lengths (number_of k) (positive k) (says_work (length y) (map length work) size (length lent.ends) (length lent.periods) (λ z. omega (arith, positive k, z)) e)

  module _ {n : ℕ} (long : n ≡ length y) where
    of_length : {k : ℕ} → k ≡ work_refusal n (map length work) → k ≡ of_work
    of_length e = e ∙ ap (λ n. work_refusal n (map length work)) long

    pub refused_first : (k : Refusal) → number_of k ≡ work_refusal n (map length work) → Reported y work lent work lent (refused (number_of k))
    refused_first k e = work_refused k (of_length e)

    pub lists_differ : 0 ≡ work_refusal n (map length work) → differ_in_length ≡ true → Reported y work lent work lent (refused 12)
    lists_differ e d =
        refused_by_lengths 12 (omega arith) (says_twelve (length y) (map length work) size (length lent.ends) (length lent.periods) (sym (of_length e)) d)

  -- what the gathering refuses
  pub gathering_refused : {k : Refusal} {after : List (List ℕ)} → Gathered y work after (Err k) → Reported y work lent after lent (refused (number_of k))
  gathering_refused {k} G =
      let e = refused_told of_work (length (runs y)) (number_of k) G.answers in
      let same : work ≡ _ = sym (unless_refused_lem of_work (work_with (runs y) (length y)) work (λ z. omega (arith, positive k, e, z))) ∙ sym G.leaves in
      rw (sym same) (work_refused k e)

-- The runs are gathered in the tables v, which were w.
module _ (y : List ℕ) (w v : WorkTables) {count : ℕ} (G : Gathered y (work_in w) (work_in v) (Ok count)) where
  abbrev n : ℕ
  n = length y

  abbrev found : Lists
  found = lists_of (runs y) n

  none : (work_refusal n (map length (work_in w)) ≡ 0) × (count ≡ length (runs y))
  none = answered_told (work_refusal n (map length (work_in w))) (length (runs y)) count G.answers

  taken : (lent : Lists) → list_lengths_differ (length lent.starts) (length lent.ends) (length lent.periods) ≡ false
      → lengths_refusal n (map length (work_in w)) (length lent.starts) (length lent.ends) (length lent.periods) ≡ 0
  taken lent even = sym (says_none n (map length (work_in w)) (length lent.starts) (length lent.ends) (length lent.periods) none.0 even)

  -- table m of the six
  nth : (m : ℕ) → get_or (work_in v) m [] ≡ get_or (work_with (runs y) n) m []
  nth m = ap (λ (t : List (List ℕ)). get_or t m []) (G.leaves ∙ unless_taken _ _ _ none.0)

  in_tables : (v.previous.now ≡ found.starts) × (v.next.now ≡ found.periods) × (v.previous_match.now ≡ found.ends)
  unfolding work_with
  in_tables = (nth 0, nth 1, nth 2)

  empty : (v.next_match.now ≡ replicate n 0) × (v.reverse_next.now ≡ replicate n 0) × (v.reverse_match.now ≡ replicate n 0)
  unfolding work_with
  empty = (nth 3, nth 4, nth 5)

  pub tables_end : Ended count v.previous.now × Ended count v.next.now × Ended count v.previous_match.now
  tables_end = let t = in_tables in rw (t.0, t.1, t.2, none.1) (lists_end (runs y) n (omega (arith, runs_most y)))

  pub has_room : HasRoom count (lists v.previous.now v.previous_match.now v.next.now)
  has_room = let E = tables_end in record { starts = E.0.room; ends = E.2.room; periods = E.1.room }

  pub reported : (lent : Lists) → list_lengths_differ (length lent.starts) (length lent.ends) (length lent.periods) ≡ false → {after : Lists} {x : Result ℕ Refusal} → Written count (lists v.previous.now v.previous_match.now v.next.now) lent after x → {a b c : List ℕ} → a ≡ zeros v.previous.now → b ≡ zeros v.next.now
      → c ≡ zeros v.previous_match.now → Reported y (work_in w) lent (work_of a b c v.next_match.now v.reverse_next.now v.reverse_match.now) after (figures_of x)
  reported lent even W {a} {b} {c} p q o =
      let t = in_tables in
      let u = empty in
      let L = lists_length (runs y) n in
      let F = fitting n _ _ _ _ _ _ none.0 in
      let z : work_of a b c v.next_match.now v.reverse_next.now v.reverse_match.now ≡ map zeros (work_in w) =
      rw (p, q, o, t.0, t.1, t.2, L.0, L.1, L.2, u.0, u.1, u.2, F.previous, F.next, F.previous_match, F.next_match, F.reverse_next, F.reverse_match) in
      written_all y (work_in w) lent (taken lent even) (rw (t.0, t.1, t.2, none.1) at W) z
