-- What the searches find, put to the tables of a tree.
use mathlib.Core.Path.{◌≡◌, refl, sym, ap, ◌∙◌}
use mathlib.Core.Bool.{true, false, ◌&&◌, true≢false, false≢true}
use mathlib.Core.List.{List}
use Prim.Native.Nat.{ℕ, suc, ◌+◌, ◌-◌, ◌*◌, ◌/◌, ◌≤◌, ◌<◌}
use native.Mathlib.Omega.{arith}
use lib.Dec.{eqb}
use lib.ListN.{length, get_or}
use borrow.Author.Tests.{eq-eqb, eqb-true, eqb-false}
use Rattle.suffix.specs.Tree.{tree_length}
use Rattle.suffix.proofs.Cases.{Test, holds, fails, test, le_unless, both_true}
use Rattle.suffix.proofs.Search.{Least, found, absent, least}
use Rattle.refusal.specs.Conditions.{bit_of, openings, flaw_number, question_refusal}
use Rattle.shape.specs.Shape.{previous_table, next_table}
use Rattle.std.specs.Prelude.{Err}
use Rattle.refusal.specs.declared.Refusal.{Refusal}
use Rattle.refusal.specs.Numbers.{number_of}
use Rattle.refusal.specs.Answers.{value, refused}
use Rattle.questions.specs.Answers.{place_of, place_answer, next_answer, previous_answer}
use Rattle.search.specs.Searching.{forward_found, backward_found}
use Rattle.search.specs.declared.Found.{Found}
use Rattle.shape.proofs.Heights.{opened, opens, opened_grows, opening_one, Entry, ClosedAt, Encloses, by, root, closed_once, enclosed_once}
use Rattle.shape.proofs.Reading.{Balanced}
use Rattle.shape.proofs.Entries.{table_entry}
use Rattle.refusal.proofs.Answers.{answered_told, answered_value, refused_alike}
use Rattle.search.proofs.Laws.{TellsOn, TellsBack, fell, ended, forward_tells, backward_tells}
use Rattle.shape.proofs.Conditions.{sound, question_1, question_3, question_5, question_flaw}

-- a question that is not refused
pub record Allowed (n : ℕ) (t : List ℕ) (i : ℕ) : Type 0 where
  pub none : question_refusal n t i ≡ 0
  pub small : n ≤ 1000000
  pub bytes : length t ≡ tree_length n
  pub inside : i < n
  pub whole : flaw_number n t ≡ 0

pub allowed : (n : ℕ) (t : List ℕ) (i : ℕ) → question_refusal n t i ≡ 0 → Allowed n t i
allowed n t i e = record { none = e; small = small; bytes = bytes; inside = inside; whole = sym (question_flaw n t i small bytes inside) ∙ e }
  where
    small : n ≤ 1000000
    small = le_unless n 1000000 (λ w. omega (arith, question_1 n t i w, e))

    bytes : length t ≡ tree_length n
    bytes = go (test (eqb (length t) (tree_length n)))
      where
        go : Test (eqb (length t) (tree_length n)) → length t ≡ tree_length n
        go (holds w) = eqb-true (length t) (tree_length n) w
        go (fails w) = absurd (omega (arith, question_3 n t i small (eqb-false (length t) (tree_length n) w), e))

    inside : i < n
    inside = le_unless (suc i) n (λ w. omega (arith, question_5 n t i small bytes (omega arith), e))

-- there are openings enough
pub enough : (n : ℕ) (t : List ℕ) (i : ℕ) → length t ≡ tree_length n → flaw_number n t ≡ 0 → i < n → i < opened (bit_of t) (8 * length t)
enough n t i l e h = omega (arith, (sound n t e).even.closed, opened_grows (bit_of t) (2 * n) (8 * length t) (omega arith))

-- k is the place of the opening of i
module _ (n : ℕ) (t : List ℕ) (i : ℕ) (e : flaw_number n t ≡ 0) (inside : i < n) (k : ℕ) (bit : bit_of t k ≡ true) (number : opened (bit_of t) k ≡ i) where
  B : Balanced (bit_of t) (2 * n)
  B = (sound n t e).even

  pub place_low : k < 2 * n
  place_low = le_unless (suc k) (2 * n) (λ w. omega (arith, number, B.closed, opened_grows (bit_of t) (2 * n) k (omega arith)))

  pub place_near : k ≤ 2 * i
  place_near = omega (arith, number, B.above k (omega (arith, place_low)))

  pub place_is : place_of n t i ≡ k
  unfolding place_of
  place_is = go (least (λ k. bit_of t k && eqb (openings t k) i) (2 * n) 0 (2 * n))
    where
      go : {v : ℕ} → Least 0 (2 * n) (λ k. bit_of t k && eqb (openings t k) i) (2 * n) v → v ≡ k
      go {v} (found a b c d) =
          let r = both_true (bit_of t v) (eqb (openings t v) i) c in
          opening_one (bit_of t) r.0 bit (eqb-true (openings t v) i r.1 ∙ sym number)
      go (absent a d) = absurd (true≢false (sym here ∙ d k (omega arith) (omega (arith, place_low))))
        where
          here : (bit_of t k && eqb (openings t k) i) ≡ true
          here = rw (bit, eq-eqb (opened (bit_of t) k) i number)

  E : Entry (bit_of t) (2 * n) n i (get_or (previous_table n t) i 0) (get_or (next_table n t) i 0)
  E = table_entry n t B i inside

  at_place : E.place ≡ k
  at_place = opening_one (bit_of t) E.opening.is_open bit (E.opening.number ∙ sym number)

  opened_behind : opened (bit_of t) (k + 1) ≡ suc i
  opened_behind = let z : k + 1 ≡ suc k = omega arith in ap (opened (bit_of t)) z ∙ opens (bit_of t) k bit ∙ ap suc number

  -- the closing bracket
  pub next_found : {r : Found} → TellsOn (bit_of t) (k + 1) 0 (2 * n) r → (k ≤ r.at) × (r.at ≤ 2 * n) × (i + (r.at - k) / 2 ≡ get_or (next_table n t) i 0)
  next_found (ended w e) = absurd (omega (arith, e.clear (2 * n) (omega (arith, place_low)) (omega arith), opened_behind, B.closed, place_near, number))
  next_found (fell at h F) =
      let z : k + 1 ≡ suc k = omega arith in
      let C : ClosedAt (bit_of t) k at =
      record { after = omega (arith, F.after); within = λ j a b. rw z at (F.clear j (omega arith) b); closes = rw z at F.falls } in
      let c : E.close ≡ at = closed_once (bit_of t) (rw at_place at E.closed) C in
      (omega (arith, F.after), h, omega (arith, F.after, F.falls, opened_behind) ∙ sym (E.end ∙ ap (opened (bit_of t)) c))

  -- the bracket around it
  pub previous_found : {r : Found} → TellsBack (bit_of t) k 0 r → r.fell ≡ true → (r.at ≤ k) × ((k - r.at + 1) / 2 ≤ i) × (i - (k - r.at + 1) / 2 ≡ get_or (previous_table n t) i 0)
  previous_found (fell at F) m =
      let around : Encloses (bit_of t) at k = record { before = F.before; is_open = F.is_open; within = F.clear; opens_it = F.falls } in
      let P : get_or (previous_table n t) i 0 ≡ opened (bit_of t) at = enclosed_once (bit_of t) (rw at_place at E.enclosed) (by at refl around) in
      (omega (arith, F.before), omega (arith, F.falls, number), omega (arith, F.before, F.falls, number) ∙ sym P)
  previous_found (ended w e) m = absurd (false≢true m)

  pub previous_none : {r : Found} → TellsBack (bit_of t) k 0 r → r.fell ≡ false → n ≡ get_or (previous_table n t) i 0
  previous_none (fell at F) m = absurd (true≢false m)
  previous_none (ended w e) m = sym (enclosed_once (bit_of t) (rw at_place at E.enclosed) (root refl e.clear))

-- what place_of told: k is the opening of i
pub record Placed (n : ℕ) (t : List ℕ) (i k : ℕ) : Type 0 where
  pub asked : Allowed n t i
  pub is_open : bit_of t k ≡ true
  pub number : opened (bit_of t) k ≡ i
  pub low : k < 2 * n

pub placed : (n : ℕ) (t : List ℕ) (i k : ℕ) → value k ≡ place_answer n t i → Placed n t i k
unfolding place_answer
placed n t i k h = record { asked = a; is_open = rw e E.opening.is_open; number = rw e E.opening.number; low = place_low n t i a.whole a.inside k (rw e E.opening.is_open) (rw e E.opening.number) }
  where
    a : Allowed n t i
    a = allowed n t i (answered_told (question_refusal n t i) (place_of n t i) k h).0

    E : Entry (bit_of t) (2 * n) n i (get_or (previous_table n t) i 0) (get_or (next_table n t) i 0)
    E = table_entry n t (sound n t a.whole).even i a.inside

    e : k ≡ E.place
    e = (answered_told (question_refusal n t i) (place_of n t i) k h).1 ∙ place_is n t i a.whole a.inside E.place E.opening.is_open E.opening.number

-- a refused question of one kind is refused as one of another
pub next_refused : (n : ℕ) (t : List ℕ) (i : ℕ) (k : Refusal) → refused (number_of k) ≡ place_answer n t i → refused (number_of k) ≡ next_answer n t i
unfolding place_answer next_answer
next_refused n t i k e = refused_alike (Err k) (question_refusal n t i) (place_of n t i) (get_or (next_table n t) i 0) refl e

pub previous_refused : (n : ℕ) (t : List ℕ) (i : ℕ) (k : Refusal) → refused (number_of k) ≡ place_answer n t i → refused (number_of k) ≡ previous_answer n t i
unfolding place_answer previous_answer
previous_refused n t i k e = refused_alike (Err k) (question_refusal n t i) (place_of n t i) (get_or (previous_table n t) i 0) refl e

-- an opening of that number is the place asked for
pub place_answered : {n : ℕ} {t : List ℕ} {i k : ℕ} → Allowed n t i → bit_of t k ≡ true → opened (bit_of t) k ≡ i → value k ≡ place_answer n t i
unfolding place_answer
place_answered {n} {t} {i} {k} A bit number =
    ap value (sym (place_is n t i A.whole A.inside k bit number)) ∙ answered_value (question_refusal n t i) (place_of n t i) A.none

-- what the searches from a place give
module _ {n : ℕ} {t : List ℕ} {i k : ℕ} (P : Placed n t i k) where
  pub next_answered : {r : Found} → r ≡ forward_found t (k + 1) (2 * n) → (k ≤ r.at) × (r.at ≤ 2 * n) × (value (i + (r.at - k) / 2) ≡ next_answer n t i)
  unfolding next_answer
  next_answered q =
      let A = P.asked in
      let tells : TellsOn (bit_of t) (k + 1) 0 (2 * n) _ =
      forward_tells t (k + 1) (2 * n) (record { few = omega (arith, A.small, A.bytes); inside = omega (arith, A.bytes); ordered = omega (arith, P.low) }) q in
      let x = next_found n t i A.whole A.inside k P.is_open P.number tells in
      (x.0, x.1, ap value x.2 ∙ answered_value (question_refusal n t i) (get_or (next_table n t) i 0) A.none)

  tells : {r : Found} → r ≡ backward_found t k → TellsBack (bit_of t) k 0 r
  tells q =
      let A = P.asked in
      backward_tells t k (record { few = omega (arith, A.small, A.bytes); inside = omega (arith, P.low, A.bytes); ordered = omega arith }) q

  pub previous_answered : {r : Found} → r ≡ backward_found t k → r.fell ≡ true
      → (r.at ≤ k) × ((k - r.at + 1) / 2 ≤ i) × (value (i - (k - r.at + 1) / 2) ≡ previous_answer n t i)
  unfolding previous_answer
  previous_answered q m =
      let A = P.asked in
      let x = previous_found n t i A.whole A.inside k P.is_open P.number (tells q) m in
      (x.0, x.1, ap value x.2 ∙ answered_value (question_refusal n t i) (get_or (previous_table n t) i 0) A.none)

  pub root_answered : {r : Found} → r ≡ backward_found t k → r.fell ≡ false → value n ≡ previous_answer n t i
  unfolding previous_answer
  root_answered q m =
      let A = P.asked in
      ap value (previous_none n t i A.whole A.inside k P.is_open P.number (tells q) m)
      ∙ answered_value (question_refusal n t i) (get_or (previous_table n t) i 0) A.none
