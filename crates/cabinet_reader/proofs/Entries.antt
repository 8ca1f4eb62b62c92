-- What is told of an entry.
use mathlib.Core.Path.{◌≡◌, sym, ap, ap₂, ◌∙◌}
use mathlib.Core.Logic.{◌≢◌}
use mathlib.Core.List.{List}
use Prim.Native.Nat.{ℕ, ◌+◌, ◌*◌, ◌≤◌, ◌<◌}
use native.Mathlib.Nat.{zero-add}
use native.Mathlib.Omega.{arith}
use lib.ListN.{length, take, drop}
use Rattle.std.specs.Borrow.{Bor}
use borrow.Author.Tests.{eq-eqb}
use Rattle.std.proofs.lemmas.List.{nil_from_length}
use Rattle.refusal.specs.declared.Refusal.TheVariants.{NotMarked}
use Rattle.suffix.specs.Lyndon.{part}
use Rattle.suffix.specs.Tree.{tree_length}
use Rattle.refusal.specs.declared.Refusal.{Refusal}
use Rattle.refusal.specs.Numbers.{number_of}
use Rattle.refusal.proofs.Numbers.{positive, unless_taken, unless_refused_lem}
use Rattle.cabinet.specs.File.{mark_of, place_of, letters_of}
use Rattle.cabinet.specs.Refusals.{read_refusal}
use Rattle.cabinet.specs.Answers.{EntryRead}
use Rattle.cabinet.proofs.Conditions.{taken, body_fits, read_9}

-- an entry that is not refused is within the file
module _ (file : List ℕ) (entry : ℕ) (zero : read_refusal file entry ≡ 0) where
  pub is_one_of_few : entry < 64
  is_one_of_few = let t = taken file entry zero in omega (arith, t.1, t.0.few)

  pub entry_within : 16 + 8 * entry ≤ length file
  entry_within = let t = taken file entry zero in omega (arith, t.1, t.0.right.whole)

  pub body_within : {place letters bytes : ℕ} → place ≡ place_of file entry → letters ≡ letters_of file entry → bytes ≡ tree_length letters → place + bytes ≤ length file
  body_within p n b = let t = taken file entry zero in rw (b, n, p, t.0.right.places entry t.1) (body_fits file t.0.right entry t.1)

pub ruleset within = (is_one_of_few, entry_within, body_within)

-- it is told with the mark, the letter count, the place and the body
module _ (file : Bor (List ℕ)) (entry : ℕ) where
  pub told : read_refusal file.now entry ≡ 0 → {mark n at : ℕ} {bytes : ℕ} {body : Bor (List ℕ)}
      → mark ≡ mark_of file.now → n ≡ letters_of file.now entry → at ≡ place_of file.now entry
      → body.now ≡ take bytes (drop at file.now) → bytes ≡ tree_length n → body.ref_ptr ≡ (file.ref_ptr.0, at + file.ref_ptr.1)
      → EntryRead file entry 0 mark n at body
  unfolding part
  told zero m n p b z o =
      record {
        refusal = sym zero;
        met = m ∙ sym (unless_taken _ _ _ zero);
        letters = n ∙ sym (unless_taken _ _ _ zero);
        place = p ∙ sym (unless_taken _ _ _ zero);
        body = b ∙ ap₂ (λ k a. take k (drop a file.now)) (z ∙ ap tree_length n) p ∙ sym (unless_taken _ _ _ zero);
        own = o ∙ ap (λ a. (file.ref_ptr.0, a + file.ref_ptr.1)) (p ∙ sym (unless_taken _ _ _ zero));
      }

  -- a refused one with nothing but the refusal and the empty part at the file's start
  pub refused : (k : Refusal) → number_of k ≡ read_refusal file.now entry → {part : Bor (List ℕ)} → length part.now ≡ 0 → part.ref_ptr.0 ≡ file.ref_ptr.0 → part.ref_ptr.1 ≡ file.ref_ptr.1
      → EntryRead file entry (number_of k) 0 0 0 part
  refused k e {part = part} empty block place =
      let h : read_refusal file.now entry ≢ 0 = λ z. omega (arith, positive k, e, z) in
      record {
        refusal = e;
        met = sym (unless_refused_lem _ _ _ h);
        letters = sym (unless_refused_lem _ _ _ h);
        place = sym (unless_refused_lem _ _ _ h);
        body = nil_from_length part.now empty ∙ sym (unless_refused_lem _ _ _ h);
        own = ap₂ (λ b p. (b, p)) block place ∙ rw (unless_refused_lem (read_refusal file.now entry) (place_of file.now entry) 0 h, zero-add);
      }

  -- one of a file without a mark is refused
  pub unmarked : 0 ≡ mark_of file.now → number_of NotMarked ≡ read_refusal file.now entry
  unmarked m = sym (read_9 file.now entry (eq-eqb (mark_of file.now) 0 (sym m)))
