-- From what the longest-word question and the reader of cabinets answer to what is replied.
use Rattle.std.proofs.Common.{rules}
use mathlib.Core.Path.{◌≡◌, sym, ap, ◌∙◌}
use mathlib.Core.Logic.{◌≢◌}
use mathlib.Core.List.{List, []}
use Prim.Native.Nat.{ℕ}
use native.Mathlib.Omega.{arith}
use lib.ListN.{length}
use borrow.Author.Tests.{eq-eqb, ne_eqb}
use denote.Ref.{Bor}
use Rattle.std.specs.Prelude.{Result, Ok, Err, MatchResult, IsErrAnd}
use Rattle.std.proofs.lemmas.Result.{err_from_is_err_and}
use Rattle.refusal.specs.declared.Refusal.{Refusal}
use Rattle.refusal.specs.Numbers.{number_of}
use Rattle.refusal.specs.Conditions.{word_refusal}
use Rattle.refusal.proofs.Numbers.{positive, unless_refused_lem}
use Rattle.word.specs.declared.Refused.{Refused}
use Rattle.word.specs.Word.{WordAnswered, number_in, part_in}
use Rattle.word.proofs.Laws.{taken_length}
use Rattle.cabinet.specs.File.{body_of}
use Rattle.cabinet.specs.Refusals.{read_refusal}
use Rattle.cabinet.specs.Answers.{read_body, EntryRead}
use Rattle.cabinet_reader.specs.declared.Entry.{Entry}
use Rattle.cabinet_reader.specs.declared.Refused as reader
use Rattle.cabinet_reader.specs.Figures.{refusal_told, mark_told, letters_told, place_told, body_told}
use Rattle.replies.specs.Replies.{part_of, part_reply, word_reply, entry_reply, cabinet_reply}

-- a result handed on with its refusal alone
module _ {T E : Type 0} (refusal_of : E → Refusal) where
  abbrev handed : Result T E → Result T Refusal
  handed (Ok x) = Ok x
  handed (Err e) = Err (refusal_of e)

  -- as `map_err` hands it on
  is_handed : (given : Result T E) (told : Result T Refusal) (Post : E → Refusal → Type 0) → MatchResult given (λ x. told ≡ Ok x) (λ e. IsErrAnd told (Post e))
      → ((e : E) (k : Refusal) → Post e k → k ≡ refusal_of e) → told ≡ handed given
  is_handed (Ok x) told Post m h = m
  is_handed (Err e) told Post m h = let p = err_from_is_err_and told m in p.1 ∙ ap Err (h e _ p.2)

-- the word, refused and not: y is the ranks
word_told : {S : Type 0} {bytes : ℕ} {letters : Bor (List S)} (y : List ℕ) (i : ℕ) → length y ≡ length letters.now → (word : Result (Bor (List S)) (Refused S))
    → WordAnswered bytes letters y i (number_in word) (part_in word) → part_of i (handed (λ r. r.refusal) word) ≡ word_reply y i
word_told {letters = letters} y i n (Ok part) e =
    let z : 0 ≡ word_refusal (length y) i = e.refusal ∙ rw n in
    rw (eq-eqb (word_refusal (length y) i) 0 (sym z), word_reply, part_reply, ap length e.part ∙ taken_length letters.now y i n (sym e.refusal))
word_told y i n (Err r) e =
    let k = r.refusal in
    let z : number_of k ≡ word_refusal (length y) i = e.refusal ∙ rw n in
    rw (ne_eqb (word_refusal (length y) i) 0 (λ q. omega (arith, positive k, z)), ne_eqb (number_of k) 0 (λ q. omega (arith, positive k)), word_reply, part_reply, ← z)

module _ {S : Type 0} {bytes : ℕ} {letters : Bor (List S)} (y : List ℕ) (i : ℕ) (n : length y ≡ length letters.now) (word : Result (Bor (List S)) (Refused S)) where
  pub word_replied : WordAnswered bytes letters y i (number_in word) (part_in word) → (told : Result (Bor (List S)) Refusal) (Post : Refused S → Refusal → Type 0)
      → MatchResult word (λ x. told ≡ Ok x) (λ e. IsErrAnd told (Post e)) → ((e : Refused S) (k : Refusal) → Post e k → k ≡ e.refusal) → part_of i told ≡ word_reply y i
  word_replied e told Post m h = ap (part_of i) (is_handed (λ r. r.refusal) word told Post m h) ∙ word_told y i n word e

-- the entry, refused and not
module _ (file : Bor (List ℕ)) (entry : ℕ) where
  entry_told : (given : Result Entry reader.Refused) → EntryRead file entry (refusal_told given) (mark_told given) (letters_told given) (place_told given) (body_told given)
      → entry_reply (handed (λ r. r.refusal) given) ≡ cabinet_reply file.now entry
  entry_told (Ok e) R = search (rules, R)
  entry_told (Err r) R =
      let h : read_refusal file.now entry ≢ 0 = λ z. omega (arith, positive r.refusal, R.refusal, z) in
      let none : length (read_body file.now entry) ≡ 0 = ap length (unless_refused_lem (read_refusal file.now entry) (body_of file.now entry) [] h) in
      search (rules, R, none)

  pub entry_replied : (given : Result Entry reader.Refused) → EntryRead file entry (refusal_told given) (mark_told given) (letters_told given) (place_told given) (body_told given)
      → (told : Result Entry Refusal) (Post : reader.Refused → Refusal → Type 0)
      → MatchResult given (λ x. told ≡ Ok x) (λ e. IsErrAnd told (Post e)) → ((e : reader.Refused) (k : Refusal) → Post e k → k ≡ e.refusal) → entry_reply told ≡ cabinet_reply file.now entry
  entry_replied given R told Post m h = ap entry_reply (is_handed (λ r. r.refusal) given told Post m h) ∙ entry_told given R
