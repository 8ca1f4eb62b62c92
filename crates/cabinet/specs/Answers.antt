-- Document 02, T-01 and T-04: what writer and reader answer, and what they leave in lent memory.
use Rattle.std.specs.Prelude.{◌≡◌, List, [], ℕ, ◌+◌, length}
use Rattle.std.specs.Borrow.{Bor}
use Rattle.refusal.specs.Numbers.{unless_refused}
use Rattle.cabinet.specs.File.{cabinet, mark_of, place_of, letters_of, body_of}
use Rattle.cabinet.specs.Refusals.{read_refusal, write_refusal}

-- ---- the writer "fills a buffer of exactly the file's size"; refused, it leaves the buffer as it was

abbrev pub written_file : List ℕ → List ℕ → List ℕ → List ℕ
written_file counts trees buffer = unless_refused (write_refusal counts trees (length buffer)) (cabinet counts trees) buffer

pub record Written (counts trees before after : List ℕ) (number : ℕ) : Type 0 where
  pub answers : number ≡ write_refusal counts trees (length before)
  pub leaves : after ≡ written_file counts trees before

-- ---- the reader "returns one body as a part of it, and its letter count"; "A refused reading returns the empty part at the file's start"

abbrev pub read_body : List ℕ → ℕ → List ℕ
read_body file entry = unless_refused (read_refusal file entry) (body_of file entry) []

abbrev pub read_place : List ℕ → ℕ → ℕ
read_place file entry = unless_refused (read_refusal file entry) (place_of file entry) 0

abbrev pub read_letters : List ℕ → ℕ → ℕ
read_letters file entry = unless_refused (read_refusal file entry) (letters_of file entry) 0

-- T-04: "the reader takes both marks and says which it met"
abbrev pub read_mark : List ℕ → ℕ → ℕ
read_mark file entry = unless_refused (read_refusal file entry) (mark_of file) 0

-- The number, 0 for none; the mark; the letter count n; the place `at`; the part's bytes; and that the part is of the file lent: its pointer, a
-- block and a place in it, is that of the file, moved on by the place.
pub record EntryRead (file : Bor (List ℕ)) (entry number mark n at : ℕ) (part : Bor (List ℕ)) : Type 0 where
  pub refusal : number ≡ read_refusal file.now entry
  pub met : mark ≡ read_mark file.now entry
  pub letters : n ≡ read_letters file.now entry
  pub place : at ≡ read_place file.now entry
  pub body : part.now ≡ read_body file.now entry
  pub own : part.ref_ptr ≡ (file.ref_ptr.0, read_place file.now entry + file.ref_ptr.1)
