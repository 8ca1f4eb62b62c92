-- What is claimed of cabinet files, by the definitions of writer and reader. Each claim is a type; the law of its name, with a small letter
-- first, proves it in proofs/Laws.antt, the last in proofs/OneList.antt.
use Rattle.std.specs.Prelude.{◌≡◌, ◌≢◌, List, [], ◌∷◌, ◌++◌, map, ℕ, ◌≤◌, ◌<◌, length, get_or, drop}
use Rattle.refusal.specs.Conditions.{tree_refusal}
use Rattle.shape.specs.Claims.{AreBytes}
use Rattle.cabinet.specs.declared.Mark.{Mark}
use Rattle.cabinet.specs.declared.Mark.TheVariants.{LYN2}
use Rattle.cabinet.specs.File.{mark_bytes, mark_number, marked_file, cabinet, body_in, count_in, mark_of, count_of, counts_of, bodies_of}
use Rattle.cabinet.specs.Refusals.{read_refusal, file_refusal, write_refusal}
use Rattle.cabinet.specs.Answers.{written_file, read_body, read_place, read_letters, read_mark}

-- "The reader checks the whole file": what is read is an entry of an accepted file, and each entry of one is read
abbrev pub ReadOfAccepted : Type 0
ReadOfAccepted =
    (file : List ℕ) (entry : ℕ)
    → (read_refusal file entry ≡ 0 → (file_refusal file ≡ 0) × (entry < count_of file)) × (file_refusal file ≡ 0 → entry < count_of file → read_refusal file entry ≡ 0)

-- "A refused reading returns the empty part at the file's start.", with no letter count and no mark
abbrev pub RefusedReading : Type 0
RefusedReading =
    (file : List ℕ) (entry : ℕ) → read_refusal file entry ≢ 0
    → (read_body file entry ≡ []) × (read_place file entry ≡ 0) × (read_letters file entry ≡ 0) × (read_mark file entry ≡ 0)

-- a refused writing leaves the buffer as it was
abbrev pub RefusedWriting : Type 0
RefusedWriting = (counts trees before : List ℕ) → write_refusal counts trees (length before) ≢ 0 → written_file counts trees before ≡ before

-- entry k of the file is read: the mark met is `mark`, the letter count is n, the body is t
pub record Reads (file : List ℕ) (k mark n : ℕ) (t : List ℕ) : Type 0 where
  pub taken : read_refusal file k ≡ 0
  pub met : read_mark file k ≡ mark
  pub letters : read_letters file k ≡ n
  pub body : read_body file k ≡ t

-- "Writing and then reading gives each tree", and its letter count; the mark met is 2
abbrev pub WrittenThenRead : Type 0
WrittenThenRead =
    (counts trees before after : List ℕ) (k : ℕ) → write_refusal counts trees (length before) ≡ 0 → after ≡ written_file counts trees before → k < length counts
    → Reads after k 2 (count_in counts k) (body_in trees 0 (count_in counts) k)

-- what is written is accepted
abbrev pub WrittenIsAccepted : Type 0
WrittenIsAccepted = (counts trees before after : List ℕ) → write_refusal counts trees (length before) ≡ 0 → after ≡ written_file counts trees before → file_refusal after ≡ 0

-- T-04: "the reader takes both marks and says which it met": of whatever the writer takes, the file with either mark is accepted, and each entry is
-- read from it
pub record TakenWith (mark : Mark) (counts trees : List ℕ) : Type 0 where
  pub accepted : file_refusal (marked_file mark counts trees) ≡ 0
  pub reads : (k : ℕ) → k < length counts → Reads (marked_file mark counts trees) k (mark_number mark) (count_in counts k) (body_in trees 0 (count_in counts) k)

abbrev pub BothMarksAreTaken : Type 0
BothMarksAreTaken = (mark : Mark) (counts trees : List ℕ) (size : ℕ) → write_refusal counts trees size ≡ 0 → TakenWith mark counts trees

-- "an accepted file written again is the same file": its letter counts and bodies, into a buffer of its size. T-04: "rewriting an accepted file
-- gives the same bytes for `LYN2`". A file with either mark is taken, and has `LYN2` then; from its fifth byte on it is the same
pub record WrittenAgain (file before : List ℕ) : Type 0 where
  pub taken : write_refusal (counts_of file) (bodies_of file) (length before) ≡ 0
  pub written : written_file (counts_of file) (bodies_of file) before ≡ cabinet (counts_of file) (bodies_of file)
  pub marked : written_file (counts_of file) (bodies_of file) before ≡ mark_bytes LYN2 ++ drop 4 file
  pub same : mark_of file ≡ 2 → written_file (counts_of file) (bodies_of file) before ≡ file

abbrev pub AcceptedThenWritten : Type 0
AcceptedThenWritten = (file before : List ℕ) → AreBytes file → file_refusal file ≡ 0 → length before ≡ length file → WrittenAgain file before

-- ---- an accepted file is the file of exactly one mark and one list of letter counts and trees, and these are what is read from it

pub record Entry : Type 0 where
  pub letters : ℕ
  pub tree : List ℕ

abbrev pub entry_in : List Entry → ℕ → Entry
entry_in entries k = get_or entries k (record { letters = 0; tree = [] })

abbrev pub end_to_end : List Entry → List ℕ
end_to_end [] = []
end_to_end (entry ∷ entries) = entry.tree ++ end_to_end entries

abbrev pub file_of : Mark → List Entry → List ℕ
file_of mark entries = marked_file mark (map (λ entry. entry.letters) entries) (end_to_end entries)

-- each a tree of its letter count
abbrev pub AreTrees : List Entry → Type 0
AreTrees [] = Unit {0}
AreTrees (entry ∷ entries) = (tree_refusal entry.letters entry.tree ≡ 0) × AreTrees entries

-- at most 64, a tree of its letter count each
pub record Storable (entries : List Entry) : Type 0 where
  pub few : length entries ≤ 64
  pub trees : AreTrees entries

pub record FileOfOne (file : List ℕ) : Type 0 where
  pub mark : Mark
  pub entries : List Entry
  pub storable : Storable entries
  pub is : file_of mark entries ≡ file
  pub met : mark_of file ≡ mark_number mark
  pub reads : (k : ℕ) → k < length entries → Reads file k (mark_number mark) (entry_in entries k).letters (entry_in entries k).tree
  pub only : (other : Mark) (others : List Entry) → Storable others → file_of other others ≡ file → (other ≡ mark) × (others ≡ entries)

abbrev pub AcceptedIsOfOne : Type 0
AcceptedIsOfOne = (file : List ℕ) → AreBytes file → file_refusal file ≡ 0 → FileOfOne file
