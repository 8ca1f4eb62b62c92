-- The replies of the exported functions: the figures of the answers' definitions, field by field.
use Rattle.std.specs.Prelude.{◌≡◌, true, false, List, ℕ, eqb, length, Result, Ok, Err}
use Rattle.std.specs.Borrow.{Bor}
use Rattle.suffix.specs.Lyndon.{longest_lyndon}
use Rattle.refusal.specs.declared.Refusal.{Refusal}
use Rattle.refusal.specs.Numbers.{number_of}
use Rattle.refusal.specs.Conditions.{word_refusal}
use Rattle.outcome.specs.Built as build
use Rattle.checker.specs.Checked as checker
use Rattle.small_trees.specs.Answers as small_trees
use Rattle.refusal.specs.Answers as refusal
use Rattle.cabinet.specs.File.{mark_number}
use Rattle.cabinet.specs.Refusals.{read_refusal}
use Rattle.cabinet.specs.Answers.{read_body, read_place, read_letters, read_mark}
use Rattle.cabinet_reader.specs.declared.Entry.{Entry}
use Rattle.replies.specs.declared.BuildReply.{BuildReply}
use Rattle.replies.specs.declared.Reply.{Reply}
use Rattle.replies.specs.declared.NextReply.{NextReply}
use Rattle.replies.specs.declared.CheckReply.{CheckReply}
use Rattle.replies.specs.declared.PartReply.{PartReply}
use Rattle.replies.specs.declared.CabinetReply.{CabinetReply}

-- A reply that carries the figures of an operation, and these are as the operation's own record has them: what it answers, and what it leaves in
-- the memory that is lent to it.
pub record Replied {Figures Structure : Type 0} (reply_of : Figures → Structure) (Exactly : Figures → Type 0) (given : Structure) : Type 0 where
  pub figures : Figures
  pub exactly : Exactly figures
  pub replies : given ≡ reply_of figures

-- "A refusal carries its number and no other figure": the others are 0
abbrev pub build_reply : build.Figures → BuildReply
build_reply (build.finished rows equal unequal reach) = record { refusal = 0; finished = 1; rows = rows; equal = equal; unequal = unequal; reach = reach }
build_reply (build.halted rows equal unequal reach) = record { refusal = 0; finished = 0; rows = rows; equal = equal; unequal = unequal; reach = reach }
build_reply (build.refused number) = record { refusal = number; finished = 0; rows = 0; equal = 0; unequal = 0; reach = 0 }

-- an answer that is one number: a question put to a tree, the report of all runs
unfoldable pub reply : refusal.Figures → Reply
reply (refusal.value v) = record { refusal = 0; value = v }
reply (refusal.refused number) = record { refusal = number; value = 0 }

-- going on from a tree of a small size
abbrev pub next_reply : small_trees.Going → NextReply
next_reply small_trees.next = record { refusal = 0; last = 0 }
next_reply small_trees.last = record { refusal = 0; last = 1 }
next_reply (small_trees.refused number) = record { refusal = number; last = 0 }

-- a check
abbrev pub check_reply : checker.Finding → CheckReply
check_reply checker.right = record { refusal = 0; right = 1; position = 0 }
check_reply (checker.wrong_at i) = record { refusal = 0; right = 0; position = i }
check_reply (checker.refused number) = record { refusal = number; right = 0; position = 0 }

-- a part of a string: where it starts, and its length
abbrev pub part_reply : (refusal position length : ℕ) → PartReply
part_reply refusal position length =
    elim (eqb refusal 0) [ true ↦ record { refusal = 0; start = position; length = length } | false ↦ record { refusal = refusal; start = 0; length = 0 } ]

-- the longest Lyndon word of the string y at the position, counted in letters or symbols
abbrev pub word_reply : List ℕ → ℕ → PartReply
word_reply y position = part_reply (word_refusal (length y) position) position (longest_lyndon y position)

-- what is given of a part as a function hands it on, and of an entry: of a refusal its number alone
abbrev pub part_of : {S : Type 0} → ℕ → Result (Bor (List S)) Refusal → PartReply
part_of position (Ok part) = part_reply 0 position (length part.now)
part_of position (Err refusal) = part_reply (number_of refusal) position 0

abbrev pub entry_reply : Result Entry Refusal → CabinetReply
entry_reply (Ok entry) = record { refusal = 0; mark = mark_number entry.mark; letters = entry.letters; start = entry.place; length = length entry.body.now }
entry_reply (Err refusal) = record { refusal = number_of refusal; mark = 0; letters = 0; start = 0; length = 0 }

-- reading a cabinet file: the mark met, the entry's letter count, where its body starts in the file, and the body's length
abbrev pub cabinet_reply : List ℕ → ℕ → CabinetReply
cabinet_reply file entry =
    record {
      refusal = read_refusal file entry;
      mark = read_mark file entry;
      letters = read_letters file entry;
      start = read_place file entry;
      length = length (read_body file entry);
    }
