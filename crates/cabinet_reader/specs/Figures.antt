-- The figures of a reading, as document 02, T-01 and T-04, have them: "A refused reading returns the empty part at the file's start."
use Rattle.std.specs.Prelude.{List, ℕ, Option, Some, None, Result, Ok, Err}
use Rattle.std.specs.Borrow.{Bor}
use Rattle.refusal.specs.Numbers.{number_of}
use Rattle.cabinet.specs.declared.Mark.{Mark}
use Rattle.cabinet.specs.File.{mark_number}
use Rattle.cabinet_reader.specs.declared.Entry.{Entry}
use Rattle.cabinet_reader.specs.declared.Refused.{Refused}

-- a mark's number, 0 for none
abbrev pub number_met : Option Mark → ℕ
number_met None = 0
number_met (Some mark) = mark_number mark

-- the refusal's number, 0 where nothing is refused; the mark met, the letter count, the place: 0 where something is
abbrev pub refusal_told : Result Entry Refused → ℕ
refusal_told (Ok entry) = 0
refusal_told (Err refused) = number_of refused.refusal

abbrev pub mark_told : Result Entry Refused → ℕ
mark_told (Ok entry) = mark_number entry.mark
mark_told (Err refused) = 0

abbrev pub letters_told : Result Entry Refused → ℕ
letters_told (Ok entry) = entry.letters
letters_told (Err refused) = 0

abbrev pub place_told : Result Entry Refused → ℕ
place_told (Ok entry) = entry.place
place_told (Err refused) = 0

-- the body, or the part that is handed out refused
abbrev pub body_told : Result Entry Refused → Bor (List ℕ)
body_told (Ok entry) = entry.body
body_told (Err refused) = refused.part
