-- The worked file of docs/FORMAT.md, and damaged ones, by computation.
use mathlib.Core.Path.{◌≡◌, refl}
use mathlib.Core.List.{List, [], ◌∷◌, ◌++◌}
use Prim.Native.Nat.{ℕ}
use lib.ListN.{take, set}
use Rattle.suffix.specs.Search.{all_below, any_below, count_below, sum_below, tabulate, tabulate_from}
use Rattle.suffix.specs.Lyndon.{part}
use Rattle.refusal.specs.Numbers.{lowest_from, first_of, unless_refused}
use Rattle.refusal.specs.Conditions.{byte_bit, bit_of, spare_bit_set, closed_too_early, left_open}
use Rattle.cabinet.specs.LittleEndian.{bytes_of, value_of, number_at}
use Rattle.cabinet.specs.File.{contents, marked_file, cabinet, begins, mark_of, counts_of, bodies_of}
use Rattle.cabinet.specs.Refusals.{wrong_contents, bodies_flaw, read_refusal, file_refusal, write_refusal}
use Rattle.cabinet.specs.Answers.{read_body, read_place, read_letters, read_mark}

-- banana, no letters, and ab: the trees CD 04, none, and 03
abbrev file : List ℕ
file =
    0x4C ∷ 0x59 ∷ 0x4E ∷ 0x32 ∷ 3 ∷ 0 ∷ 0 ∷ 0
    ∷ 32 ∷ 0 ∷ 0 ∷ 0 ∷ 6 ∷ 0 ∷ 0 ∷ 0
    ∷ 34 ∷ 0 ∷ 0 ∷ 0 ∷ 0 ∷ 0 ∷ 0 ∷ 0
    ∷ 34 ∷ 0 ∷ 0 ∷ 0 ∷ 2 ∷ 0 ∷ 0 ∷ 0
    ∷ 0xCD ∷ 0x04 ∷ 0x03 ∷ []

written : cabinet (6 ∷ 0 ∷ 2 ∷ []) (0xCD ∷ 0x04 ∷ 0x03 ∷ []) ≡ file
unfolding bytes_of contents marked_file
written = refl

read : (counts_of file ≡ 6 ∷ 0 ∷ 2 ∷ []) × (bodies_of file ≡ 0xCD ∷ 0x04 ∷ 0x03 ∷ [])
unfolding value_of number_at part tabulate tabulate_from
read = (refl, refl)

-- its entries 0 to 3: the last is none
entries :
    read_refusal file 0 ∷ read_letters file 0 ∷ read_place file 0 ∷ read_body file 0
    ++ read_refusal file 1 ∷ read_letters file 1 ∷ read_place file 1 ∷ read_body file 1
    ++ read_refusal file 2 ∷ read_letters file 2 ∷ read_place file 2 ∷ read_body file 2
    ++ read_refusal file 3 ∷ read_letters file 3 ∷ read_place file 3 ∷ read_body file 3
    ≡ 0 ∷ 6 ∷ 32 ∷ 0xCD ∷ 0x04 ∷ 0 ∷ 0 ∷ 34 ∷ 0 ∷ 2 ∷ 34 ∷ 0x03 ∷ 5 ∷ 0 ∷ 0 ∷ []
unfolding all_below any_below count_below sum_below tabulate tabulate_from part lowest_from first_of byte_bit bit_of spare_bit_set closed_too_early left_open value_of number_at begins mark_of wrong_contents bodies_flaw read_refusal unless_refused
entries = refl

-- its mark, and none where an entry is refused; with the first mark it is read alike
abbrev old : List ℕ
old = set file 3 0x31

marks :
    read_mark file 0 ∷ read_mark file 3 ∷ read_mark old 0 ∷ read_refusal old 0 ∷ read_letters old 0 ∷ read_place old 0 ∷ read_body old 0
    ≡ 2 ∷ 0 ∷ 1 ∷ 0 ∷ 6 ∷ 32 ∷ 0xCD ∷ 0x04 ∷ []
unfolding all_below any_below count_below sum_below tabulate tabulate_from part lowest_from first_of byte_bit bit_of spare_bit_set closed_too_early left_open value_of number_at begins mark_of wrong_contents bodies_flaw read_refusal unless_refused
marks = refl

-- damaged: a third mark; 65 entries; a place one on; a byte missing, and one left over; a letter count too large; body 0 left open (8), body 2
-- with a spare bit (6), and both; a file of no entries, and 7 bytes of it
damaged :
    read_refusal (set file 3 0x33) 0
    ∷ read_refusal (set file 4 65) 0
    ∷ read_refusal (set file 16 35) 0
    ∷ read_refusal (take 34 file) 0
    ∷ read_refusal (file ++ 0 ∷ []) 0
    ∷ read_refusal (set file 15 1) 0
    ∷ read_refusal (set file 32 0xFF) 2
    ∷ read_refusal (set file 34 0x13) 0
    ∷ read_refusal (set (set file 32 0xFF) 34 0x13) 2
    ∷ read_refusal (set (set file 32 0xFF) 34 0x13) 3
    ∷ read_refusal (cabinet [] []) 0
    ∷ file_refusal (cabinet [] [])
    ∷ file_refusal (take 7 file)
    ∷ []
    ≡ 9 ∷ 10 ∷ 11 ∷ 11 ∷ 11 ∷ 11 ∷ 8 ∷ 6 ∷ 8 ∷ 5 ∷ 5 ∷ 0 ∷ 9 ∷ []
unfolding all_below any_below count_below sum_below tabulate tabulate_from part lowest_from first_of byte_bit bit_of spare_bit_set closed_too_early left_open bytes_of value_of contents marked_file number_at begins mark_of wrong_contents bodies_flaw read_refusal file_refusal
damaged = refl

-- not written: a letter count too large before a buffer of another size; a buffer one byte short; body 0 left open before body 2 with a spare bit
unwritten :
    write_refusal (6 ∷ 1000001 ∷ []) [] 0
    ∷ write_refusal (6 ∷ 0 ∷ 2 ∷ []) (0xCD ∷ 0x04 ∷ 0x03 ∷ []) 34
    ∷ write_refusal (6 ∷ 0 ∷ 2 ∷ []) (0xFF ∷ 0x04 ∷ 0x13 ∷ []) 35
    ∷ write_refusal (6 ∷ 0 ∷ 2 ∷ []) (0xCD ∷ 0x04 ∷ 0x03 ∷ []) 35
    ∷ []
    ≡ 1 ∷ 3 ∷ 8 ∷ 0 ∷ []
unfolding all_below any_below count_below sum_below tabulate tabulate_from part lowest_from first_of byte_bit bit_of spare_bit_set closed_too_early left_open bodies_flaw write_refusal
unwritten = refl
