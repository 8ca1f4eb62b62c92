-- Document 02, T-01 and T-04: the cabinet file, "its contents first, then the bodies".
use Rattle.std.specs.Prelude.{Bool, true, false, List, [], ◌∷◌, ◌++◌, ℕ, ◌+◌, ◌*◌, eqb, ltb, length, get_or, drop}
use Rattle.suffix.specs.Search.{all_below, sum_below, tabulate}
use Rattle.suffix.specs.Lyndon.{part}
use Rattle.suffix.specs.Tree.{tree_length}
use Rattle.cabinet.specs.declared.Mark.{Mark}
use Rattle.cabinet.specs.declared.Mark.TheVariants.{LYN1, LYN2}
use Rattle.cabinet.specs.LittleEndian.{four_bytes, number_at}

-- ---- the two marks

-- T-01: "It begins with the four bytes `LYN1`"; T-04: "New cabinets start with `LYN2`"
abbrev pub mark_bytes : Mark → List ℕ
mark_bytes LYN1 = 0x4C ∷ 0x59 ∷ 0x4E ∷ 0x31 ∷ []
mark_bytes LYN2 = 0x4C ∷ 0x59 ∷ 0x4E ∷ 0x32 ∷ []

-- the number by which the reader "says which it met"
abbrev pub mark_number : Mark → ℕ
mark_number LYN1 = 1
mark_number LYN2 = 2

-- ---- the file of letter counts and of "all the trees end to end"

-- where the contents of so many entries end: behind four bytes of mark, four of entry count and eight for each entry
abbrev pub contents_end : ℕ → ℕ
contents_end count = 8 + 8 * count

-- "Each contents entry is two such numbers: the body's place from the file's first byte, and its letter count n." The first body is at
-- `place`; "Bodies are trees, in contents order, without gaps"
unfoldable pub contents : ℕ → List ℕ → List ℕ
contents place [] = []
contents place (n ∷ counts) = four_bytes place ++ four_bytes n ++ contents (place + tree_length n) counts

-- the mark, "then a 32-bit little-endian entry count", the contents and the bodies, which "end the file"
unfoldable pub marked_file : Mark → List ℕ → List ℕ → List ℕ
marked_file mark counts trees = mark_bytes mark ++ four_bytes (length counts) ++ contents (contents_end (length counts)) counts ++ trees

-- T-04: "the writer writes `LYN2` only"
abbrev pub cabinet : List ℕ → List ℕ → List ℕ
cabinet counts trees = marked_file LYN2 counts trees

-- ---- bodies one behind the other, body j a tree of `letters j` letters

-- the bytes of the first k
abbrev pub body_bytes : (ℕ → ℕ) → ℕ → ℕ
body_bytes letters k = sum_below k (λ j. tree_length (letters j))

-- body k in bytes whose first body is at `first`
abbrev pub body_in : List ℕ → ℕ → (ℕ → ℕ) → ℕ → List ℕ
body_in bytes first letters k = part bytes (first + body_bytes letters k) (tree_length (letters k))

-- letter count k of a list
abbrev pub count_in : List ℕ → ℕ → ℕ
count_in counts k = get_or counts k 0

-- ---- what a file says

-- its mark: 1, 2, or 0 for "a file under 8 bytes or with neither mark"
unfoldable pub begins : List ℕ → Mark → Bool
begins file mark = all_below 4 (λ k. eqb (get_or file k 0) (get_or (mark_bytes mark) k 0))

unfoldable pub mark_of : List ℕ → ℕ
mark_of file =
    elim (ltb (length file) 8) [
      | true ↦ 0
      | false ↦ elim (begins file LYN1) [ true ↦ mark_number LYN1 | false ↦ elim (begins file LYN2) [ true ↦ mark_number LYN2 | false ↦ 0 ] ]
    ]

-- its entry count; and entry k's place and letter count
abbrev pub count_of : List ℕ → ℕ
count_of file = number_at file 4

abbrev pub place_of : List ℕ → ℕ → ℕ
place_of file k = number_at file (8 + 8 * k)

abbrev pub letters_of : List ℕ → ℕ → ℕ
letters_of file k = number_at file (12 + 8 * k)

-- the end of what comes before body k: the contents, and the bodies before it
abbrev pub end_before : List ℕ → ℕ → ℕ
end_before file k = contents_end (count_of file) + body_bytes (letters_of file) k

-- body k: the bytes at its place
abbrev pub body_of : List ℕ → ℕ → List ℕ
body_of file k = part file (place_of file k) (tree_length (letters_of file k))

-- all its letter counts, and all its bodies end to end
abbrev pub counts_of : List ℕ → List ℕ
counts_of file = tabulate (count_of file) (letters_of file)

abbrev pub bodies_of : List ℕ → List ℕ
bodies_of file = drop (contents_end (count_of file)) file
