-- The file of letter counts and trees, read.
use mathlib.Core.Path.{◌≡◌, refl, sym, ap, ◌∙◌}
use mathlib.Core.List.{List, ◌++◌, append_assoc}
use Prim.Native.Nat.{ℕ, ◌+◌, ◌*◌, ◌≤◌, ◌<◌}
use native.Mathlib.Omega.{arith}
use lib.ListN.{length, take, drop, length-append}
use lib.Seq.{take_at, drop_at}
use Rattle.suffix.proofs.Search.{tabulate_is}
use Rattle.cabinet.specs.LittleEndian.{four_bytes}
use Rattle.cabinet.specs.declared.Mark.{Mark}
use Rattle.cabinet.specs.File.{mark_bytes, mark_number, contents_end, contents, marked_file, body_bytes, count_in, mark_of, count_of, place_of, letters_of, counts_of, bodies_of}
use Rattle.cabinet.proofs.LittleEndian.{four_length, number_in}
use Rattle.cabinet.proofs.Marks.{mark_length, mark_met}
use Rattle.cabinet.proofs.Contents.{bytes_most, contents_length, place_in, letters_in}

module _ (m : Mark) (counts trees : List ℕ) where
  abbrev count : ℕ
  count = length counts

  abbrev file : List ℕ
  file = marked_file m counts trees

  abbrev entries : List ℕ
  entries = contents (contents_end count) counts

  pub file_shape : file ≡ mark_bytes m ++ (four_bytes count ++ (entries ++ trees))
  unfolding marked_file
  file_shape = append_assoc (mark_bytes m ++ four_bytes count) entries trees ∙ append_assoc (mark_bytes m) (four_bytes count) (entries ++ trees)

  head_length : length (mark_bytes m ++ four_bytes count ++ entries) ≡ contents_end count
  head_length = omega (arith, length-append (mark_bytes m ++ four_bytes count) entries, length-append (mark_bytes m) (four_bytes count), mark_length m, four_length count, contents_length (contents_end count) counts)

  pub bodies_in : drop (contents_end count) file ≡ trees
  unfolding marked_file
  bodies_in = drop_at (mark_bytes m ++ four_bytes count ++ entries) trees (contents_end count) head_length

  pub file_length : length file ≡ contents_end count + length trees
  unfolding marked_file
  file_length = length-append (mark_bytes m ++ four_bytes count ++ entries) trees ∙ ap (λ k. k + length trees) head_length

  long : 8 ≤ length file
  long = omega (arith, file_length)

  pub mark_back : mark_of file ≡ mark_number m
  mark_back = mark_met file (record { long = long; mark = m; first = ap (take 4) file_shape ∙ take_at (mark_bytes m) (four_bytes count ++ (entries ++ trees)) 4 (mark_length m) })

  module _ (few : count ≤ 64) (short : (k : ℕ) → k < count → count_in counts k ≤ 1000000) where
    pub count_back : count_of file ≡ count
    count_back = rw file_shape (number_in (mark_bytes m) count (entries ++ trees) 4 (mark_length m) (omega arith))

    shape : file ≡ (mark_bytes m ++ four_bytes count) ++ (entries ++ trees)
    unfolding marked_file
    shape = append_assoc (mark_bytes m ++ four_bytes count) entries trees

    module _ (k : ℕ) (h : k < count) where
      starts : length (mark_bytes m ++ four_bytes count) + 8 * k ≡ 8 + 8 * k
      starts = omega (arith, length-append (mark_bytes m) (four_bytes count), mark_length m, four_length count)

      pub place_back : place_of file k ≡ contents_end count + body_bytes (count_in counts) k
      place_back = place_in (contents_end count) counts k h file (mark_bytes m ++ four_bytes count) trees (8 + 8 * k) shape starts (omega (arith, bytes_most (count_in counts) k (λ j w. short j (omega arith))))

      pub letters_back : letters_of file k ≡ count_in counts k
      letters_back =
          let z : 12 + 8 * k ≡ 8 + 8 * k + 4 = omega arith in
          rw z (letters_in (contents_end count) counts k h file (mark_bytes m ++ four_bytes count) trees (8 + 8 * k) shape starts (omega (arith, short k h)))

    -- all its letter counts, and all its bodies
    pub counts_back : counts_of file ≡ counts
    counts_back = rw count_back (sym (tabulate_is (letters_of file) counts count refl (λ k h. sym (letters_back k h))))

    pub bodies_back : bodies_of file ≡ trees
    bodies_back = rw count_back bodies_in
