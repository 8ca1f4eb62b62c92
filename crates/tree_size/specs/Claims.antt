-- What is claimed of the size that is read. The claim is a type; the law of its name, in small letters with `_`, proves it in proofs/Laws.antt.
use Rattle.std.specs.Prelude.{◌≡◌, List, ℕ, take}
use Rattle.tree_size.specs.Size.{size_in}

-- four bytes of the input tell the size, so no more need be read
abbrev pub FourBytesTell : Type 0
FourBytesTell = (input : List ℕ) → size_in (take 4 input) ≡ size_in input
