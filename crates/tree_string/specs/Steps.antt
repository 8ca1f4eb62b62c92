-- What the private functions promise each other while the string of a tree is written.
use Rattle.std.specs.Prelude.{List, ℕ, ◌+◌, ◌-◌, ◌≤◌, ◌<◌, length, get_or, set}
use Rattle.tree_string.specs.declared.Numbering.{Numbering}

-- how many positions have no number yet, how many numbers wait for their opening, the number of the next closing, and the buffer
pub record Numbered : Type 0 where
  pub positions : ℕ
  pub waiting : ℕ
  pub number : ℕ
  pub symbols : List ℕ

abbrev pub numbered_of : Numbering → List ℕ → Numbered
numbered_of s symbols = record { positions = s.positions; waiting = s.waiting; number = s.number; symbols = symbols }

-- after one bracket more, from right to left, which is so many openings, 1 or 0: the last position that has no number takes the number that
-- waits last, if the bracket is an opening; the next number waits behind the others, if it is a closing. The other of the two entries is free.
abbrev pub bracket_numbered : ℕ → Numbered → Numbered
bracket_numbered opening s =
    let last = s.waiting - opening in
    record {
      positions = s.positions - opening;
      waiting = last + (1 - opening);
      number = s.number + (1 - opening);
      symbols = set (set s.symbols (s.positions - 1) (get_or s.symbols last 0)) last s.number;
    }

-- what is asked of it: an opening has a number that waits; an entry is free behind those that wait; the number fits 32 bits
pub record Numberable (opening : ℕ) (s : Numbered) : Type 0 where
  pub bracket : opening ≤ 1
  pub waits : opening ≤ s.waiting
  pub free : s.waiting < s.positions
  pub within : s.positions ≤ length s.symbols
  pub fits : s.number < 4294967296
