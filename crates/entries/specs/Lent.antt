-- The four tables of a string in lent memory.
use Rattle.std.specs.Prelude.{◌≡◌, ℕ, length}
use Rattle.suffix.specs.Rows.{Tables}
use Rattle.entries.specs.declared.Tables as declared
use Rattle.entries.specs.Cleared.{cleared_from}

-- what the memory holds
abbrev pub tables_in : declared.Tables → Tables
tables_in t = record { previous = t.previous.now; next = t.next.now; previous_match = t.previous_match.now; next_match = t.next_match.now }

-- the same memory is lent
pub record SameLent (before after : declared.Tables) : Type 0 where
  pub previous : after.previous.ghost_name ≡ before.previous.ghost_name
  pub next : after.next.ghost_name ≡ before.next.ghost_name
  pub previous_match : after.previous_match.ghost_name ≡ before.previous_match.ghost_name
  pub next_match : after.next_match.ghost_name ≡ before.next_match.ghost_name

-- each has n entries
pub record AreOf (n : ℕ) (t : Tables) : Type 0 where
  pub previous : length t.previous ≡ n
  pub next : length t.next ≡ n
  pub previous_match : length t.previous_match ≡ n
  pub next_match : length t.next_match ≡ n

-- none for every position from k on, and match 0
abbrev pub cleared_tables : (none k : ℕ) → Tables → Tables
cleared_tables none k t =
    record {
      previous = cleared_from k none t.previous;
      next = cleared_from k none t.next;
      previous_match = cleared_from k 0 t.previous_match;
      next_match = cleared_from k 0 t.next_match;
    }
