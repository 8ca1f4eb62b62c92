-- What is claimed of the string of a tree. Each claim is a type; the law of its name, in small letters with `_`, proves it in
-- proofs/Laws.antt.
use Rattle.std.specs.Prelude.{◌≡◌, List, ℕ, ◌<◌, length, get_or, replicate}
use Rattle.suffix.specs.Search.{tabulate}
use Rattle.suffix.specs.Nearest.{previous, next, previous_match, next_match}
use Rattle.suffix.specs.Tree.{tree_length, tree_bytes}
use Rattle.refusal.specs.Conditions.{tree_refusal}
use Rattle.shape.specs.Shape.{previous_table, next_table}
use Rattle.shape.specs.Claims.{AreBytes}
use Rattle.outcome.specs.Built as build
use Rattle.brackets.specs.Answers as brackets
use Rattle.tree_string.specs.TreeString.{tree_string, string_refusal, symbols_at_exit}

-- ---- "all its symbols differ": they are 0 to n - 1, each once

pub record EachOnce (n : ℕ) (s : List ℕ) : Type 0 where
  pub long : length s ≡ n
  pub below : (i : ℕ) → i < n → get_or s i 0 < n
  pub differ : (i j : ℕ) → i < n → j < n → get_or s i 0 ≡ get_or s j 0 → i ≡ j
  pub each : (k : ℕ) → k < n → (i : ℕ) × (i < n) × (get_or s i 0 ≡ k)

abbrev pub SymbolsDiffer : Type 0
SymbolsDiffer = (n : ℕ) (t : List ℕ) → tree_refusal n t ≡ 0 → EachOnce n (tree_string n t)

-- ---- "Building it gives the tree back, for every balanced tree"

-- the tree of the string s is t, and its tables are those that t is read into; as the symbols differ, no two suffixes match
pub record GivesBack (n : ℕ) (t s : List ℕ) : Type 0 where
  pub tree : tree_bytes s n ≡ t
  pub previous : tabulate n (previous s) ≡ previous_table n t
  pub next : tabulate n (next s) ≡ next_table n t
  pub previous_match : tabulate n (previous_match s) ≡ replicate n 0
  pub next_match : tabulate n (next_match s) ≡ replicate n 0

abbrev pub StringGivesTheTreeBack : Type 0
StringGivesTheTreeBack = (n : ℕ) (t : List ℕ) → AreBytes t → tree_refusal n t ≡ 0 → GivesBack n t (tree_string n t)

-- And so do the operations, one after the other. A buffer, memory for a build and tables for a reader are lent, each of the lengths for n.
pub record Lends (n : ℕ) (symbols : List ℕ) (memory : build.Lent) (tables : brackets.Lent) : Type 0 where
  pub symbols_long : length symbols ≡ n
  pub build_previous : length memory.tables.previous ≡ n
  pub build_next : length memory.tables.next ≡ n
  pub build_previous_match : length memory.tables.previous_match ≡ n
  pub build_next_match : length memory.tables.next_match ≡ n
  pub build_tree : length memory.tree ≡ tree_length n
  pub read_previous : length tables.previous ≡ n
  pub read_next : length tables.next ≡ n

-- Writing the string, building what is written whole and reading the tree are not refused; the build leaves the tree, the tables that
-- reading leaves, and no match.
pub record BuiltBack (n : ℕ) (t symbols : List ℕ) (memory : build.Lent) (tables : brackets.Lent) : Type 0 where
  pub written : string_refusal n t (length symbols) ≡ 0
  pub built : build.refusal_of (symbols_at_exit n t symbols) n memory ≡ 0
  pub read : brackets.refusal_of n t tables ≡ 0
  pub leaves : let after = brackets.lent_at_exit n t tables in
      build.lent_at_exit (symbols_at_exit n t symbols) n memory ≡ build.lent after.previous after.next (replicate n 0) (replicate n 0) t

abbrev pub WrittenThenBuilt : Type 0
WrittenThenBuilt =
    (n : ℕ) (t symbols : List ℕ) (memory : build.Lent) (tables : brackets.Lent) → AreBytes t → tree_refusal n t ≡ 0 → Lends n symbols memory tables
    → BuiltBack n t symbols memory tables
