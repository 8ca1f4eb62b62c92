-- The claims of specs/Claims.antt, each proved.
use mathlib.Core.Path.{◌≡◌, refl, sym, ap, ◌∙◌}
use mathlib.Core.List.{List}
use Prim.Native.Nat.{ℕ, ◌<◌}
use native.Mathlib.Omega.{arith}
use lib.ListN.{length, get_or, replicate, get_or-replicate, length-replicate}
use Rattle.suffix.specs.Search.{tabulate}
use Rattle.suffix.specs.Nearest.{previous, next, previous_match, next_match}
use Rattle.suffix.specs.Tree.{Forest, forest_after, tree_bytes}
use Rattle.suffix.proofs.Search.{tabulate_is}
use Rattle.suffix.proofs.Bytes.{tree_fits}
use Rattle.suffix.proofs.Laws.{all_rows_give_all_entries}
use Rattle.refusal.specs.Conditions.{tree_refusal}
use Rattle.refusal.proofs.Tables.{Taken, none_refused, says_taken}
use Rattle.shape.specs.Shape.{size, parents, IsTreeOf, shape_of, previous_table, next_table}
use Rattle.shape.specs.Claims.{AreBytes}
use Rattle.shape.proofs.Rows.{full_parents, full_ends}
use Rattle.shape.proofs.Parsing.{ends_tell}
use Rattle.shape.proofs.Entries.{shape_size}
use Rattle.shape.proofs.Conditions.{tree_flaw, read_flaw}
use Rattle.shape.proofs.Laws.{Whole, whole, trees_have_tables, equal_tables_equal_trees, finished_tree}
use Rattle.outcome.specs.Built as build
use Rattle.outcome.proofs.Answers.{left_built}
use Rattle.brackets.specs.Answers as brackets
use Rattle.brackets.proofs.Answering.{lent_read}
use Rattle.tree_string.specs.TreeString.{order, number_in, tree_string, string_refusal, symbols_at_exit}
use Rattle.tree_string.specs.Claims.{EachOnce, SymbolsDiffer, GivesBack, StringGivesTheTreeBack, Lends, BuiltBack, WrittenThenBuilt}
use Rattle.tree_string.proofs.Numbers.{numbers, numbers_length, number_is, numbers_range, numbers_each, numbers_once}
use Rattle.tree_string.proofs.Building.{string_next}
use Rattle.tree_string.proofs.Matches.{no_previous_match, no_next_match}
use Rattle.tree_string.proofs.Answering.{string_tree, buffer_written}

-- the forest of the string of a forest is that forest
string_forest : (f : Forest) → forest_after (numbers f 0) (size f) ≡ f
string_forest f =
    let s = numbers f 0 in
    ends_tell (forest_after s (size f)) f 0 (rw (numbers_length f 0) at (full_ends s) ∙ sym (string_next f))

module _ (n : ℕ) (t : List ℕ) (e : tree_refusal n t ≡ 0) where
  abbrev f : Forest
  f = shape_of n t

  abbrev s : List ℕ
  s = numbers f 0

  positions : size f ≡ n
  positions = shape_size n t (whole n t e).sound.even

  long : length s ≡ n
  long = numbers_length f 0 ∙ positions

  pub string_numbers : tree_string n t ≡ s
  unfolding tree_string
  string_numbers = sym (tabulate_is (number_in (order f 0)) s n long (λ k h. sym (number_is f k (omega (arith, positions)))))

  next_is : tabulate n (next s) ≡ next_table n t
  unfolding next_table
  next_is = rw positions at (sym (string_next f))

  previous_is : tabulate n (previous s) ≡ previous_table n t
  unfolding previous_table
  previous_is = sym (rw long at (full_parents s)) ∙ ap (λ f. parents f 0 n) (rw positions at (string_forest f))

  built : IsTreeOf n (tree_bytes s n) (previous_table n t) (next_table n t)
  built = rw (sym previous_is, sym next_is) (rw long at (finished_tree s (omega (arith, (whole n t e).small, long))).tree)

  differ : (i j : ℕ) → i < length s → j < length s → get_or s i 0 ≡ get_or s j 0 → i ≡ j
  differ i j h w q = numbers_once f i j (omega (arith, numbers_length f 0)) (omega (arith, numbers_length f 0)) q

  each_once : EachOnce n s
  each_once =
      record {
        long = long;
        below = λ i h. omega (arith, numbers_range f 0 i (omega (arith, positions)), positions);
        differ = λ i j h w q. differ i j (omega (arith, long)) (omega (arith, long)) q;
        each = λ k h. (let r = numbers_each f 0 k (omega arith) (omega (arith, positions)) in (r.0, omega (arith, r.1, positions), r.2));
      }

  -- a table of what is 0 everywhere
  no_entries : (g : ℕ → ℕ) → ((i : ℕ) → i < length s → g i ≡ 0) → tabulate n g ≡ replicate n 0
  no_entries g z = sym (tabulate_is g (replicate n 0) n (length-replicate n 0) (λ i h. get_or-replicate n i 0 0 h ∙ sym (z i (omega (arith, long)))))

  gives_back : AreBytes t → GivesBack n t s
  gives_back b =
      record {
        tree = equal_tables_equal_trees n (tree_bytes s n) t (previous_table n t) (next_table n t) (tree_fits s n) b built (trees_have_tables n t e);
        previous = previous_is;
        next = next_is;
        previous_match = no_entries (previous_match s) (no_previous_match s differ);
        next_match = no_entries (next_match s) (no_next_match s differ);
      }

pub symbols_differ : SymbolsDiffer
symbols_differ n t e = rw (string_numbers n t e) (each_once n t e)

pub string_gives_the_tree_back : StringGivesTheTreeBack
string_gives_the_tree_back n t b e = rw (string_numbers n t e) (gives_back n t e b)

-- a build of n symbols over memory that is not refused leaves their tree and their tables
left_whole : (n : ℕ) (s : List ℕ) (memory : build.Lent) → length s ≡ n → build.refusal_of s n memory ≡ 0
    → build.lent_at_exit s n memory
    ≡ build.lent (tabulate n (previous s)) (tabulate n (next s)) (tabulate n (previous_match s)) (tabulate n (next_match s)) (tree_bytes s n)
unfolding build.lent_after
left_whole n s memory long e = left_built s n memory e ∙ ap (λ a. record { tables = a; tree = tree_bytes s n }) (rw long at (all_rows_give_all_entries s))

module _ (n : ℕ) (t symbols : List ℕ) (memory : build.Lent) (tables : brackets.Lent) (e : tree_refusal n t ≡ 0) (L : Lends n symbols memory tables) where
  W : Whole n t
  W = whole n t e

  abbrev after : List ℕ
  after = symbols_at_exit n t symbols

  written : string_refusal n t (length symbols) ≡ 0
  written = string_tree n t (length symbols) W.small L.symbols_long ∙ e

  after_is : tree_string n t ≡ after
  after_is = buffer_written n t symbols written

  after_long : length after ≡ n
  after_long = ap length (sym after_is) ∙ (symbols_differ n t e).long

  taken : build.refusal_of after n memory ≡ 0
  unfolding build.refusal_of
  taken =
      let a = memory.tables in
      let T : Taken n (length a.previous) (length a.next) (length a.previous_match) (length a.next_match) =
      record { few = W.small; previous = L.build_previous; next = L.build_next; previous_match = L.build_previous_match; next_match = L.build_next_match } in
      rw after_long (sym (says_taken n _ _ _ _ n (length memory.tree) (none_refused n _ _ _ _ T) L.build_tree (omega arith) refl))

  read : brackets.refusal_of n t tables ≡ 0
  unfolding brackets.refusal_of
  read = read_flaw n t _ _ W.small L.read_previous L.read_next W.bytes ∙ sym (tree_flaw n t W.small W.bytes) ∙ e

  built_back : AreBytes t → BuiltBack n t symbols memory tables
  built_back b =
      let G = rw after_is at (string_gives_the_tree_back n t b e) in
      record {
        written = written;
        built = taken;
        read = read;
        leaves =
            left_whole n after memory after_long taken
            ∙ rw (G.tree, G.previous, G.next, G.previous_match, G.next_match, ← lent_read n t tables read refl refl);
      }

pub written_then_built : WrittenThenBuilt
written_then_built n t symbols memory tables b e L = built_back n t symbols memory tables e L b
