-- The claims of specs/Claims.antt, each proved.
use mathlib.Core.Path.{◌≡◌, refl, sym, ap, ◌∙◌}
use mathlib.Core.Bool.{Bool, false}
use mathlib.Core.List.{List, [], ◌∷◌}
use Prim.Native.Nat.{ℕ, zero, suc, ◌+◌, ◌*◌, ◌≤◌, ◌<◌}
use native.Mathlib.Omega.{arith}
use lib.Dec.{eqb}
use lib.ListN.{length, get_or}
use lib.Seq.{ext_get_or}
use borrow.Author.Tests.{eqb-true, eqb-false}
use Rattle.suffix.specs.Search.{tabulate}
use Rattle.suffix.specs.Tree.{parentheses, byte_of, tree_length, forest_after, tree_after, tree_bytes}
use Rattle.suffix.proofs.Cases.{Tri, lt, eq, gt, tri, Test, holds, fails, test, le_unless}
use Rattle.suffix.proofs.Search.{tabulate_length, tabulate_entry, tabulate_same}
use Rattle.suffix.proofs.Written.{tree_length_lem}
use Rattle.refusal.specs.Conditions.{bit_of, flaw_number, tree_refusal}
use Rattle.shape.specs.Shape.{size, parents, ends, IsTreeOf, shape_of, previous_table, next_table}
use Rattle.shape.specs.Claims.{TreesHaveTables, TablesAreOne, TreesAreAccepted, EqualTablesEqualTrees, ReadsAs, FinishedTree, first_bytes, HaltedTree, HaltedTreeIsRefused}
use Rattle.shape.proofs.Heights.{opened, opened_none, shuts, entry_one}
use Rattle.shape.proofs.Shapes.{Laid, laid_end, laid_above, entries, parents_length, ends_length}
use Rattle.shape.proofs.Parsing.{laid_from, laid_bit, ends_tell}
use Rattle.shape.proofs.Reading.{Balanced}
use Rattle.shape.proofs.Entries.{shape_laid, shape_size, previous_length_lem, next_length_lem, table_entry}
use Rattle.shape.proofs.Conditions.{Sound, sound, early, not_early, all_closed, spare_clear, spare_none, flaw_0, flaw_7, tree_1, tree_3, tree_flaw}
use Rattle.shape.proofs.ByteBits.{bytes_bit, bytes_by_bits}
use Rattle.shape.proofs.Rows.{rows_size, rows_parents, rows_ends, full_parents, full_ends}

-- a tree that is not refused
pub record Whole (n : ℕ) (t : List ℕ) : Type 0 where
  pub small : n ≤ 1000000
  pub bytes : length t ≡ tree_length n
  pub sound : Sound n t

pub whole : (n : ℕ) (t : List ℕ) → tree_refusal n t ≡ 0 → Whole n t
whole n t e = record { small = small; bytes = bytes; sound = sound n t (sym (tree_flaw n t small bytes) ∙ e) }
  where
    small : n ≤ 1000000
    small = le_unless n 1000000 (λ w. omega (arith, tree_1 n t w, e))

    bytes : length t ≡ tree_length n
    bytes = go (test (eqb (length t) (tree_length n)))
      where
        go : Test (eqb (length t) (tree_length n)) → length t ≡ tree_length n
        go (holds w) = eqb-true (length t) (tree_length n) w
        go (fails w) = absurd (omega (arith, tree_3 n t small (eqb-false (length t) (tree_length n) w), e))

pub trees_have_tables : TreesHaveTables
unfolding previous_table next_table
trees_have_tables n t e =
    let W = whole n t e in
    let B = W.sound.even in
    let z : 2 * n ≡ 2 * size (shape_of n t) = omega (arith, shape_size n t B) in
    record {
      shape = shape_of n t;
      positions = shape_size n t B;
      bytes = W.bytes;
      bits = λ k h. let w : 0 + k ≡ k = omega arith in rw w at (laid_bit (bit_of t) (shape_laid n t B) k (omega arith));
      spare = spare_none n t W.sound.spare;
      previous = refl;
      next = refl;
    }

-- ---- what is a tree of tables

module _ {n : ℕ} {t p x : List ℕ} (T : IsTreeOf n t p x) where
  is_laid : Laid (bit_of t) 0 T.shape (2 * n)
  is_laid = laid_from (bit_of t) T.shape 0 (2 * n) (omega (arith, T.positions)) (λ k h. let z : 0 + k ≡ k = omega arith in rw z (T.bits k (omega (arith, T.positions))))

  is_balanced : Balanced (bit_of t) (2 * n)
  is_balanced =
      record { above = λ k h. omega (arith, laid_above (bit_of t) is_laid k (omega arith) h, opened_none (bit_of t)); closed = omega (arith, laid_end (bit_of t) is_laid, T.positions, opened_none (bit_of t)) }

  no_flaw : flaw_number n t ≡ 0
  no_flaw = flaw_0 n t (spare_clear n t T.spare) (not_early n t is_balanced.above) (all_closed n t (omega (arith, is_balanced.closed)))

pub trees_are_accepted : TreesAreAccepted
trees_are_accepted n t p x h T = tree_flaw n t (omega arith) T.bytes ∙ no_flaw T

pub tables_are_one : TablesAreOne
tables_are_one n t p x T = (
  ext_get_or 0 p (previous_table n t) (lp ∙ sym (previous_length_lem n t B)) (λ i h. (same i (omega (arith, lp))).0),
  ext_get_or 0 x (next_table n t) (lx ∙ sym (next_length_lem n t B)) (λ i h. (same i (omega (arith, lx))).1),
)
  where
    B : Balanced (bit_of t) (2 * n)
    B = is_balanced T

    lp : length p ≡ n
    lp = ap length T.previous ∙ parents_length T.shape 0 n ∙ T.positions

    lx : length x ≡ n
    lx = ap length T.next ∙ ends_length T.shape 0 ∙ T.positions

    same : (i : ℕ) → i < n → (get_or p i 0 ≡ get_or (previous_table n t) i 0) × (get_or x i 0 ≡ get_or (next_table n t) i 0)
    same i h = rw (T.previous, T.next) (entry_one (entries (bit_of t) (is_laid T) n i (omega (arith, T.positions))) (table_entry n t B i h))

pub equal_tables_equal_trees : EqualTablesEqualTrees
equal_tables_equal_trees n t u p x a b T U = bytes_by_bits t u (T.bytes ∙ sym U.bytes) (λ j. omega (arith, a j)) (λ j. omega (arith, b j)) (λ k h. go k h (tri k (2 * n)))
  where
    shapes : T.shape ≡ U.shape
    shapes = ends_tell T.shape U.shape 0 (sym T.next ∙ U.next)

    past : (k : ℕ) → 2 * n ≤ k → k < 8 * length t → bit_of t k ≡ bit_of u k
    past k h g = T.spare k h g ∙ sym (U.spare k h (omega (arith, T.bytes, U.bytes)))

    go : (k : ℕ) → k < 8 * length t → Tri k (2 * n) → bit_of t k ≡ bit_of u k
    go k h (lt w) = T.bits k w ∙ ap (λ f. get_or (parentheses f) k false) shapes ∙ sym (U.bits k w)
    go k h (eq w) = past k (omega arith) h
    go k h (gt w) = past k (omega arith) h

-- ---- the tree of a build

past_end : (s : List Bool) (k : ℕ) → length s ≤ k → get_or s k false ≡ false
past_end [] k h = refl
past_end (b ∷ s) zero h = absurd (omega arith)
past_end (b ∷ s) (suc k) h = past_end s k (omega arith)

-- m bytes of the tree after R rows
module _ (y : List ℕ) (R m : ℕ) where
  abbrev written : List ℕ
  written = tabulate m (byte_of (λ k. get_or (tree_after y R) k false))

  written_length : length written ≡ m
  written_length = tabulate_length (byte_of (λ k. get_or (tree_after y R) k false)) m

  module _ (fits : R ≤ length y) where
    written_bit : (k : ℕ) → k < 8 * m → bit_of written k ≡ get_or (parentheses (forest_after y R)) k false
    unfolding tree_after
    written_bit k h = bytes_bit (λ k. get_or (tree_after y R) k false) m k h

    written_past : (k : ℕ) → 2 * R ≤ k → k < 8 * m → bit_of written k ≡ false
    unfolding tree_after
    written_past k h g = written_bit k g ∙ past_end (tree_after y R) k (omega (arith, tree_length_lem y R fits))

    written_opens : 2 * R ≤ 8 * m → opened (bit_of written) (2 * R) ≡ R
    written_opens h =
        let L : Laid (bit_of written) 0 (forest_after y R) (2 * R) =
        laid_from (bit_of written) (forest_after y R) 0 (2 * R) (omega (arith, rows_size y R fits))
        (λ k g. let z : 0 + k ≡ k = omega arith in rw z (written_bit k (omega (arith, rows_size y R fits)))) in
        omega (arith, laid_end (bit_of written) L, opened_none (bit_of written), rows_size y R fits)

built : (y : List ℕ) (R : ℕ) → R ≤ length y → IsTreeOf R (written y R (tree_length R)) (parents (forest_after y R) 0 R) (ends (forest_after y R) 0)
built y R fits =
    let m = tree_length R in
    record {
      shape = forest_after y R;
      positions = rows_size y R fits;
      bytes = written_length y R m;
      bits = λ k h. written_bit y R m fits k (omega arith);
      spare = λ k h g. written_past y R m fits k h (omega (arith, written_length y R m));
      previous = refl;
      next = refl;
    }

reads_as : {n : ℕ} {t p x : List ℕ} → n ≤ 1000000 → IsTreeOf n t p x → ReadsAs n t p x
reads_as {n} {t} {p} {x} h T =
    let e = tables_are_one n t p x T in
    record { tree = T; accepted = trees_are_accepted n t p x h T; previous = sym e.0; next = sym e.1 }

pub finished_tree : FinishedTree
unfolding tree_bytes
finished_tree y h = reads_as h (rw (← full_parents y, ← full_ends y) (built y (length y) (omega arith)))

pub halted_tree : HaltedTree
unfolding tree_bytes first_bytes
halted_tree y R fits small = reads_as small (rw (← rows_parents y R fits, ← rows_ends y R fits, same) (built y R fits))
  where
    g : ℕ → ℕ
    g = byte_of (λ k. get_or (tree_after y R) k false)

    same : first_bytes R (tree_bytes y R) ≡ tabulate (tree_length R) g
    same = tabulate_same (λ j. get_or (tree_bytes y R) j 0) g (tree_length R) (λ j h. tabulate_entry g (tree_length (length y)) j (omega arith))

pub halted_tree_is_refused : HaltedTreeIsRefused
unfolding tree_bytes
halted_tree_is_refused y R below small =
    let n = length y in
    let m = tree_length n in
    let t = written y R m in
    let fits : R ≤ n = omega arith in
    let clear : (k : ℕ) → 2 * R ≤ k → k < 8 * m → bit_of t k ≡ false = written_past y R m fits in
    tree_flaw n t small (written_length y R m)
    ∙ flaw_7 n t (spare_clear n t (λ k h g. clear k (omega arith) (omega (arith, written_length y R m))))
    (early n t (suc (2 * R)) (omega arith)
    (omega (arith, written_opens y R m fits (omega arith), shuts (bit_of t) (2 * R) (clear (2 * R) (omega arith) (omega arith)))))
