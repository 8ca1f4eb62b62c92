-- What the rows write from left to right is the tree, by what hangs under what.
use mathlib.Core.Path.{◌≡◌, refl, sym, ap, ◌∙◌}
use mathlib.Core.Bool.{Bool, true, false}
use mathlib.Core.List.{List, ◌∷◌, ◌++◌, append_assoc, append-nil}
use Prim.Native.Nat.{ℕ, zero, suc, ◌+◌, ◌-◌, ◌≤◌, ◌<◌, min}
use native.Mathlib.Omega.{arith}
use lib.ListN.{length, replicate, length-append, length-replicate}
use Rattle.suffix.specs.Nearest.{next}
use Rattle.suffix.specs.Tree.{Forest, parentheses, tree_after, closed_by, unclosed, rows_write}
use Rattle.suffix.proofs.Levels.{level, closed_by_lem, level_none, level_is, level_next}
use Rattle.suffix.proofs.Hanging.{Hung, nothing, node, forest_hung}

-- ---- the brackets that t rows from i on write where d are open, and those of row i close down to level i

unfoldable pub emit : List ℕ → ℕ → ℕ → ℕ → List Bool
emit y d i zero = replicate d false
emit y d i (suc t) = replicate (suc d - level y i) false ++ true ∷ emit y (level y i) (suc i) t

emit_step : (y : List ℕ) (d i t : ℕ) → emit y d i (suc t) ≡ replicate (suc d - level y i) false ++ true ∷ emit y (level y i) (suc i) t
unfolding emit
emit_step y d i t = refl

-- one more bracket to close
emit_close : (y : List ℕ) (d i t : ℕ) → (0 < t → level y i ≤ suc d) → emit y (suc d) i t ≡ false ∷ emit y d i t
unfolding emit
emit_close y d i zero h = refl
emit_close y d i (suc t) h =
    let e : suc (suc d) - level y i ≡ suc (suc d - level y i) = omega (arith, h (omega arith)) in
    rw e

pub emit_rows : (y : List ℕ) (i t : ℕ) → i + t ≤ length y → emit y (unclosed y i) i t ≡ rows_write y i t
unfolding emit rows_write
emit_rows y i zero h = refl
emit_rows y i (suc t) h =
    let z : suc (unclosed y i) - level y i ≡ closed_by y i = omega (arith, closed_by_lem y i (omega arith)) in
    rw (z, emit_rows y (suc i) t (omega arith))

-- d closings, and a pair of brackets a row
emit_length : (y : List ℕ) (d i t : ℕ) → i + t ≤ length y → (0 < t → level y i ≤ suc d) → length (emit y d i t) ≡ d + t + t
unfolding emit
emit_length y d i zero h g = length-replicate d false ∙ omega arith
emit_length y d i (suc t) h g =
    length-append (replicate (suc d - level y i) false) (true ∷ emit y (level y i) (suc i) t)
    ∙ omega (
      arith,
      length-replicate (suc d - level y i) false,
      emit_length y (level y i) (suc i) t (omega arith) (λ w. omega (arith, closed_by_lem y (suc i) (omega arith))),
      g (omega arith),
    )

-- ---- the rows from i on write what hangs under p, where p is open last, and then what the rows from e on write

emit_hung : (y : List ℕ) (R : ℕ) → R ≤ length y → {p i e : ℕ} {f : Forest} → Hung y R p i e f → e ≤ R
    → emit y (level y p) i (R - i) ≡ parentheses f ++ emit y (level y p) e (R - e)
unfolding parentheses
emit_hung y R fits nothing g = refl
emit_hung y R fits {p} {i} {e} (node {under = under} {right = right} h pi one two) g =
    rw (z, emit_step, gap, emit_hung y R fits one (omega arith), lv, emit_close y (level y p) stop (R - stop) low, emit_hung y R fits two g)
    (ap (λ v. true ∷ v) (sym (append_assoc (parentheses under) (false ∷ parentheses right) (emit y (level y p) e (R - e)))))
  where
    stop : ℕ
    stop = min (next y i) R

    z : R - i ≡ suc (R - suc i)
    z = omega arith

    lv : level y i ≡ suc (level y p)
    lv = level_is y i (omega arith) ∙ ap (λ v. suc (level y v)) pi

    gap : suc (level y p) - level y i ≡ 0
    gap = omega (arith, lv)

    low : 0 < R - stop → level y stop ≤ suc (level y p)
    low w = let q : stop ≡ next y i = omega arith in rw q (omega (arith, lv, level_next y i (omega arith) (omega arith)))

pub emit_tree : (y : List ℕ) (R : ℕ) → R ≤ length y → emit y 0 0 R ≡ tree_after y R
unfolding tree_after emit
emit_tree y R fits =
    let a : R - 0 ≡ R = omega arith in
    let b : R - R ≡ 0 = omega arith in
    rw (level_none, a, b) at (emit_hung y R fits (forest_hung y R fits) (omega arith)) ∙ append-nil _

pub rows_write_lem : (y : List ℕ) (R : ℕ) → R ≤ length y → rows_write y 0 R ≡ tree_after y R
unfolding unclosed Rattle.suffix.specs.Search.count_below
rows_write_lem y R h = sym (emit_rows y 0 R (omega arith)) ∙ emit_tree y R h

pub tree_length_lem : (y : List ℕ) (R : ℕ) → R ≤ length y → length (tree_after y R) ≡ R + R
unfolding unclosed Rattle.suffix.specs.Search.count_below
tree_length_lem y R h = ap length (sym (emit_tree y R h)) ∙ emit_length y 0 0 R (omega arith) (λ w. omega (arith, closed_by_lem y 0 (omega arith))) ∙ omega arith
