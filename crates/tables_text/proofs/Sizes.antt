-- How long the texts of the program are, and what each says in its cases.
use mathlib.Core.Path.{◌≡◌, ap}
use mathlib.Core.List.{List, [], ◌∷◌, ◌++◌}
use Prim.Native.Nat.{ℕ, zero, suc, ◌+◌, ◌-◌, ◌*◌, ◌≤◌}
use native.Mathlib.Numerals.{add-one}
use native.Mathlib.Omega.{arith}
use lib.ListN.{length, length-append}
use borrow.Author.Tests.{eq-eqb, ne_eqb}
use Rattle.suffix.proofs.Cases.{Same, same, other, same?}
use Rattle.suffix.specs.Nearest.{previous, next}
use Rattle.writing.specs.Text.{hexes}
use Rattle.writing.proofs.Places.{decimal_most}
use Rattle.writing.proofs.Hexes.{hexes_size}
use Rattle.tables_text.specs.Text.{field, or_dash, line_text, figure, tree_text, head_text, lines}

pub lines_more : (y : List ℕ) (k : ℕ) → lines y (k + 1) ≡ lines y k ++ line_text (length y) k (previous y k) (next y k)
unfolding lines
lines_more y k = rw add-one

pub dash : (n p : ℕ) → p ≡ n → or_dash n p ≡ 45 ∷ 32 ∷ []
unfolding or_dash
dash n p e = rw (eq-eqb p n e)

pub no_dash : (n p : ℕ) → (p ≡ n → ⊥) → or_dash n p ≡ field p 32
unfolding or_dash
no_dash n p e = rw (ne_eqb p n e)

pub tree_none : (t : List ℕ) → length t ≡ 0 → tree_text t ≡ 45 ∷ []
unfolding tree_text
tree_none t e = rw (eq-eqb (length t) 0 e)

pub tree_some : (t : List ℕ) → (length t ≡ 0 → ⊥) → tree_text t ≡ hexes t (length t)
unfolding tree_text
tree_some t e = rw (ne_eqb (length t) 0 e)

-- how long a text can be
field_most : (x b : ℕ) → length (field x b) ≤ 21
unfolding field
field_most x b = simp length-append (omega (arith, decimal_most x))

figure_most : (name : List ℕ) (x : ℕ) → length (figure name x) ≤ length name + 21
unfolding figure
figure_most name x = simp length-append (omega (arith, field_most x 32))

dash_most : (n p : ℕ) → length (or_dash n p) ≤ 21
dash_most n p = go (same? p n)
  where
    go : Same p n → length (or_dash n p) ≤ 21
    go (same e) = omega (arith, ap length (dash n p e))
    go (other e) = omega (arith, ap length (no_dash n p e), field_most p 32)

line_most : (n i p q : ℕ) → length (line_text n i p q) ≤ 84
unfolding line_text
line_most n i p q = simp length-append (omega (arith, field_most i 32, dash_most n p, field_most q 32, field_most (q - i) 10))

pub lines_most : (y : List ℕ) (k : ℕ) → length (lines y k) ≤ 84 * k
unfolding lines
lines_most y zero = omega arith
lines_most y (suc k) = simp length-append (omega (arith, lines_most y k, line_most (length y) k (previous y k) (next y k)))

tree_most : (t : List ℕ) → length t ≤ 512 → length (tree_text t) ≤ 1024
tree_most t h = go (same? (length t) 0)
  where
    go : Same (length t) 0 → length (tree_text t) ≤ 1024
    go (same e) = omega (arith, ap length (tree_none t e))
    go (other e) = omega (arith, ap length (tree_some t e), hexes_size t (length t))

pub head_most : (n c : ℕ) (t : List ℕ) → length t ≤ 512 → length (head_text n c t) ≤ 1100
unfolding head_text
head_most n c t h =
    simp length-append
    (omega (
      arith,
      figure_most (108 ∷ 101 ∷ 110 ∷ 103 ∷ 116 ∷ 104 ∷ 32 ∷ []) n,
      figure_most (99 ∷ 111 ∷ 109 ∷ 112 ∷ 97 ∷ 114 ∷ 105 ∷ 115 ∷ 111 ∷ 110 ∷ 115 ∷ 32 ∷ []) c,
      tree_most t h,
    ))
