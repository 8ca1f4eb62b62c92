-- The longest Lyndon word from i ends before next[i]: document 004, lemma 3, from its definition 1.
use mathlib.Core.Path.{◌≡◌, refl, sym, ap, ◌∙◌}
use mathlib.Core.Bool.{true, false, true≢false}
use mathlib.Core.List.{List, [], ◌∷◌}
use Prim.Native.Nat.{ℕ, zero, suc, ◌+◌, ◌-◌, ◌≤◌, ◌<◌}
use native.Mathlib.Omega.{arith}
use lib.ListN.{length, take, drop, length-take, length-drop}
use borrow.Author.Tests.{lt-ltb}
use Rattle.suffix.specs.Order.{lex_less, suffix_less}
use Rattle.suffix.specs.Nearest.{next}
use Rattle.suffix.specs.Lyndon.{is_lyndon, part, longest_lyndon}
use Rattle.suffix.proofs.Cases.{Tri, lt, eq, gt, tri, le_unless}
use Rattle.suffix.proofs.Search.{Greatest, found, absent, greatest, all_true, all_false}
use Rattle.suffix.proofs.Sequence.{Less, less_match}
use Rattle.suffix.proofs.Edges.{NextAt, next_edge, unbordered}
use Rattle.suffix.proofs.Order.{extended, extended_in, extended_out, extended_drop, less_true, less_false}
use Rattle.suffix.proofs.Nearest.{next_at_lem, next_le}

extended_take_in : (k : ℕ) (s : List ℕ) (t : ℕ) → t < k → extended (take k s) t ≡ extended s t
extended_take_in zero s t h = absurd (omega arith)
extended_take_in (suc k) [] t h = refl
extended_take_in (suc k) (x ∷ s) zero h = refl
extended_take_in (suc k) (x ∷ s) (suc t) h = extended_take_in k s t (omega arith)

-- a word is a Lyndon word by the order of its suffixes
pub lyndon_is : (w : List ℕ) → 0 < length w → ((j : ℕ) → 0 < j → j < length w → Less (extended w) 0 j) → is_lyndon w ≡ true
unfolding is_lyndon suffix_less
lyndon_is w h q =
    rw (lt-ltb 0 (length w) h)
    (all_true (λ k. lex_less w (drop (suc k) w)) (length w - 1)
    (λ j g. less_true w 0 (suc j) (omega arith) (omega arith) (omega arith) (q (suc j) (omega arith) (omega arith))))

pub lyndon_not : (w : List ℕ) (j : ℕ) → 0 < j → j < length w → Less (extended w) j 0 → is_lyndon w ≡ false
unfolding is_lyndon suffix_less
lyndon_not w j h g p =
    let z : suc (j - 1) ≡ j = omega arith in
    rw (lt-ltb 0 (length w) (omega arith))
    (all_false (λ k. lex_less w (drop (suc k) w)) (length w - 1) (j - 1) (omega arith)
    (rw z (less_false w 0 j (omega arith) (omega arith) (omega arith) p)))

module _ (y : List ℕ) (i k : ℕ) (fits : i + k ≤ length y) where
  pub part_length : length (part y i k) ≡ k
  unfolding part
  part_length = omega (arith, length-take k (drop i y), length-drop i y)

  part_out : (t : ℕ) → k ≤ t → extended (part y i k) t ≡ 0
  part_out t h = extended_out (part y i k) t (omega (arith, part_length))

  -- place u + x of the string is place a + x of the part
  part_at : (a u x : ℕ) → u ≡ i + a → a + x < k → extended (part y i k) (a + x) ≡ extended y (u + x)
  unfolding part
  part_at a u x e w = extended_take_in k (drop i y) (a + x) w ∙ extended_drop i y (a + x) ∙ ap (extended y) (omega arith)

  -- an order decided inside the part holds in it
  part_less : (a b u v : ℕ) → u ≡ i + a → v ≡ i + b → (p : Less (extended y) u v) → a + p.at < k → b + p.at < k → Less (extended (part y i k)) a b
  part_less a b u v e z p g h =
      record {
        at = p.at;
        same = record { on = λ x w. part_at a u x e (omega arith) ∙ p.same.on x w ∙ sym (part_at b v x z (omega arith)) };
        less = omega (arith, p.less, part_at a u p.at e g, part_at b v p.at z h);
      }

module _ (y : List ℕ) (i : ℕ) (inside : i < length y) where
  q : ℕ
  q = next y i

  N : NextAt (extended y) i q
  unfolding q
  N = next_at_lem y i inside

  fits : i + (q - i) ≤ length y
  unfolding q
  fits = omega (arith, (next_at_lem y i inside).after, next_le y i)

  -- the part up to next[i] is a Lyndon word
  next_lyndon : is_lyndon (part y i (q - i)) ≡ true
  next_lyndon = lyndon_is (part y i (q - i)) (omega (arith, size, N.after)) (λ j a b. here j a (omega (arith, size)))
    where
      size : length (part y i (q - i)) ≡ q - i
      size = part_length y i (q - i) fits

      here : (j : ℕ) → 0 < j → j < q - i → Less (extended (part y i (q - i))) 0 j
      here j a b =
          let p : Less (extended y) i (i + j) = N.nearest (i + j) (omega arith) (omega arith) in
          let w : i + j + p.at < q = unbordered (extended y) (next_edge (extended y) N) (omega arith) (omega arith) (less_match (extended y) p) in
          part_less y i (q - i) fits 0 j i (i + j) (omega arith) refl p (omega arith) (omega arith)

  -- a longer one is not: its suffix at next[i] is smaller, by a letter or as a prefix of it
  longer_not : (k : ℕ) → q - i < k → i + k ≤ length y → is_lyndon (part y i k) ≡ false
  longer_not k h room = lyndon_not (part y i k) (q - i) (omega (arith, N.after)) (omega (arith, part_length y i k room)) (lower (tri (q + p.at) (i + k)))
    where
      p : Less (extended y) q i
      p = N.smaller

      prefix : i + k ≤ q + p.at → Less (extended (part y i k)) (q - i) 0
      prefix w =
          let e : ℕ = k - (q - i) in
          record {
            at = e;
            same =
                record {
                  on = λ x g.
                      part_at y i k room (q - i) q x (omega (arith, N.after)) (omega arith)
                      ∙ p.same.on x (omega (arith, N.after))
                      ∙ sym (part_at y i k room 0 i x (omega arith) (omega arith));
                };
            less =
                omega (
                  arith,
                  part_out y i k room (q - i + e) (omega arith),
                  part_at y i k room 0 i e (omega arith) (omega (arith, N.after)),
                  extended_in y (i + e) (omega (arith, N.after)),
                );
          }

      lower : Tri (q + p.at) (i + k) → Less (extended (part y i k)) (q - i) 0
      lower (lt w) = part_less y i k room (q - i) 0 q i (omega (arith, N.after)) (omega arith) p (omega (arith, N.after)) (omega (arith, N.after))
      lower (eq w) = prefix (omega arith)
      lower (gt w) = prefix (omega arith)

  pub longest_next : longest_lyndon y i ≡ next y i - i
  unfolding longest_lyndon q
  longest_next = go (greatest (λ k. is_lyndon (part y i k)) 0 (suc (length y - i)))
    where
      go : {v : ℕ} → Greatest (suc (length y - i)) (λ k. is_lyndon (part y i k)) 0 v → v ≡ next y i - i
      go {v} (found a b c) =
          let least : q - i ≤ v = le_unless (q - i) v (λ w. true≢false (sym next_lyndon ∙ c (q - i) w (omega (arith, fits)))) in
          let most : v ≤ q - i = le_unless v (q - i) (λ w. true≢false (sym b ∙ longer_not v w (omega arith))) in
          omega arith
      go (absent a c) = absurd (true≢false (sym next_lyndon ∙ c (q - i) (omega (arith, fits))))
