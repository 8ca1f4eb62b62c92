-- Writes one behind the other, and puts, which write as much as there is room for.
use mathlib.Core.Path.{◌≡◌, refl, sym, ap, ◌∙◌}
use mathlib.Core.List.{List, [], ◌∷◌, ◌++◌, append_assoc, append-nil}
use Prim.Native.Nat.{ℕ, zero, suc, ◌+◌, ◌-◌, ◌≤◌}
use native.Mathlib.Omega.{arith}
use lib.ListN.{length, take, drop, length-append, length-take, length-drop, take-append-drop}
use lib.Seq.{take_at, drop_at, drop-drop, take_all, take-nil, take-length, length-take-le}
use Rattle.writing.specs.Writing.{Wrote, Put}

-- what is the same from y on is the same further on
later : (b a : List ℕ) (y k z : ℕ) → z ≡ y + k → drop y b ≡ drop y a → drop z b ≡ drop z a
later b a y k z e h = rw e (sym (drop-drop k y b) ∙ ap (drop k) h ∙ drop-drop k y a)

pub wrote_none : (a : List ℕ) (x : ℕ) → Wrote a a [] x x
wrote_none a x = record { size = omega arith; text = sym (simp append-nil); rest = refl }

pub wrote_then : {a b c s t : List ℕ} {x y z : ℕ} → Wrote a b s x y → Wrote b c t y z → Wrote a c (s ++ t) x z
wrote_then {a} {b} {c} {s} {t} {x} {y} {z} p q =
    record {
      size = omega (arith, p.size, q.size, length-append s t);
      text = q.text ∙ ap (λ (u : List ℕ). u ++ t) p.text ∙ append_assoc (take x a) s t;
      rest = q.rest ∙ later b a y (length t) z q.size p.rest;
    }

-- a part put back with only its first m bytes changed
drop_part : (m k : ℕ) (l : List ℕ) → m ≤ k → drop m (take k l) ++ drop k l ≡ drop m l
drop_part zero k l h = take-append-drop k l
drop_part (suc m) zero l h = absurd (omega arith)
drop_part (suc m) (suc k) [] h = refl
drop_part (suc m) (suc k) (v ∷ l) h = drop_part m k l (omega arith)

-- one text behind another text, in one step: e is the part of a from x on, k bytes, with s copied to its start
pub wrote_part :
    (a s e : List ℕ) (x k n : ℕ) → x + length s ≤ length a → length s ≤ k → n ≡ length s → e ≡ take (length s) s ++ drop (length s) (take k (drop x a))
    → Wrote a (take x a ++ (e ++ drop k (drop x a))) s x (x + n)
wrote_part a s e x k n h f g w = record { size = omega arith; text = rw shape (take_at (take x a ++ s) behind (x + n) size); rest = rw shape (drop_at (take x a ++ s) behind (x + n) size ∙ drop-drop n x a) }
  where
    behind : List ℕ
    behind = drop n (drop x a)

    shape : take x a ++ (e ++ drop k (drop x a)) ≡ (take x a ++ s) ++ behind
    shape = rw (w, g) (simp (take-length, append_assoc, drop_part (length s) k (drop x a) f))

    size : length (take x a ++ s) ≡ x + n
    size = omega (arith, length-append (take x a) s, length-take-le x a (omega arith))

pub put_none : (a : List ℕ) (x : ℕ) → Put a a [] x x
put_none a x = record { wrote = rw take-nil (wrote_none a x) }

-- where there is room for all of the text, all of it is put
pub put_fits : {a b t : List ℕ} {x z : ℕ} → Put a b t x z → x + length t ≤ length a → Wrote a b t x z
put_fits {a} {b} {t} {x} {z} p h = rw (take_all (length a - x) t (omega arith)) at p.wrote

-- the buffer stays as long as it is
pub put_length : {a b t : List ℕ} {x z : ℕ} → Put a b t x z → length b ≡ length a
put_length {a} {b} {t} {x} {z} p =
    let w = p.wrote in
    omega (arith, w.size, simp (length-take, length-append) at (ap length w.text), simp length-drop at (ap length w.rest), length-take (length a - x) t)

-- the first m bytes of two texts, one behind the other
take_append : (m : ℕ) (s t : List ℕ) → take m (s ++ t) ≡ take m s ++ take (m - length s) t
take_append zero s t = let z : zero - length s ≡ zero = omega arith in rw z
take_append (suc m) [] t = let z : suc m - zero ≡ suc m = omega arith in rw z
take_append (suc m) (v ∷ s) t = let z : suc m - suc (length s) ≡ m - length s = omega arith in rw (z, take_append m s t)

-- a put behind a put is one put of both texts
pub put_then : {a b c s t : List ℕ} {x y z : ℕ} → Put a b s x y → Put b c t y z → Put a c (s ++ t) x z
put_then {a} {b} {c} {s} {t} {x} {y} {z} p q =
    let room : length b - y ≡ length a - x - length s = omega (arith, put_length p, p.wrote.size, length-take (length a - x) s) in
    record { wrote = rw (take_append (length a - x) s t, ← room) (wrote_then p.wrote q.wrote) }
