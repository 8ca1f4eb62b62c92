-- Brackets changed from a bit on: the bytes, by sums of weights; and the brackets that come first.
use mathlib.Core.Path.{◌≡◌, refl, sym, ap, ◌∙◌}
use mathlib.Core.Bool.{Bool, false, cond}
use mathlib.Core.List.{List}
use Prim.Native.Nat.{ℕ, zero, suc, ◌+◌, ◌-◌, ◌*◌, ◌/◌, ◌%◌, ◌^◌, ◌≤◌, ◌<◌, min}
use native.Mathlib.Nat.{two-pow-succ, pow-le-pow_right, one-le-pow, mod-lt}
use native.Mathlib.Omega.{arith}
use lib.Dec.{ltb}
use lib.ListN.{length, get_or, set, length-set}
use lib.Seq.{get_or-set_same, get_or-set_other}
use borrow.Author.Tests.{lt-ltb, le-ltb, le-leb, lt-leb}
use Rattle.suffix.specs.Search.{sum_below}
use Rattle.suffix.specs.Tree.{byte_of}
use Rattle.suffix.proofs.Cases.{Tri, lt, eq, gt, tri, Same, same, other, same?}
use Rattle.suffix.proofs.Search.{sum_same, tabulate_is}
use Rattle.refusal.specs.Conditions.{byte_bit, bit_of}
use Rattle.shape.proofs.ByteBits.{bit_digit, byte_is}
use Rattle.small_trees.specs.Steps.{changed_bit, changed_tree}

module _ (was : Bool) (k from to q : ℕ) where
  pub changed_before : q < k → changed_bit was k from to q ≡ was
  unfolding changed_bit
  changed_before h = rw (lt-ltb q k h, changed_bit)

  pub changed_low : k ≤ q → q < from → changed_bit was k from to q ≡ false
  unfolding changed_bit
  changed_low h w = rw (le-ltb q k h, changed_bit, lt-leb from q w)

  pub changed_high : k ≤ q → from ≤ q → changed_bit was k from to q ≡ ltb q to
  unfolding changed_bit
  changed_high h w = rw (le-ltb q k h, changed_bit, le-leb from q w)

-- ---- a byte as the sum of the weights of its bits

pub bytes_same : (g h : ℕ → Bool) (j : ℕ) → ((i : ℕ) → i < 8 → g (8 * j + i) ≡ h (8 * j + i)) → byte_of g j ≡ byte_of h j
unfolding byte_of
bytes_same g h j q = sum_same (λ i. 2 ^ i * cond (g (8 * j + i)) 1 0) (λ i. 2 ^ i * cond (h (8 * j + i)) 1 0) 8 (λ i w. ap (λ b. 2 ^ i * cond b 1 0) (q i w))

-- one bit more
mod_more : (b m : ℕ) → m < 8 → b % 2 ^ suc m ≡ b % 2 ^ m + 2 ^ m * (b / 2 ^ m % 2)
mod_more b zero h = omega arith
mod_more b (suc zero) h = omega arith
mod_more b (suc (suc zero)) h = omega arith
mod_more b (suc (suc (suc zero))) h = omega arith
mod_more b (suc (suc (suc (suc zero)))) h = omega arith
mod_more b (suc (suc (suc (suc (suc zero))))) h = omega arith
mod_more b (suc (suc (suc (suc (suc (suc zero)))))) h = omega arith
mod_more b (suc (suc (suc (suc (suc (suc (suc zero))))))) h = omega arith
mod_more b (suc (suc (suc (suc (suc (suc (suc (suc m)))))))) h = absurd (omega arith)

pub weight_fits : (m : ℕ) {u : ℕ} → u ≡ 2 ^ min m 8 → (0 < u) × (u ≤ 256)
weight_fits m e = rw e (one-le-pow (min m 8) 2 (omega arith), pow-le-pow_right {n = 2} (omega arith) {i = min m 8} {j = 8} (omega arith))

module _ (byte j k from to : ℕ) (f : k ≤ from) (g : from ≤ to) where
  abbrev bits : ℕ → Bool
  bits q = changed_bit (byte_bit byte (q % 8)) k from to q

  -- how many bits of byte j are before bit q
  abbrev before : ℕ → ℕ
  before q = min (q - 8 * j) 8

  abbrev sum_to : ℕ → ℕ
  sum_to m = sum_below m (λ i. 2 ^ i * cond (bits (8 * j + i)) 1 0)

  inside : (q m : ℕ) → m < 8 → 8 * j + m < q → (min m (before q) ≡ m) × (min (suc m) (before q) ≡ suc m)
  inside q m h w = (omega arith, omega arith)

  past : (q m : ℕ) → q ≤ 8 * j + m → min (suc m) (before q) ≡ min m (before q)
  past q m w = omega arith

  -- the sum of the first m bits
  summed : (m : ℕ) → m ≤ 8 → sum_to m + 2 ^ min m (before from) ≡ byte % 2 ^ min m (before k) + 2 ^ min m (before to)
  unfolding sum_below
  summed zero h =
      let z : (x : ℕ) → min 0 x ≡ 0 = λ x. omega arith in
      rw (z (before from), z (before k), z (before to)) (omega arith)
  summed (suc m) h = go (tri (8 * j + m) k) (summed m (omega arith))
    where
      Ih : Type 0
      Ih = sum_to m + 2 ^ min m (before from) ≡ byte % 2 ^ min m (before k) + 2 ^ min m (before to)

      Goal : Type 0
      Goal = sum_to m + 2 ^ m * cond (bits (8 * j + m)) 1 0 + 2 ^ min (suc m) (before from) ≡ byte % 2 ^ min (suc m) (before k) + 2 ^ min (suc m) (before to)

      kept : 8 * j + m < k → Ih → Goal
      kept w ih =
          let a = inside k m (omega arith) w in
          let b = inside from m (omega arith) (omega arith) in
          let c = inside to m (omega arith) (omega arith) in
          let y : (8 * j + m) % 8 ≡ m = omega arith in
          let e : cond (bits (8 * j + m)) 1 0 ≡ byte / 2 ^ m % 2 = ap (λ v. cond v 1 0) (changed_before (byte_bit byte ((8 * j + m) % 8)) k from to (8 * j + m) w ∙ ap (byte_bit byte) y) ∙ bit_digit byte m in
          rw (a.1, b.1, c.1, e) (omega (arith, mod_more byte m (omega arith), rw (a.0, b.0, c.0) at ih))

      low : k ≤ 8 * j + m → 8 * j + m < from → Ih → Goal
      low u w ih =
          let b = inside from m (omega arith) w in
          let c = inside to m (omega arith) (omega arith) in
          rw (past k m u, b.1, c.1, changed_low (byte_bit byte ((8 * j + m) % 8)) k from to (8 * j + m) u w) (omega (arith, rw (b.0, c.0) at ih))

      high : from ≤ 8 * j + m → 8 * j + m < to → Ih → Goal
      high u w ih =
          let c = inside to m (omega arith) w in
          rw (past k m (omega arith), past from m u, c.1, changed_high (byte_bit byte ((8 * j + m) % 8)) k from to (8 * j + m) (omega arith) u, lt-ltb (8 * j + m) to w)
          (omega (arith, two-pow-succ m, rw c.0 at ih))

      none : to ≤ 8 * j + m → Ih → Goal
      none u ih =
          rw (past k m (omega arith), past from m (omega arith), past to m u, changed_high (byte_bit byte ((8 * j + m) % 8)) k from to (8 * j + m) (omega arith) (omega arith), le-ltb (8 * j + m) to u)
          (omega arith)

      from_on : from ≤ 8 * j + m → Tri (8 * j + m) to → Ih → Goal
      from_on u (lt c) = high u c
      from_on u (eq c) = none (omega arith)
      from_on u (gt c) = none (omega arith)

      k_on : k ≤ 8 * j + m → Tri (8 * j + m) from → Ih → Goal
      k_on u (lt b) = low u b
      k_on u (eq b) = from_on (omega arith) (tri (8 * j + m) to)
      k_on u (gt b) = from_on (omega arith) (tri (8 * j + m) to)

      go : Tri (8 * j + m) k → Ih → Goal
      go (lt a) = kept a
      go (eq a) = k_on (omega arith) (tri (8 * j + m) from)
      go (gt a) = k_on (omega arith) (tri (8 * j + m) from)

  -- a byte by the weights u, v and w of its first bits that are not before k, from and to
  pub record Weighed (u v w : ℕ) : Type 0 where
    pub enough : v ≤ byte % u + w
    pub fits : byte % u + w - v < 256
    pub is : byte % u + w - v ≡ byte_of bits j

  pub weights_byte : {u v w : ℕ} → u ≡ 2 ^ before k → v ≡ 2 ^ before from → w ≡ 2 ^ before to → Weighed u v w
  unfolding byte_of
  weights_byte {u} {v} {w} x y z =
      let all : (q : ℕ) → min 8 (before q) ≡ before q = λ q. omega arith in
      let s : sum_to 8 + v ≡ byte % u + w = rw (x, y, z) (rw (all from, all k, all to) at (summed 8 (omega arith))) in
      let up : u ≤ v = rw (x, y) (pow-le-pow_right {n = 2} (omega arith) {i = before k} {j = before from} (omega arith)) in
      let rest : byte % u < u = mod-lt byte (weight_fits (k - 8 * j) x).0 in
      let most : w ≤ 256 = (weight_fits (to - 8 * j) z).1 in
      record { enough = omega arith; fits = omega arith; is = omega arith }

-- ---- byte after byte

module _ (t : List ℕ) (k from to : ℕ) where
  abbrev new : ℕ → ℕ
  new j = byte_of (λ q. changed_bit (bit_of t q) k from to q) j

  pub new_byte : (j byte : ℕ) → byte ≡ get_or t j 0 → byte_of (λ q. changed_bit (byte_bit byte (q % 8)) k from to q) j ≡ new j
  unfolding bit_of
  new_byte j byte e =
      bytes_same (λ q. changed_bit (byte_bit byte (q % 8)) k from to q) (λ q. changed_bit (bit_of t q) k from to q) j
      (λ i h.
      let x : (8 * j + i) / 8 ≡ j = omega arith in
      rw (x, e))

  -- the first j bytes are changed
  pub record ChangedTo (j : ℕ) (now : List ℕ) : Type 0 where
    pub long : length now ≡ length t
    done : (i : ℕ) → i < j → i < length t → get_or now i 0 ≡ new i
    left : (i : ℕ) → j ≤ i → get_or now i 0 ≡ get_or t i 0

  -- a byte of which all bits are before bit k
  new_kept : (j : ℕ) → 8 * j + 8 ≤ k → get_or t j 0 < 256 → get_or t j 0 ≡ new j
  unfolding byte_of bit_of
  new_kept j h b =
      byte_is (get_or t j 0) b
      ∙ sum_same (λ i. 2 ^ i * cond (byte_bit (get_or t j 0) i) 1 0) (λ i. 2 ^ i * cond (changed_bit (bit_of t (8 * j + i)) k from to (8 * j + i)) 1 0) 8
      (λ i w. ap (λ c. 2 ^ i * cond c 1 0) (sym (same i w)))
    where
      same : (i : ℕ) → i < 8 → changed_bit (bit_of t (8 * j + i)) k from to (8 * j + i) ≡ byte_bit (get_or t j 0) i
      same i w =
          let x : (8 * j + i) / 8 ≡ j = omega arith in
          let z : (8 * j + i) % 8 ≡ i = omega arith in
          changed_before (bit_of t (8 * j + i)) k from to (8 * j + i) (omega arith) ∙ rw (x, z)

  pub change_start : ((j : ℕ) → get_or t j 0 < 256) → ChangedTo (k / 8) t
  change_start b = record { long = refl; done = λ i h w. new_kept i (omega arith) (b i); left = λ i h. refl }

  module _ {j : ℕ} {now : List ℕ} (C : ChangedTo j now) where
    pub old_byte : get_or now j 0 ≡ get_or t j 0
    old_byte = C.left j (omega arith)

    pub change_byte : (byte : ℕ) → j < length t → byte ≡ new j → ChangedTo (j + 1) (set now j byte)
    change_byte byte h e =
        record {
          long = length-set now j byte ∙ C.long;
          done = λ i w l. done i w l (same? i j);
          left = λ i w. get_or-set_other now j i byte 0 (omega arith) ∙ C.left i (omega arith);
        }
      where
        done : (i : ℕ) → i < j + 1 → i < length t → Same i j → get_or (set now j byte) i 0 ≡ new i
        done i w l (same z) = rw z (get_or-set_same now j byte 0 (omega (arith, C.long)) ∙ e)
        done i w l (other z) = get_or-set_other now j i byte 0 z ∙ C.done i (omega arith) l

    pub change_end : length t ≤ j → now ≡ changed_tree t k from to
    unfolding changed_tree
    change_end h = tabulate_is new now (length t) C.long (λ i w. C.done i (omega arith) w)
