-- `questions::openings::pass_eights` meets its contract.
use mathlib.Core.Path.{◌≡◌, refl, ap, ◌∙◌}
use mathlib.Core.List.{List, [], ◌∷◌}
use Prim.Native.Nat.{ℕ, zero, suc, ◌+◌, ◌*◌, ◌/◌, ◌≤◌, ◌<◌}
use native.Mathlib.Omega.{arith}
use lib.Count as Count
use lib.ListN.{length, get_or, take, drop, length-drop}
use lib.Seq.{drop-drop, length-take-le}
use Rattle.std.proofs.Math.Seq.{drop-cons}
use Rattle.std.specs.Int.{from_le_bytes, w64}
use Rattle.std.specs.Simd.{first_chunks}
use Rattle.refusal.specs.Conditions.{bit_of, openings}
use Rattle.shape.proofs.Heights.{opened_none}
use Rattle.questions.proofs.Counting.{CountedFrom, counted_joined, passed_bytes}
use Rattle.questions.proofs.openings.pass_eights.Goals as goal

-- bytes as a number, the lowest first
abbrev number : List ℕ → ℕ
number [] = 0
number (b ∷ w) = number w * 256 + b

le_number : (w : List ℕ) → length w ≡ 8 → from_le_bytes w64 w ≡ number w
le_number (a ∷ b ∷ c ∷ d ∷ e ∷ f ∷ g ∷ h ∷ []) q =
    let z : a + b * 256 + c * 65536 + d * 16777216 + e * 4294967296 + f * 1099511627776 + g * 281474976710656 + h * 72057594037927936
    ≡ number (a ∷ b ∷ c ∷ d ∷ e ∷ f ∷ g ∷ h ∷ []) = omega arith in
    z
le_number [] q = absurd (omega arith)
le_number (a ∷ []) q = absurd (omega arith)
le_number (a ∷ b ∷ []) q = absurd (omega arith)
le_number (a ∷ b ∷ c ∷ []) q = absurd (omega arith)
le_number (a ∷ b ∷ c ∷ d ∷ []) q = absurd (omega arith)
le_number (a ∷ b ∷ c ∷ d ∷ e ∷ []) q = absurd (omega arith)
le_number (a ∷ b ∷ c ∷ d ∷ e ∷ f ∷ []) q = absurd (omega arith)
le_number (a ∷ b ∷ c ∷ d ∷ e ∷ f ∷ g ∷ []) q = absurd (omega arith)
le_number (a ∷ b ∷ c ∷ d ∷ e ∷ f ∷ g ∷ h ∷ i ∷ w) q = absurd (omega arith)

-- a group of eight bytes
chunk_at : (n k : ℕ) (t d : List ℕ) → k < n → get_or (first_chunks 8 n t) k d ≡ take 8 (drop (8 * k) t)
chunk_at zero k t d h = absurd (omega arith)
chunk_at (suc n) zero t d h = refl
chunk_at (suc n) (suc k) t d h = chunk_at n k (drop 8 t) d (omega arith) ∙ ap (take 8) (drop-drop (8 * k) 8 t ∙ ap (λ m. drop m t) (omega arith))

module _ (t : List ℕ) (small : (k : ℕ) → get_or t k 0 < 256) where
  counted_part : (n j e : ℕ) → j + n ≤ length t → e ≡ 8 * j + 8 * n → CountedFrom t j (number (take n (drop j t))) e
  unfolding Count.ones Count.ones_in
  counted_part zero j e h q = let z : 8 * j ≡ e = omega arith in omega (arith, ap (openings t) z)
  counted_part (suc n) j e h q =
      rw (drop-cons t j 0 (omega arith))
      (counted_joined t j (suc j) (number (take n (drop (suc j) t))) e (omega arith) (small j) (counted_part n (suc j) e (omega arith) (omega arith)))

  counted_chunk : {groups : List (List ℕ)} (k : ℕ) → groups ≡ first_chunks 8 (length t / 8) t → k < length t / 8 → CountedFrom t (8 * k) (from_le_bytes w64 (get_or groups k [])) (8 * (8 * k) + 64)
  counted_chunk {groups} k e h =
      let part = take 8 (drop (8 * k) t) in
      let is_part : get_or groups k [] ≡ part = ap (λ l. get_or l k []) e ∙ chunk_at (length t / 8) k t [] h in
      let long : length part ≡ 8 = length-take-le 8 (drop (8 * k) t) (omega (arith, length-drop (8 * k) t)) in
      rw (is_part, le_number part long) (counted_part 8 (8 * k) (8 * (8 * k) + 64) (omega arith) (omega arith))

pub loop-k-init : goal.loop-k-init
loop-k-init c = record { within = omega arith; count = omega (arith, opened_none (bit_of c.args.tree.now)) }

pub loop-k-preserved : goal.loop-k-preserved
loop-k-preserved c =
    let t = c.args.tree.now in
    let k = c.loop-k.k in
    let inside : k < length t / 8 = omega (arith, c.as_chunks.ensures.front_len, c.loop-k-test.true) in
    let counted = counted_chunk t (λ j. omega (arith, c.type_inv.tree j)) k c.as_chunks.ensures.front inside in
    let z : 8 * (k + 1) ≡ 8 * k + 8 = omega arith in
    rw z (passed_bytes 8 c.loop-k.invariant (omega arith) (rw c.from_le_bytes.ensures counted) c.if-left-count.false)
