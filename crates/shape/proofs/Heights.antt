-- Bits as brackets: how many are open after k of them, by counting the openings; where a position opens, where it closes, and what encloses it.
use mathlib.Core.Path.{◌≡◌, refl, sym, ap, ◌∙◌}
use mathlib.Core.Bool.{Bool, true, false, not}
use Prim.Native.Nat.{ℕ, zero, suc, ◌+◌, ◌*◌, ◌≤◌, ◌<◌}
use native.Mathlib.Omega.{arith}
use Rattle.suffix.specs.Search.{count_below}
use Rattle.suffix.proofs.Cases.{Same, same, other, same?, Test, holds, fails, test, le_unless}
use Rattle.suffix.proofs.Search.{count_yes, count_no}

-- the openings among the first k bits; the closings are the others
abbrev pub opened : (ℕ → Bool) → ℕ → ℕ
opened g k = count_below k g

-- after j bits at most s brackets less are open than after a bits: with o openings k - o brackets of k are closings, so 2 o - k are open
abbrev pub Above : (ℕ → Bool) → ℕ → ℕ → ℕ → Type 0
Above g a s j = j + 2 * opened g a ≤ s + a + 2 * opened g j

-- just s + 1 less
abbrev pub OneBelow : (ℕ → Bool) → ℕ → ℕ → ℕ → Type 0
OneBelow g a s j = j + 2 * opened g a ≡ s + a + 2 * opened g j + 1

module _ (g : ℕ → Bool) where
  pub opened_none : opened g 0 ≡ 0
  unfolding count_below
  opened_none = refl

  pub opens : (k : ℕ) → g k ≡ true → opened g (suc k) ≡ suc (opened g k)
  opens k e = count_yes g k e

  pub shuts : (k : ℕ) → g k ≡ false → opened g (suc k) ≡ opened g k
  shuts k e = count_no g k e

  pub opened_all : (k : ℕ) → opened g k + count_below k (λ j. not (g j)) ≡ k
  unfolding count_below
  opened_all zero = refl
  opened_all (suc k) = go (test (g k)) (opened_all k)
    where
      go : Test (g k) → opened g k + count_below k (λ j. not (g j)) ≡ k → opened g (suc k) + count_below (suc k) (λ j. not (g j)) ≡ suc k
      go (holds e) ih = omega (arith, opens k e, count_no (λ j. not (g j)) k (ap not e))
      go (fails e) ih = omega (arith, shuts k e, count_yes (λ j. not (g j)) k (ap not e))

  -- from one bit to a later one
  pub opened_grows : (j k : ℕ) → j ≤ k → (opened g j ≤ opened g k) × (opened g k + j ≤ opened g j + k)
  opened_grows j zero h = let z : j ≡ 0 = omega arith in rw z (omega arith, omega arith)
  opened_grows j (suc k) h = go (same? j (suc k)) (test (g k)) (λ w. opened_grows j k w)
    where
      go : Same j (suc k) → Test (g k) → (j ≤ k → (opened g j ≤ opened g k) × (opened g k + j ≤ opened g j + k)) → (opened g j ≤ opened g (suc k)) × (opened g (suc k) + j ≤ opened g j + suc k)
      go (same z) t ih = rw z (omega arith, omega arith)
      go (other z) (holds e) ih = let r = ih (omega arith) in (omega (arith, opens k e, r), omega (arith, opens k e, r))
      go (other z) (fails e) ih = let r = ih (omega arith) in (omega (arith, shuts k e, r), omega (arith, shuts k e, r))

  -- the place of an opening: each number below the openings has one, and only one
  pub record Opening (m i w : ℕ) : Type 0 where
    pub below : w < m
    pub is_open : g w ≡ true
    pub number : opened g w ≡ i

  pub opening : (m i : ℕ) → i < opened g m → (w : ℕ) × Opening m i w
  unfolding count_below
  opening zero i h = absurd (omega arith)
  opening (suc m) i h = go (test (g m)) (same? i (opened g m)) (λ w. opening m i w)
    where
      up : (w : ℕ) × Opening m i w → (w : ℕ) × Opening (suc m) i w
      up r = (r.0, record { below = omega (arith, r.1.below); is_open = r.1.is_open; number = r.1.number })

      go : Test (g m) → Same i (opened g m) → (i < opened g m → (w : ℕ) × Opening m i w) → (w : ℕ) × Opening (suc m) i w
      go (holds e) (same z) ih = (m, record { below = omega arith; is_open = e; number = sym z })
      go (holds e) (other z) ih = up (ih (omega (arith, opens m e)))
      go (fails e) z ih = up (ih (omega (arith, shuts m e)))

  pub opening_one : {v w : ℕ} → g v ≡ true → g w ≡ true → opened g v ≡ opened g w → v ≡ w
  opening_one {v} {w} a b e = omega (arith, half v w a (omega arith), half w v b (omega arith))
    where
      half : (v w : ℕ) → g v ≡ true → opened g w ≤ opened g v → w ≤ v
      half v w a e = le_unless w v (λ h. omega (arith, opens v a, opened_grows (suc v) w h))

  -- ---- where brackets close, and what encloses a bit

  -- the opening at w is closed by the bracket before c
  pub record ClosedAt (w c : ℕ) : Type 0 where
    pub after : w < c
    pub within : (j : ℕ) → w < j → j < c → Above g (suc w) 0 j
    pub closes : OneBelow g (suc w) 0 c

  -- w is the last opening before k that is not closed there
  pub record Encloses (w k : ℕ) : Type 0 where
    pub before : w < k
    pub is_open : g w ≡ true
    pub within : (j : ℕ) → w < j → j ≤ k → Above g k 0 j
    pub opens_it : OneBelow g k 0 w

  -- v is the number of the opening that encloses k, or none
  pub data Enclosed (none k v : ℕ) : Type 0 where
    by : (w : ℕ) → v ≡ opened g w → Encloses w k → Enclosed none k v
    root : v ≡ none → ((j : ℕ) → j ≤ k → Above g k 0 j) → Enclosed none k v

  pub closed_once : {w c d : ℕ} → ClosedAt w c → ClosedAt w d → c ≡ d
  closed_once {w} {c} {d} a b = omega (arith, half a b, half b a)
    where
      half : {c d : ℕ} → ClosedAt w c → ClosedAt w d → d ≤ c
      half {c} {d} a b = le_unless d c (λ h. omega (arith, b.within c a.after h, a.closes))

  encloses_once : {w v k : ℕ} → Encloses w k → Encloses v k → w ≡ v
  encloses_once {w} {v} {k} a b = omega (arith, half a b, half b a)
    where
      half : {w v : ℕ} → Encloses w k → Encloses v k → v ≤ w
      half {w} {v} a b = le_unless v w (λ h. omega (arith, a.within v h (omega (arith, b.before)), b.opens_it))

  pub enclosed_once : {none k u v : ℕ} → Enclosed none k u → Enclosed none k v → u ≡ v
  enclosed_once (by w e a) (by x q b) = e ∙ ap (opened g) (encloses_once a b) ∙ sym q
  enclosed_once (by w e a) (root q b) = absurd (omega (arith, a.opens_it, b w (omega (arith, a.before))))
  enclosed_once (root e a) (by w q b) = absurd (omega (arith, b.opens_it, a w (omega (arith, b.before))))
  enclosed_once (root e a) (root q b) = e ∙ sym q

-- ---- the two entries of a position, by the place of its opening among the first m bits

pub record Entry (g : ℕ → Bool) (m none i p x : ℕ) : Type 0 where
  pub place : ℕ
  pub opening : Opening g m i place
  pub enclosed : Enclosed g none place p
  pub close : ℕ
  pub closed : ClosedAt g place close
  pub end : x ≡ opened g close

pub entry_one : {g : ℕ → Bool} {m none i p x p' x' : ℕ} → Entry g m none i p x → Entry g m none i p' x' → (p ≡ p') × (x ≡ x')
entry_one {g} {m} {none} {i} {p} {x} {p'} {x'} a b = (
  enclosed_once g a.enclosed (rw (sym z) at b.enclosed),
  a.end ∙ ap (opened g) (closed_once g a.closed (rw (sym z) at b.closed)) ∙ sym b.end,
)
  where
    z : a.place ≡ b.place
    z = opening_one g a.opening.is_open b.opening.is_open (a.opening.number ∙ sym b.opening.number)
