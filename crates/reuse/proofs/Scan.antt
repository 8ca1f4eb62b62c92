-- Step 1 finds the match and the order.
use mathlib.Core.Path.{◌≡◌, refl, sym, ap, ◌∙◌}
use mathlib.Core.Logic.{◌≢◌}
use mathlib.Core.Bool.{Bool, true, false, false≢true}
use mathlib.Core.List.{List}
use Prim.Native.Nat.{ℕ, zero, suc, ◌+◌, ◌≤◌, ◌<◌}
use native.Mathlib.Omega.{arith}
use lib.Dec.{ltb}
use lib.ListN.{length, get_or}
use borrow.Author.Tests.{eq-eqb, ne_eqb, ltb-true, ltb-false}
use Rattle.suffix.proofs.Cases.{Same, same, other, same?}
use Rattle.suffix.proofs.Sequence.{Agree, Less, Match, agree_sym, agree_more}
use Rattle.suffix.proofs.Order.{extended, extended_in, extended_out}
use Rattle.reuse.specs.Steps.{ScanReport, scan}

-- a match m and an order b are those of the suffixes at l and r
pub record Told (y : List ℕ) (l r : ℕ) (m : ℕ) (b : Bool) : Type 0 where
  pub match : Match (extended y) l r m
  pub left : b ≡ true → Less (extended y) l r
  pub right : b ≡ false → Less (extended y) r l

-- what a scan of (l, r) from m reports, where so many comparisons found the letters equal before, and so many unequal
pub record Reported (y : List ℕ) (l r m equal unequal : ℕ) (u : ScanReport) : Type 0 where
  pub told : Told y l r u.match u.left_smaller
  pub more : m ≤ u.match
  -- one comparison for each letter that is equal, and at most one that is not
  pub equal_grows : u.equal + m ≡ equal + u.match
  pub unequal_grows : u.unequal ≤ suc unequal

-- the clauses of the scan
module _ (y : List ℕ) (l r m k equal unequal : ℕ) where
  pub scan_equal : get_or y (l + m) 0 ≡ get_or y (r + m) 0 → scan y l r m (suc k) equal unequal ≡ scan y l r (suc m) k (suc equal) unequal
  unfolding scan
  scan_equal e = rw (eq-eqb _ _ e, scan)

  pub scan_unequal : get_or y (l + m) 0 ≢ get_or y (r + m) 0
      → scan y l r m (suc k) equal unequal ≡ record { match = m; left_smaller = ltb (get_or y (l + m) 0) (get_or y (r + m) 0); equal = equal; unequal = suc unequal }
  unfolding scan
  scan_unequal e = rw (ne_eqb _ _ e, scan)

pub scan_told : (y : List ℕ) (l r m k equal unequal : ℕ) → l < r → r + m + k ≡ length y → Agree (extended y) l r m
    → Reported y l r m equal unequal (scan y l r m k equal unequal)
unfolding scan
scan_told y l r m zero equal unequal h n a =
    let u : extended y (r + m) ≡ 0 = extended_out y (r + m) (omega arith) in
    let v : extended y (l + m) ≡ suc (get_or y (l + m) 0) = extended_in y (l + m) (omega arith) in
    record {
      told =
          record {
            match = record { same = a; differ = omega arith };
            left = λ e. absurd (false≢true e);
            right = λ e. record { at = m; same = agree_sym (extended y) a; less = omega arith };
          };
      more = omega arith;
      equal_grows = refl;
      unequal_grows = omega arith;
    }
scan_told y l r m (suc k) equal unequal h n a =
    go (same? (get_or y (l + m) 0) (get_or y (r + m) 0)) (λ p q. scan_told y l r (suc m) k (suc equal) unequal h p q)
  where
    el : extended y (l + m) ≡ suc (get_or y (l + m) 0)
    el = extended_in y (l + m) (omega arith)

    er : extended y (r + m) ≡ suc (get_or y (r + m) 0)
    er = extended_in y (r + m) (omega arith)

    wider : {u : ScanReport} → Reported y l r (suc m) (suc equal) unequal u → Reported y l r m equal unequal u
    wider w = record { told = w.told; more = omega arith; equal_grows = omega arith; unequal_grows = w.unequal_grows }

    go : Same (get_or y (l + m) 0) (get_or y (r + m) 0)
        → (r + suc m + k ≡ length y → Agree (extended y) l r (suc m) → Reported y l r (suc m) (suc equal) unequal (scan y l r (suc m) k (suc equal) unequal))
        → Reported y l r m equal unequal (scan y l r m (suc k) equal unequal)
    go (same e) ih = rw (scan_equal y l r m k equal unequal e) (wider (ih (omega arith) (agree_more (extended y) a (el ∙ ap suc e ∙ sym er))))
    go (other e) ih =
        rw (scan_unequal y l r m k equal unequal e)
        (record {
          told =
              record {
                match = record { same = a; differ = λ (q : extended y (l + m) ≡ extended y (r + m)). e (omega (arith, el, er)) };
                left = λ q. record { at = m; same = a; less = omega (arith, el, er, ltb-true (get_or y (l + m) 0) (get_or y (r + m) 0) q) };
                right = λ q. record { at = m; same = agree_sym (extended y) a; less = omega (arith, el, er, ltb-false (get_or y (l + m) 0) (get_or y (r + m) 0) q) };
              };
          more = omega arith;
          equal_grows = refl;
          unequal_grows = omega arith;
        })
