-- Steps 1 and 2 as the code goes them.
use mathlib.Core.Path.{◌≡◌, refl, sym, ap, ◌∙◌}
use mathlib.Core.Logic.{◌≢◌}
use mathlib.Core.Bool.{Bool, true, false}
use mathlib.Core.List.{List, map}
use Prim.Native.Nat.{ℕ, suc, ◌+◌, ◌-◌, ◌≤◌, ◌<◌}
use native.Mathlib.Numerals.{add-one}
use native.Mathlib.Omega.{arith}
use lib.ListN.{length, get_or}
use Rattle.suffix.proofs.Cases.{Tri, lt, eq, gt, tri, Same, same, other, same?}
use Rattle.suffix.specs.Rows.{Tables}
use Rattle.reuse.specs.Steps.{Progress, ScanReport, scan, scan_from, reuse, settle}
use Rattle.reuse.proofs.Scan.{scan_equal, scan_unequal}
use Rattle.reuse.proofs.Settle.{settle_scan, settle_by_next, settle_by_previous}
use Rattle.ranks.specs.Ranks.{greatest_rank, oriented, oriented_rank}
use Rattle.build.proofs.Strings.{string_length, string_entry, other_entry}
use Rattle.build.specs.States.{unequal_at, at_end, Scanned, settled_from}
use Rattle.entries.specs.Lent.{cleared_tables}
use Rattle.entries.proofs.Clearing.{cleared_get}

-- ---- a scan of (l, r) from a match on, with so many comparisons made before

module _ (y : List ℕ) (l r from equal unequal : ℕ) where
  -- it stands at m, and each comparison found two letters equal: what is left of it is the whole
  pub record Scanning (m : ℕ) : Type 0 where
    pub inside : r + m ≤ length y
    pub after : from ≤ m
    pub is : scan y l r from (length y - (r + from)) equal unequal ≡ scan y l r m (length y - (r + m)) (equal + (m - from)) unequal

  pub scan_starts : r + from ≤ length y → Scanning from
  scan_starts h =
      let z : equal + (from - from) ≡ equal = omega arith in
      record { inside = h; after = omega arith; is = rw z }

  module _ {m : ℕ} (S : Scanning m) where
    pub scan_ends : length y ≤ r + m → Scanned y l r from equal unequal (record { match = m; left_smaller = false; equal = equal + (m - from); unequal = unequal })
    unfolding scan
    scan_ends h = let z : length y - (r + m) ≡ 0 = omega arith in record { reports = sym (S.is ∙ rw z); fits = S.inside }

    module _ (h : r + m < length y) where
      left : length y - (r + m) ≡ suc (length y - (r + (m + 1)))
      left = omega arith

      pub scan_goes : get_or y (l + m) 0 ≡ get_or y (r + m) 0 → Scanning (m + 1)
      scan_goes e =
          let z : equal + (m + 1 - from) ≡ suc (equal + (m - from)) = omega (arith, S.after) in
          record {
            inside = omega arith;
            after = omega (arith, S.after);
            is = S.is ∙ rw left (scan_equal y l r m (length y - (r + (m + 1))) (equal + (m - from)) unequal e ∙ rw (z, add-one m));
          }

      pub scan_stops : get_or y (l + m) 0 ≢ get_or y (r + m) 0
          → Scanned y l r from equal unequal (unequal_at (get_or y (l + m) 0) (get_or y (r + m) 0) m (equal + (m - from)) unequal)
      scan_stops e =
          record {
            reports = sym (S.is ∙ rw left (scan_unequal y l r m (length y - (r + (m + 1))) (equal + (m - from)) unequal e ∙ rw (add-one unequal)));
            fits = S.inside;
          }

  -- at the first place: the end, unequal letters, and what goes on from equal ones
  none : equal + (from - from) ≡ equal
  none = omega arith

  pub first_end : r + from ≡ length y → Scanned y l r from equal unequal (at_end from equal unequal)
  first_end h = rw none at (scan_ends {m = from} (scan_starts (omega arith)) (omega arith))

  module _ (h : r + from < length y) where
    pub first_unequal : get_or y (l + from) 0 ≢ get_or y (r + from) 0
        → Scanned y l r from equal unequal (unequal_at (get_or y (l + from) 0) (get_or y (r + from) 0) from equal unequal)
    first_unequal e = rw none at (scan_stops {m = from} (scan_starts (omega arith)) h e)

    pub first_equal : get_or y (l + from) 0 ≡ get_or y (r + from) 0 → {u : ScanReport} → Scanned y l r (from + 1) (equal + 1) unequal u → Scanned y l r from equal unequal u
    first_equal e U =
        let S = scan_goes (scan_starts (omega arith)) h e in
        let one : equal + (from + 1 - from) ≡ equal + 1 = omega arith in
        record { reports = U.reports ∙ sym (rw one at S.is); fits = U.fits }

-- ---- two letters of a string that differ

module _ {S : Type 0} (rank : S → ℕ) (reverse : Bool) (string : List S) where
  abbrev turned : List ℕ
  turned = oriented reverse (map rank string)

  pub stopped : {l r from equal unequal a b m e : ℕ} {u : ScanReport} → u ≡ unequal_at (oriented_rank reverse a) (oriented_rank reverse b) m e unequal
      → a ≡ get_or (map rank string) (l + m) 0 → b ≡ get_or (map rank string) (r + m) 0 → l < r → r + m < length string → a ≤ greatest_rank → b ≤ greatest_rank → a ≢ b
      → Scanning turned l r from equal unequal m → e ≡ equal + (m - from) → Scanned turned l r from equal unequal u
  stopped {l} {r} {from} {equal} {unequal} {a} {b} {m} told left right h inside few few' d S q =
      let apart : get_or turned (l + m) 0 ≢ get_or turned (r + m) 0 = other_entry rank reverse string (l + m) (r + m) left right few few' (omega arith) inside (λ e. d (left ∙ e ∙ sym right)) in
      rw (told, q, string_entry rank reverse string (l + m) (omega arith) left, string_entry rank reverse string (r + m) inside right)
      (scan_stops turned l r from equal unequal S (omega (arith, string_length rank reverse string)) apart)

-- ---- a pair of which nothing is known: x is next[l - d], and v the match that is recorded

module _ (known : Bool) (y : List ℕ) (s : Progress) (t : Tables) (l r m : ℕ) (e : known ≡ false) where
  pub scans : s.reach ≤ r + m → settled_from known y s t l r m ≡ scan_from y s l r m
  scans h = rw e (settle_scan y s t l r m h)

  module _ (h : r + m < s.reach) (x v : ℕ) (q : x ≡ get_or t.next (l - s.shift) 0) where
    pub by_next : x ≡ r - s.shift → v ≡ get_or t.next_match (l - s.shift) 0 → settled_from known y s t l r m ≡ reuse y s l r v false
    by_next p z = rw (e, z) (settle_by_next y s t l r m h (sym q ∙ p))

    pub by_previous : x ≢ r - s.shift → v ≡ get_or t.previous_match (r - s.shift) 0 → settled_from known y s t l r m ≡ reuse y s l r v true
    by_previous p z = rw (e, z) (settle_by_previous y s t l r m h (rw q at p))

-- settling reads three entries
same_reads : (y : List ℕ) (s : Progress) (t u : Tables) (l r m : ℕ)
    → (r + m < s.reach → (get_or t.next (l - s.shift) 0 ≡ get_or u.next (l - s.shift) 0) × (get_or t.next_match (l - s.shift) 0 ≡ get_or u.next_match (l - s.shift) 0) × (get_or t.previous_match (r - s.shift) 0 ≡ get_or u.previous_match (r - s.shift) 0))
    → settle y s t l r m ≡ settle y s u l r m
same_reads y s t u l r m h = go (tri (r + m) s.reach)
  where
    scanned : s.reach ≤ r + m → settle y s t l r m ≡ settle y s u l r m
    scanned w = settle_scan y s t l r m w ∙ sym (settle_scan y s u l r m w)

    read : r + m < s.reach → Same (get_or t.next (l - s.shift) 0) (r - s.shift) → settle y s t l r m ≡ settle y s u l r m
    read w (same e) = settle_by_next y s t l r m w e ∙ ap (λ v. reuse y s l r v false) (h w).1 ∙ sym (settle_by_next y s u l r m w (sym (h w).0 ∙ e))
    read w (other e) = settle_by_previous y s t l r m w e ∙ ap (λ v. reuse y s l r v true) (h w).2 ∙ sym (settle_by_previous y s u l r m w (rw (h w).0 at e))

    go : Tri (r + m) s.reach → settle y s t l r m ≡ settle y s u l r m
    go (lt w) = read w (same? (get_or t.next (l - s.shift) 0) (r - s.shift))
    go (eq w) = scanned (omega arith)
    go (gt w) = scanned (omega arith)

-- none of them a previous entry, and none from r on
pub reads_before : (known : Bool) (y : List ℕ) (s : Progress) (n : ℕ) (t : Tables) (l r m : ℕ) → l < r → (known ≡ false → r + m < s.reach → 0 < s.shift)
    → settled_from known y s t l r m ≡ settled_from known y s (cleared_tables n r t) l r m
reads_before true y s n t l r m h d = refl
reads_before false y s n t l r m h d =
    same_reads y s t (cleared_tables n r t) l r m
    (λ w. (
      sym (cleared_get r n (l - s.shift) t.next (omega arith)),
      sym (cleared_get r 0 (l - s.shift) t.next_match (omega arith)),
      sym (cleared_get r 0 (r - s.shift) t.previous_match (omega (arith, d refl w))),
    ))
