-- Equal rotations make a period; the smallest rotation begins with its part, a Lyndon word.
use mathlib.Core.Path.{◌≡◌, refl, sym, ap, ◌∙◌}
use mathlib.Core.Logic.{◌≢◌}
use mathlib.Core.Bool.{true, false, true≢false}
use mathlib.Core.List.{List}
use Prim.Native.Nat.{ℕ, suc, ◌+◌, ◌-◌, ◌≤◌, ◌<◌}
use native.Mathlib.Omega.{arith}
use lib.ListN.{length, get_or}
use Rattle.suffix.specs.Order.{lex_less}
use Rattle.suffix.specs.Lyndon.{longest_lyndon}
use Rattle.suffix.specs.Periods.{rotation, SmallestRotation, RotationsDiffer, cycled, RepeatsAfter, LeastRepeat, Splits}
use Rattle.suffix.specs.Claims.{AloneSmallest}
use Rattle.suffix.proofs.Cases.{Tri, lt, eq, gt, tri, Same, same, other, same?, Test, holds, fails, test, le_unless}
use Rattle.suffix.proofs.Search.{tabulate_same}
use Rattle.suffix.proofs.Sequence.{Less, less_match}
use Rattle.suffix.proofs.Edges.{unbordered}
use Rattle.suffix.proofs.Order.{extended, extended_in, extended_out}
use Rattle.suffix.proofs.Nearest.{next_is}
use Rattle.suffix.proofs.Lyndon.{lyndon_is, longest_next}
use Rattle.suffix.proofs.Periodic.{Period, Smallest, agree_alike, alike_less, alike_same, alike_period, less_soon, smallest, smallest_all, shift, around, smallest_edge}
use Rattle.suffix.proofs.LeastPeriod.{least_period, Divides, divides}
use Rattle.suffix.proofs.Rotations.{cycled_period, rotation_length, rotation_entry, rotation_cycled, rotations_less, less_rotations}

module _ (y : List ℕ) (some : 0 < length y) where
  R : Period (cycled y) (length y)
  R = cycled_period y some

  less_true : (i j : ℕ) → i ≤ length y → j ≤ length y → Less (cycled y) i j → lex_less (rotation y i) (rotation y j) ≡ true
  less_true i j a b p =
      rotations_less y i j a b (record { at = p.at; within = less_soon (cycled y) R p; agree = p.same.on; smaller = p.less })

  true_less : (i j : ℕ) → i ≤ length y → j ≤ length y → lex_less (rotation y i) (rotation y j) ≡ true → Less (cycled y) i j
  true_less i j a b e = let p = less_rotations y i j a b e in record { at = p.at; same = record { on = p.agree }; less = p.smaller }

  -- ---- equal rotations, and equal parts

  of_period : {q : ℕ} → Period (cycled y) q → RepeatsAfter y q
  of_period P = record { some = omega (arith, P.some); again = P.again }

  pub equal_repeats : (a b : ℕ) → a < b → b ≤ length y → rotation y a ≡ rotation y b → RepeatsAfter y (b - a)
  equal_repeats a b h g e =
      of_period
      (alike_period (cycled y) R h
      (agree_alike (cycled y) R
      (record { on = λ k w. sym (rotation_entry y a k (omega arith) w) ∙ ap (λ v. get_or v k 0) e ∙ rotation_entry y b k g w })))

  pub repeats_equal : (a b : ℕ) → a < b → b ≤ length y → RepeatsAfter y (b - a) → rotation y a ≡ rotation y b
  repeats_equal a b h g P =
      rotation_cycled y a (omega arith)
      ∙ tabulate_same (λ k. cycled y (a + k)) (λ k. cycled y (b + k)) (length y) (λ k w. sym (P.again (a + k)) ∙ ap (cycled y) (omega arith))
      ∙ sym (rotation_cycled y b g)

  pub splits : {q : ℕ} → RepeatsAfter y q → Splits y q
  splits {q} P = go (divides (cycled y) R q q (omega arith) (record { some = omega (arith, P.some); again = P.again }))
    where
      go : Divides (cycled y) (length y) q → Splits y q
      go d = record { part = d.part; count = d.count; short = omega (arith, d.within); whole = d.whole; repeats = of_period d.period }

  -- ---- the smallest rotation

  smallest_told : {s : ℕ} → SmallestRotation y s → Smallest (cycled y) s
  smallest_told {s} M =
      smallest_all (cycled y) R s
      (λ k h l. true≢false (sym (less_true k s (omega arith) (omega (arith, M.within)) l) ∙ M.none_smaller k h))

  tell_smallest : {s : ℕ} → s < length y → Smallest (cycled y) s → SmallestRotation y s
  tell_smallest {s} h S = record { within = h; none_smaller = λ k g. go k g (test (lex_less (rotation y k) (rotation y s))) }
    where
      go : (k : ℕ) → k < length y → Test (lex_less (rotation y k) (rotation y s)) → lex_less (rotation y k) (rotation y s) ≡ false
      go k g (holds e) = absurd (S.none k (true_less k s (omega arith) (omega arith) e))
      go k g (fails e) = e

  pub smallest_some : (s : ℕ) × SmallestRotation y s
  smallest_some = let c = smallest (cycled y) R in (c.0, tell_smallest c.1.0 c.1.1)

  -- p is the least period of y repeated without end: the first p letters of the smallest rotation, from s, are a Lyndon word
  module _ {s : ℕ} (M : SmallestRotation y s) {p : ℕ} (P : Period (cycled y) p) (least : (q : ℕ) → q < p → Period (cycled y) q → ⊥) (short : p ≤ length y) where
    w : List ℕ
    w = rotation y s

    size : length w ≡ length y
    unfolding w
    size = rotation_length y s

    raised : (k : ℕ) → k < length y → extended w k ≡ suc (cycled y (s + k))
    unfolding w
    raised k h = extended_in w k (omega (arith, size)) ∙ ap suc (rotation_entry y s k (omega (arith, M.within)) h)

    inner_larger : (j : ℕ) → 0 < j → j < p → Less (extended w) 0 j
    inner_larger j a b =
        let l : Less (cycled y) s (s + j) = around (cycled y) P least (smallest_told M) (s + j) (omega arith) (omega arith) in
        let g : s + j + l.at < s + p = unbordered (cycled y) (smallest_edge (cycled y) P least (smallest_told M)) (omega arith) (omega arith) (less_match (cycled y) l) in
        record {
          at = l.at;
          same = record { on = λ k h. raised (0 + k) (omega arith) ∙ ap suc (ap (cycled y) {x = s + (0 + k)} {y = s + k} (omega arith) ∙ l.same.on k h ∙ ap (cycled y) (omega arith)) ∙ sym (raised (j + k) (omega arith)) };
          less =
              omega (
                arith,
                l.less,
                raised (0 + l.at) (omega arith),
                raised (j + l.at) (omega arith),
                ap (cycled y) {x = s + (0 + l.at)} {y = s + l.at} (omega arith),
                ap (cycled y) {x = s + (j + l.at)} {y = s + j + l.at} (omega arith),
              );
        }

    -- what follows them is a prefix of the whole
    rest_smaller : Less (extended w) p 0
    rest_smaller =
        let m : ℕ = length y - p in
        record {
          at = m;
          same = record { on = λ k h. raised (p + k) (omega arith) ∙ ap suc (ap (cycled y) {x = s + (p + k)} {y = s + k + p} (omega arith) ∙ P.again (s + k) ∙ ap (cycled y) (omega arith)) ∙ sym (raised (0 + k) (omega arith)) };
          less = omega (arith, extended_out w (p + m) (omega (arith, size)), raised (0 + m) (omega (arith, P.some)));
        }

    word_length : longest_lyndon w 0 ≡ p
    word_length =
        let h : 0 < length w = omega (arith, size) in
        omega (
          arith,
          longest_next w 0 h,
          next_is w 0 h p (record { after = P.some; smaller = rest_smaller; nearest = inner_larger }),
        )

  pub longest_repeats : {s : ℕ} → SmallestRotation y s → LeastRepeat y (longest_lyndon (rotation y s) 0)
  unfolding w
  longest_repeats {s} M =
      let L = least_period (cycled y) R in
      rw (word_length M L.period L.least L.within)
      (record {
        repeats = of_period L.period;
        least = λ k Q. omega (arith, le_unless L.length k (λ h. L.least k h (record { some = omega (arith, Q.some); again = Q.again })));
      })

  module _ (D : RotationsDiffer y) {s : ℕ} (M : SmallestRotation y s) where
    no_shorter : (q : ℕ) → q < length y → Period (cycled y) q → ⊥
    no_shorter q h P = let z : q - 0 ≡ q = omega arith in D.differ 0 q P.some (omega arith) (repeats_equal 0 q P.some (omega arith) (rw z (of_period P)))

    later : (k : ℕ) → s < k → k < s + length y → Less (cycled y) s k
    later = around (cycled y) R no_shorter (smallest_told M)

    other_larger : (k : ℕ) → k < length y → k ≢ s → Less (cycled y) s k
    other_larger k h n = go (tri s k)
      where
        go : Tri s k → Less (cycled y) s k
        go (lt w) = later k w (omega arith)
        go (eq w) = absurd (n (sym w))
        go (gt w) = alike_less (cycled y) (alike_same (cycled y) refl) (shift (cycled y) R k) (later (k + length y) (omega (arith, M.within)) (omega arith))

    pub alone_smallest : AloneSmallest y s
    unfolding w
    alone_smallest =
        record {
          smaller = λ k h n. smaller k h (omega arith);
          only = λ t T. only t T (same? t s);
          lyndon = lyndon_is (rotation y s) (omega (arith, rotation_length y s)) (λ j a b. inner_larger M R no_shorter (omega arith) j a (omega (arith, rotation_length y s)));
        }
      where
        smaller : (k : ℕ) → k < length y → k ≢ s → lex_less (rotation y s) (rotation y k) ≡ true
        smaller k h n = less_true s k (omega (arith, M.within)) (omega arith) (other_larger k h n)

        only : (t : ℕ) → SmallestRotation y t → Same t s → t ≡ s
        only t T (same e) = e
        only t T (other e) = absurd (true≢false (sym (smaller t T.within e) ∙ T.none_smaller s M.within))
