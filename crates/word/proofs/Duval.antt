-- The search for the longest Lyndon word at the front of a string (Duval).
use mathlib.Core.Path.{◌≡◌, sym, ap, ◌∙◌}
use mathlib.Core.List.{List}
use Prim.Native.Nat.{ℕ, zero, suc, ◌+◌, ◌-◌, ◌≤◌, ◌<◌}
use native.Mathlib.Omega.{arith}
use lib.ListN.{length, get_or, length-map}
use Rattle.std.specs.Prelude.{map}
use lib.Dec.{eqb}
use mathlib.Core.Bool.{true, false}
use Rattle.suffix.proofs.Tests.{tests}
use Rattle.suffix.specs.Lyndon.{longest_lyndon}
use Rattle.suffix.proofs.Cases.{Tri, lt, eq, gt, tri}
use Rattle.suffix.proofs.Sequence.{Less, less_trans}
use Rattle.suffix.proofs.Edges.{NextAt}
use Rattle.suffix.proofs.Order.{extended, extended_in, extended_out}
use Rattle.suffix.proofs.Nearest.{next_is}
use Rattle.ranks.proofs.Ranks.{rank_here}
use Rattle.suffix.proofs.Lyndon.{longest_next}

module _ (f : ℕ → ℕ) where
  -- the first j letters repeat their first j - k, the period, and f is smaller than each suffix that starts inside the period
  pub record Repeats (k j : ℕ) : Type 0 where
    pub period : ℕ
    pub some : 0 < period
    pub whole : period + k ≡ j
    pub same : (x : ℕ) → x < k → f x ≡ f (period + x)
    pub least : (t : ℕ) → 0 < t → t < period → Less f 0 t

  module _ {k j : ℕ} (r : Repeats k j) where
    -- an equal letter: the repeat goes on
    pub repeats_on : f k ≡ f j → Repeats (k + 1) (j + 1)
    repeats_on e = record { period = r.period; some = r.some; whole = omega arith; same = λ x h. go x h (tri x k); least = r.least }
      where
        go : (x : ℕ) → x < k + 1 → Tri x k → f x ≡ f (r.period + x)
        go x h (lt w) = r.same x w
        go x h (eq w) = rw w (e ∙ sym (ap f r.whole))
        go x h (gt w) = absurd (omega arith)

    -- a greater letter: up to it, a suffix is smaller than the one a period later
    rises : f k < f j → (t u : ℕ) → r.period + t ≡ u → t ≤ k → Less f t u
    rises e t u q h =
        record {
          at = k - t;
          same = record { on = λ x g. r.same (t + x) (omega arith) ∙ ap f (omega arith) };
          less = omega (arith, ap f {x = t + (k - t)} {y = k} (omega arith), ap f {x = u + (k - t)} {y = j} (omega arith));
        }

    -- so f is smaller than each suffix up to it
    least_up : f k < f j → (fuel t : ℕ) → t ≤ fuel → 0 < t → t ≤ j → Less f 0 t
    least_up e zero t g a b = absurd (omega arith)
    least_up e (suc fuel) t g a b = go (tri t r.period) (λ c. least_up e fuel (t - r.period) (omega arith) c (omega arith))
      where
        go : Tri t r.period → (0 < t - r.period → Less f 0 (t - r.period)) → Less f 0 t
        go (lt h) earlier = r.least t a h
        go (eq h) earlier = rises e 0 t (omega arith) (omega arith)
        go (gt h) earlier = less_trans f (earlier (omega arith)) (rises e (t - r.period) t (omega arith) (omega arith))

    -- and all that was read is the period
    pub repeats_whole : f k < f j → Repeats 0 (j + 1)
    repeats_whole e =
        record {
          period = j + 1;
          some = omega arith;
          whole = omega arith;
          same = λ x h. absurd (omega arith);
          least = λ t a b. least_up e t t (omega arith) a (omega arith);
        }

    -- a smaller letter: the suffix after the first period is the next smaller one
    pub repeats_end : f j < f k → NextAt f 0 r.period
    repeats_end e =
        record {
          after = r.some;
          smaller =
              record {
                at = k;
                same = record { on = λ x h. sym (r.same x h) ∙ ap f (omega arith) };
                less = omega (arith, ap f r.whole, ap f {x = 0 + k} {y = k} (omega arith));
              };
          nearest = r.least;
        }

-- the letter at j of a string, or its end, against the letter at k
module _ {S : Type 0} (rank : S → ℕ) (string : List S) {k j : ℕ} (r : Repeats (extended (map rank string)) k j) where
  abbrev y : List ℕ
  y = map rank string

  at : (i : ℕ) {a : S} → a ≡ get_or string i a → i < length string → extended y i ≡ suc (rank a)
  at i e h = extended_in y i (omega (arith, length-map string rank)) ∙ ap suc (sym (rank_here rank string i e h))

  module _ {a b : S} (is_k : a ≡ get_or string k a) (is_j : b ≡ get_or string j b) (h : j < length string) where
    pub letter_equal : eqb (rank a) (rank b) ≡ true → Repeats (extended y) (k + 1) (j + 1)
    letter_equal e = repeats_on (extended y) r (omega (tests, at k is_k (omega arith), at j is_j h, e))

    pub letter_greater : eqb (rank a) (rank b) ≡ false → rank a ≤ rank b → Repeats (extended y) 0 (j + 1)
    letter_greater d e = repeats_whole (extended y) r (omega (tests, at k is_k (omega arith), at j is_j h, d, e))

  ends : j ≤ length string → extended y j < extended y k → j - k ≡ longest_lyndon y 0
  ends h e =
      let n = length-map string rank in
      omega (arith, next_is y 0 (omega (arith, n)) r.period (repeats_end (extended y) r e), longest_next y 0 (omega (arith, n)))

  pub letter_smaller : {a b : S} → a ≡ get_or string k a → b ≡ get_or string j b → j < length string → rank b < rank a → j - k ≡ longest_lyndon y 0
  letter_smaller is_k is_j h e = ends (omega arith) (omega (arith, at k is_k (omega arith), at j is_j h))

  pub string_ends : j ≡ length string → length string - k ≡ longest_lyndon y 0
  string_ends h =
      let n = length-map string rank in
      ap (λ n. n - k) (sym h) ∙ ends (omega arith) (omega (arith, extended_in y k (omega (arith, n)), extended_out y j (omega (arith, n))))
