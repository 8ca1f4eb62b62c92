-- Endless sequences with a period: agreement and order of their suffixes, and the smallest of them.
use mathlib.Core.Path.{◌≡◌, refl, sym, ap, ◌∙◌}
use mathlib.Core.Logic.{◌⊎◌, inl, inr}
use Prim.Native.Nat.{ℕ, zero, suc, ◌+◌, ◌-◌, ◌*◌, ◌/◌, ◌%◌, ◌≤◌, ◌<◌}
use native.Mathlib.Omega.{arith}
use native.Mathlib.Nat.{mod-lt, div-add-mod, mul_comm, le-mul_of_pos_right}
use Rattle.suffix.proofs.Cases.{Same, same, other, same?, le_unless}
use Rattle.suffix.proofs.Sequence.{Agree, Less, Meet, whole, split, meet, agree_cut, match_order, less_trans, irrefl, asym}
use Rattle.suffix.proofs.Edges.{Edge}

module _ (f : ℕ → ℕ) where
  -- p is a period of f
  pub record Period (p : ℕ) : Type 0 where
    pub some : 0 < p
    pub again : (k : ℕ) → f (k + p) ≡ f k

  -- the suffixes at a and b are the same
  pub record Alike (a b : ℕ) : Type 0 where
    pub on : (k : ℕ) → f (a + k) ≡ f (b + k)

  pub alike_same : {a b : ℕ} → a ≡ b → Alike a b
  alike_same e = record { on = λ k. ap f (omega arith) }

  pub alike_sym : {a b : ℕ} → Alike a b → Alike b a
  alike_sym q = record { on = λ k. sym (q.on k) }

  pub alike_less : {a b c d : ℕ} → Alike a c → Alike b d → Less f a b → Less f c d
  alike_less q r p =
      record {
        at = p.at;
        same = record { on = λ k h. sym (q.on k) ∙ p.same.on k h ∙ r.on k };
        less = omega (arith, p.less, q.on p.at, r.on p.at);
      }

  -- no suffix is smaller than that at s
  pub record Smallest (s : ℕ) : Type 0 where
    pub none : (k : ℕ) → Less f k s → ⊥

  pub smallest_alike : {s t : ℕ} → Alike s t → Smallest s → Smallest t
  smallest_alike q S = record { none = λ k l. S.none k (alike_less (alike_same refl) (alike_sym q) l) }

  module _ {p : ℕ} (r : Period p) where
    pub times : (k t : ℕ) → f (k + p * t) ≡ f k
    times k zero = ap f (omega arith)
    times k (suc t) = ap f {x = k + p * suc t} {y = k + p * t + p} (omega arith) ∙ r.again (k + p * t) ∙ times k t

    pub shift : (a : ℕ) → Alike (a + p) a
    shift a = record { on = λ k. ap f {x = a + p + k} {y = a + k + p} (omega arith) ∙ r.again (a + k) }

    wrapped : (a : ℕ) → Alike (a % p) a
    wrapped a = record { on = λ k. sym (times (a % p + k) (a / p)) ∙ ap f (omega (arith, div-add-mod a p)) }

    -- p letters that agree are enough
    pub agree_alike : {a b : ℕ} → Agree f a b p → Alike a b
    agree_alike {a} {b} q =
        record {
          on = λ k.
              ap f {x = a + k} {y = a + k % p + p * (k / p)} (omega (arith, div-add-mod k p))
              ∙ times (a + k % p) (k / p)
              ∙ q.on (k % p) (mod-lt k r.some)
              ∙ sym (times (b + k % p) (k / p))
              ∙ ap f {x = b + k % p + p * (k / p)} {y = b + k} (omega (arith, div-add-mod k p));
        }

    -- of two suffixes one is smaller, by one of the first p letters, or they are the same
    pub less_soon : {a b : ℕ} (l : Less f a b) → l.at < p
    less_soon {a} {b} l =
        le_unless (suc l.at) p (λ w. omega (arith, l.less, (agree_alike (agree_cut f p (omega arith) l.same)).on l.at))

    pub data Order (a b : ℕ) : Type 0 where
      less : Less f a b → Order a b
      alike : Alike a b → Order a b
      more : Less f b a → Order a b

    pub order : (a b : ℕ) → Order a b
    order a b = go (meet f a b p)
      where
        pick : Less f a b ⊎ Less f b a → Order a b
        pick (inl l) = less l
        pick (inr l) = more l

        go : Meet f a b p → Order a b
        go (whole q) = alike (agree_alike q)
        go (split k h q) = pick (match_order f q)

    -- two suffixes that are the same give a period
    pub alike_period : {a b : ℕ} → a < b → Alike a b → Period (b - a)
    alike_period {a} {b} v q =
        record {
          some = omega arith;
          again = λ k.
              let x : ℕ = k + p * a - a in
              let h : a ≤ p * a = omega (arith, le-mul_of_pos_right a r.some, mul_comm a p) in
              sym (times (k + (b - a)) a)
              ∙ ap f {x = k + (b - a) + p * a} {y = b + x} (omega arith)
              ∙ sym (q.on x)
              ∙ ap f {x = a + x} {y = k + p * a} (omega arith)
              ∙ times k a;
        }

    -- ---- smallest suffixes

    record SmallestOf (m s : ℕ) : Type 0 where
      within : s ≤ m
      none : (k : ℕ) → k ≤ m → Less f k s → ⊥

    smallest_of : (m : ℕ) → (s : ℕ) × SmallestOf m s
    smallest_of zero = (0, record { within = omega arith; none = λ k h l. absurd (omega (arith, l.less, ap f {x = k + l.at} {y = 0 + l.at} (omega arith))) })
    smallest_of (suc m) = go (smallest_of m)
      where
        keep : (s : ℕ) → SmallestOf m s → (Less f (suc m) s → ⊥) → (k : ℕ) → k ≤ suc m → Same k (suc m) → Less f k s → ⊥
        keep s S q k h (same e) l = q (rw e at l)
        keep s S q k h (other e) l = S.none k (omega arith) l

        swap : (s : ℕ) → SmallestOf m s → Less f (suc m) s → (k : ℕ) → k ≤ suc m → Same k (suc m) → Less f k (suc m) → ⊥
        swap s S q k h (same e) l = irrefl f (suc m) (rw e at l)
        swap s S q k h (other e) l = S.none k (omega arith) (less_trans f l q)

        stays : (s : ℕ) → SmallestOf m s → (Less f (suc m) s → ⊥) → (s : ℕ) × SmallestOf (suc m) s
        stays s S q = (s, record { within = omega (arith, S.within); none = λ k h l. keep s S q k h (same? k (suc m)) l })

        pick : (s : ℕ) → SmallestOf m s → Order s (suc m) → (s : ℕ) × SmallestOf (suc m) s
        pick s S (less l) = stays s S (asym f l)
        pick s S (alike q) = stays s S (λ l. irrefl f s (alike_less (alike_sym q) (alike_same refl) l))
        pick s S (more l) = (suc m, record { within = omega arith; none = λ k h g. swap s S l k h (same? k (suc m)) g })

        go : (s : ℕ) × SmallestOf m s → (s : ℕ) × SmallestOf (suc m) s
        go c = pick c.0 c.1 (order c.0 (suc m))

    pub smallest_all : (s : ℕ) → ((k : ℕ) → k < p → Less f k s → ⊥) → Smallest s
    smallest_all s q = record { none = λ k l. q (k % p) (mod-lt k r.some) (alike_less (alike_sym (wrapped k)) (alike_same refl) l) }

    -- there is one among the first p
    pub smallest : (s : ℕ) × ((s < p) × Smallest s)
    smallest = go (smallest_of (p - 1))
      where
        go : (s : ℕ) × SmallestOf (p - 1) s → (s : ℕ) × ((s < p) × Smallest s)
        go c = (c.0, (omega (arith, c.1.within, r.some), smallest_all c.0 (λ k h l. c.1.none k (omega arith) l)))

    -- where p is the least period, the smallest is smaller than each of the p - 1 that follow it
    module _ (least : (q : ℕ) → q < p → Period q → ⊥) {s : ℕ} (S : Smallest s) where
      pub around : (k : ℕ) → s < k → k < s + p → Less f s k
      around k a b = go (order s k)
        where
          go : Order s k → Less f s k
          go (less l) = l
          go (alike q) = absurd (least (k - s) (omega arith) (alike_period a q))
          go (more l) = absurd (S.none k l)

      pub smallest_edge : Edge f s (s + p)
      smallest_edge =
          record {
            before = omega (arith, r.some);
            left = around;
            right = λ k a b. alike_less (alike_sym (shift s)) (alike_same refl) (around k a b);
          }
