-- The suffixes of an endless sequence f: agreement, order and match. A string becomes one by a least letter after its end
-- (Order.antt), so no end has to be told apart here.
use mathlib.Core.Path.{◌≡◌, sym, ◌∙◌}
use mathlib.Core.Logic.{◌≢◌, ◌⊎◌, inl, inr}
use Prim.Native.Nat.{ℕ, zero, suc, ◌+◌, ◌≤◌, ◌<◌}
use native.Mathlib.Omega.{arith}
use Rattle.suffix.proofs.Cases.{Tri, lt, eq, gt, tri, Same, same, other, same?, le_unless}

module _ (f : ℕ → ℕ) where
  -- the first m letters from i and from j agree
  pub record Agree (i j m : ℕ) : Type 0 where
    pub on : (k : ℕ) → k < m → f (i + k) ≡ f (j + k)

  -- the suffix at i is smaller than that at j: at the first place where they differ, its letter is
  pub record Less (i j : ℕ) : Type 0 where
    pub at : ℕ
    pub same : Agree i j at
    pub less : f (i + at) < f (j + at)

  pub agree_none : {i j : ℕ} → Agree i j 0
  agree_none = record { on = λ k h. absurd (omega arith) }

  pub agree_sym : {i j m : ℕ} → Agree i j m → Agree j i m
  agree_sym a = record { on = λ k h. sym (a.on k h) }

  pub agree_trans : {i j k m : ℕ} → Agree i j m → Agree j k m → Agree i k m
  agree_trans a b = record { on = λ x h. a.on x h ∙ b.on x h }

  pub agree_cut : {i j m : ℕ} (l : ℕ) → l ≤ m → Agree i j m → Agree i j l
  agree_cut l g a = record { on = λ x h. a.on x (omega arith) }

  pub irrefl : (i : ℕ) → Less i i → ⊥
  irrefl i h = omega arith

  pub less_trans : {i j k : ℕ} → Less i j → Less j k → Less i k
  less_trans {i} {j} {k} p q = go (tri p.at q.at)
    where
      go : Tri p.at q.at → Less i k
      go (lt h) =
          record {
            at = p.at;
            same = agree_trans p.same (agree_cut p.at (omega arith) q.same);
            less = omega (arith, q.same.on p.at h);
          }
      go (eq h) =
          record {
            at = p.at;
            same = agree_trans p.same (agree_cut p.at (omega arith) q.same);
            less = omega (arith, rw (← h) at q.less);
          }
      go (gt h) =
          record {
            at = q.at;
            same = agree_trans (agree_cut q.at (omega arith) p.same) q.same;
            less = omega (arith, p.same.on q.at h);
          }

  pub asym : {i j : ℕ} → Less i j → Less j i → ⊥
  asym {i} p q = irrefl i (less_trans p q)

  -- the suffixes at i and j share m letters, and differ after them
  pub record Match (i j m : ℕ) : Type 0 where
    pub same : Agree i j m
    pub differ : f (i + m) ≢ f (j + m)

  pub match_sym : {i j m : ℕ} → Match i j m → Match j i m
  match_sym a = record { same = agree_sym a.same; differ = λ e. a.differ (sym e) }

  -- an agreement is no longer than the match
  pub agree_match : {i j m l : ℕ} → Agree i j l → Match i j m → l ≤ m
  agree_match {m = m} {l = l} a b = le_unless l m (λ h. b.differ (a.on m h))

  pub match_unique : {i j m l : ℕ} → Match i j m → Match i j l → m ≡ l
  match_unique a b = omega (arith, agree_match a.same b, agree_match b.same a)

  pub less_match : {i j : ℕ} (p : Less i j) → Match i j p.at
  less_match p = record { same = p.same; differ = omega arith }

  -- the letters after the match decide the order
  pub match_letter : {i j m : ℕ} → Match i j m → Less i j → f (i + m) < f (j + m)
  match_letter {i} {j} {m} a p = rw (match_unique a (less_match p)) p.less

  pub match_order : {i j m : ℕ} → Match i j m → Less i j ⊎ Less j i
  match_order {i} {j} {m} a = go (tri (f (i + m)) (f (j + m)))
    where
      go : Tri (f (i + m)) (f (j + m)) → Less i j ⊎ Less j i
      go (lt h) = inl (record { at = m; same = a.same; less = h })
      go (eq h) = absurd (a.differ h)
      go (gt h) = inr (record { at = m; same = agree_sym a.same; less = h })

  pub agree_more : {i j m : ℕ} → Agree i j m → f (i + m) ≡ f (j + m) → Agree i j (suc m)
  agree_more {i} {j} {m} a e = record { on = λ k h. go k h (same? k m) }
    where
      go : (k : ℕ) → k < suc m → Same k m → f (i + k) ≡ f (j + k)
      go k h (same w) = rw w e
      go k h (other w) = a.on k (omega arith)

  -- m letters from i and from j agree, or there is a first place where they differ
  pub data Meet (i j m : ℕ) : Type 0 where
    whole : Agree i j m → Meet i j m
    split : (k : ℕ) → k < m → Match i j k → Meet i j m

  pub meet : (i j m : ℕ) → Meet i j m
  meet i j zero = whole agree_none
  meet i j (suc m) = go (meet i j m) (same? (f (i + m)) (f (j + m)))
    where
      go : Meet i j m → Same (f (i + m)) (f (j + m)) → Meet i j (suc m)
      go (split k h q) s = split k (omega arith) q
      go (whole a) (same e) = whole (agree_more a e)
      go (whole a) (other e) = split m (omega arith) (record { same = a; differ = e })
