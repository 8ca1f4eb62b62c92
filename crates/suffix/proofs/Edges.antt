-- Nearest smaller suffixes of an endless sequence: edges, chains, and the three cases of a match (document 004, lemmas 5 to 7).
use mathlib.Core.Path.{◌≡◌, ap, ◌∙◌}
use mathlib.Core.Logic.{◌⊎◌, inl, inr}
use Prim.Native.Nat.{ℕ, zero, suc, ◌+◌, ◌-◌, ◌≤◌, ◌<◌}
use native.Mathlib.Omega.{arith}
use Rattle.suffix.proofs.Cases.{Tri, lt, eq, gt, tri, le_unless}
use Rattle.suffix.proofs.Sequence.{Agree, Less, Match, agree_sym, agree_trans, agree_cut, less_trans, asym, match_sym, match_letter}

module _ (f : ℕ → ℕ) where
  -- l < r, and each suffix between is larger than both
  pub record Edge (l r : ℕ) : Type 0 where
    pub before : l < r
    pub left : (k : ℕ) → l < k → k < r → Less f l k
    pub right : (k : ℕ) → l < k → k < r → Less f r k

  -- p is the greatest place below i with a smaller suffix
  pub record PreviousAt (i p : ℕ) : Type 0 where
    pub before : p < i
    pub smaller : Less f p i
    pub nearest : (k : ℕ) → p < k → k < i → Less f i k

  pub record NoPrevious (i : ℕ) : Type 0 where
    pub least : (k : ℕ) → k < i → Less f i k

  -- q is the least place above i with a smaller suffix; the empty suffix, at n, is one
  pub record NextAt (i q : ℕ) : Type 0 where
    pub after : i < q
    pub smaller : Less f q i
    pub nearest : (k : ℕ) → i < k → k < q → Less f i k

  pub prev_edge : {i p : ℕ} → PreviousAt i p → Edge p i
  prev_edge h =
      record { before = h.before; left = λ k a b. less_trans f h.smaller (h.nearest k a b); right = h.nearest }

  pub next_edge : {i q : ℕ} → NextAt i q → Edge i q
  next_edge h =
      record { before = h.after; left = h.nearest; right = λ k a b. less_trans f h.smaller (h.nearest k a b) }

  pub edge_prev : {l r : ℕ} → Edge l r → Less f l r → PreviousAt r l
  edge_prev e s = record { before = e.before; smaller = s; nearest = e.right }

  pub edge_next : {l r : ℕ} → Edge l r → Less f r l → NextAt l r
  edge_next e s = record { after = e.before; smaller = s; nearest = e.left }

  -- document 004, lemma 5
  pub no_cross : {a b c d : ℕ} → Edge a c → Edge b d → a < b → b < c → c < d → ⊥
  no_cross {a} {b} {c} {d} p q x y z = asym f (p.right b x y) (q.left c y z)

  pub prev_unique : {i p q : ℕ} → PreviousAt i p → PreviousAt i q → p ≡ q
  prev_unique {i} {p} {q} a b = omega (arith, half a b, half b a)
    where
      half : {p q : ℕ} → PreviousAt i p → PreviousAt i q → q ≤ p
      half {p} {q} a b = le_unless q p (λ h. asym f b.smaller (a.nearest q h b.before))

  pub next_unique : {i p q : ℕ} → NextAt i p → NextAt i q → p ≡ q
  next_unique {i} {p} {q} a b = omega (arith, half a b, half b a)
    where
      half : {p q : ℕ} → NextAt i p → NextAt i q → q ≤ p
      half {p} {q} a b = le_unless q p (λ h. asym f a.smaller (b.nearest p a.after h))

  -- the walk: the first edge of a row, a step along previous, and its two ends
  pub edge_first : (l : ℕ) → Edge l (suc l)
  edge_first l = record { before = omega arith; left = λ k a b. absurd (omega arith); right = λ k a b. absurd (omega arith) }

  pub edge_step : {p k r : ℕ} → PreviousAt k p → Edge k r → Less f r k → Edge p r
  edge_step {p} {k} {r} h e s =
      record { before = omega arith; left = λ x a b. lft x a b (tri x k); right = λ x a b. rgt x a b (tri x k) }
    where
      rgt : (x : ℕ) → p < x → x < r → Tri x k → Less f r x
      rgt x a b (lt c) = less_trans f s (h.nearest x a c)
      rgt x a b (eq c) = rw c s
      rgt x a b (gt c) = e.right x c b

      lft : (x : ℕ) → p < x → x < r → Tri x k → Less f p x
      lft x a b (lt c) = less_trans f h.smaller (h.nearest x a c)
      lft x a b (eq c) = rw c h.smaller
      lft x a b (gt c) = less_trans f h.smaller (e.left x c b)

  pub edge_none : {k r : ℕ} → NoPrevious k → Edge k r → Less f r k → NoPrevious r
  edge_none {k} {r} h e s = record { least = λ x b. rgt x b (tri x k) }
    where
      rgt : (x : ℕ) → x < r → Tri x k → Less f r x
      rgt x b (lt c) = less_trans f s (h.least x c)
      rgt x b (eq c) = rw c s
      rgt x b (gt c) = e.right x c b

  -- what the walk passes over has its next before r
  pub skipped : {p k r l : ℕ} → PreviousAt k p → k < r → p < l → l < k → NextAt l r → ⊥
  skipped {p} {k} {r} {l} h a b c q = asym f (h.nearest l b c) (q.nearest k c a)

  pub below_prev : {p r l : ℕ} → PreviousAt r p → l < p → NextAt l r → ⊥
  below_prev {p} {r} {l} h a q = asym f h.smaller (less_trans f q.smaller (q.nearest p a h.before))

  -- document 004, lemma 6: the chain of previous entries
  pub data Chain : ℕ → ℕ → Type 0 where
    here : {s : ℕ} → Chain s s
    up : {s p l : ℕ} → PreviousAt s p → Chain p l → Chain s l

  pub chain_le : {s l : ℕ} → Chain s l → l ≤ s
  chain_le here = omega arith
  chain_le (up h c) = let d = chain_le c in omega arith

  module _ {l r : ℕ} (e : Edge l r) (prevs : (i : ℕ) → i < r → ((p : ℕ) × PreviousAt i p) ⊎ NoPrevious i) where
    pub chain_edge : (fuel s : ℕ) → s ≤ fuel → l ≤ s → s < r → Chain s l
    chain_edge zero s g a b = let q : s ≡ l = omega arith in rw q here
    chain_edge (suc t) s g a b = go (tri l s) (λ p x y z. chain_edge t p x y z)
      where
        Ih : Type 0
        Ih = (p : ℕ) → p ≤ t → l ≤ p → p < r → Chain p l

        more : l < s → ((p : ℕ) × PreviousAt s p) ⊎ NoPrevious s → Ih → Chain s l
        more c (inl h) ih = up h.1 (ih h.0 (omega (arith, h.1.before)) cut (omega (arith, h.1.before)))
          where
            cut : l ≤ h.0
            cut = le_unless l h.0 (λ w. asym f (e.left s c b) (h.1.nearest l w c))
        more c (inr h) ih = absurd (asym f (e.left s c b) (h.least l c))

        go : Tri l s → Ih → Chain s l
        go (lt c) ih = more c (prevs s b) ih
        go (eq c) ih = rw c here
        go (gt c) ih = absurd (omega arith)

    pub edge_chain : (s : ℕ) → suc s ≡ r → Chain s l
    edge_chain s q = chain_edge s s (omega arith) (omega (arith, e.before)) (omega arith)

  -- on a chain the suffixes get smaller, and what it passes over is larger
  pub chain_over : {s l : ℕ} → Chain s l → (k : ℕ) → l < k → k ≤ s → Less f l k
  chain_over here k a b = absurd (omega arith)
  chain_over {s} {l} (up {p = p} h c) k a b = go (tri k p) (λ y z. chain_over c y z)
    where
      from_p : Tri k s → p < k → Less f p k
      from_p (lt w) v = less_trans f h.smaller (h.nearest k v w)
      from_p (eq w) v = rw w h.smaller
      from_p (gt w) v = absurd (omega arith)

      Ih : Type 0
      Ih = (k : ℕ) → l < k → k ≤ p → Less f l k

      join : Tri l p → p < k → Ih → Less f l k
      join (lt v) w ih = less_trans f (ih p v (omega arith)) (from_p (tri k s) w)
      join (eq v) w ih = rw v (from_p (tri k s) w)
      join (gt v) w ih = absurd (omega (arith, chain_le c))

      go : Tri k p → Ih → Less f l k
      go (lt w) ih = ih k a (omega arith)
      go (eq w) ih = ih k a (omega arith)
      go (gt w) ih = join (tri l p) w ih

  pub prev_chain : {r p : ℕ} → PreviousAt r p → ((i : ℕ) → i < r → ((q : ℕ) × PreviousAt i q) ⊎ NoPrevious i) → (s : ℕ) → suc s ≡ r → Chain s p
  prev_chain h prevs s q = edge_chain (prev_edge h) prevs s q

  -- document 004, lemma 7. Here l and r are the places of previous and next of k, or any two with such edges
  module _ {l k r a b : ℕ} (p : PreviousAt k l) (q : NextAt k r) (la : Match f l k a) (lb : Match f k r b) where
    pub match_below : a < b → Match f l r a × Less f l r
    match_below h =
        (record { same = s; differ = omega (arith, g, lb.same.on a h) }, record { at = a; same = s; less = omega (arith, g, lb.same.on a h) })
      where
        s : Agree f l r a
        s = agree_trans f la.same (agree_cut f a (omega arith) lb.same)

        g : f (l + a) < f (k + a)
        g = match_letter f la p.smaller

    pub match_above : b < a → Match f l r b × Less f r l
    match_above h =
        (record { same = s; differ = omega (arith, g, la.same.on b h) }, record { at = b; same = agree_sym f s; less = omega (arith, g, la.same.on b h) })
      where
        s : Agree f l r b
        s = agree_trans f (agree_cut f b (omega arith) la.same) lb.same

        g : f (r + b) < f (k + b)
        g = match_letter f (match_sym f lb) q.smaller

    pub match_equal : a ≡ b → Agree f l r b
    match_equal h = agree_trans f (rw h at la.same) lb.same

    pub match_edge : Edge l r
    match_edge = edge_step p (next_edge q) q.smaller

  -- a common front, and then the order of what follows
  less_behind : {i j : ℕ} (e : ℕ) → Agree f i j e → Less f (i + e) (j + e) → Less f i j
  less_behind {i} {j} e a p =
      record {
        at = e + p.at;
        same = record { on = λ k h. go k h (tri k e) };
        less = omega (arith, p.less, ap f {x = i + (e + p.at)} {y = i + e + p.at} (omega arith), ap f {x = j + (e + p.at)} {y = j + e + p.at} (omega arith));
      }
    where
      far : (k : ℕ) → k < e + p.at → e ≤ k → f (i + k) ≡ f (j + k)
      far k h g = ap f {x = i + k} {y = i + e + (k - e)} (omega arith) ∙ p.same.on (k - e) (omega arith) ∙ ap f (omega arith)

      go : (k : ℕ) → k < e + p.at → Tri k e → f (i + k) ≡ f (j + k)
      go k h (lt w) = a.on k w
      go k h (eq w) = far k h (omega arith)
      go k h (gt w) = far k h (omega arith)

  -- the word from l to r has no border: where l and r are an edge, l and h first differ before r
  pub unbordered : {l h r m : ℕ} → Edge l r → l < h → h < r → Match f l h m → h + m < r
  unbordered {l} {h} {r} {m} e a b q = le_unless (suc (h + m)) r bad
    where
      bad : r < suc (h + m) → ⊥
      bad g =
          let x : ℕ = r - h in
          let s : Less f r (l + x) = e.right (l + x) (omega arith) (omega arith) in
          let z : h + x ≡ r = omega arith in
          asym f (e.left h a b) (less_behind x (agree_sym f (agree_cut f x (omega arith) q.same)) (rw z s))
