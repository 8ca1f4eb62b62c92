-- The brackets of a forest, laid out from a bit on: its two tables, entry by entry.
use mathlib.Core.Path.{◌≡◌, refl, ap, ◌∙◌}
use mathlib.Core.Logic.{◌⊎◌, inl, inr}
use mathlib.Core.Bool.{Bool, true, false}
use mathlib.Core.List.{List, ◌++◌}
use Prim.Native.Nat.{ℕ, zero, suc, ◌+◌, ◌-◌, ◌*◌, ◌≤◌, ◌<◌}
use native.Mathlib.Omega.{arith}
use lib.ListN.{length, get_or, length-append, get_or-append}
use lib.Seq.{get_or-append-add}
use Rattle.suffix.specs.Search.{count_below}
use Rattle.suffix.specs.Tree.{Forest, none, tree}
use Rattle.suffix.proofs.Cases.{Tri, lt, eq, gt, tri, Same, same, other, same?}
use Rattle.shape.specs.Shape.{size, parents, ends}
use Rattle.shape.proofs.Heights.{opened, Above, opens, shuts, ClosedAt, Encloses, Entry, by, root}

pub parents_length : (f : Forest) (i p : ℕ) → length (parents f i p) ≡ size f
parents_length none i p = refl
parents_length (tree u r) i p =
    ap suc (length-append (parents u (suc i) i) (parents r (suc i + size u) p) ∙ omega (arith, parents_length u (suc i) i, parents_length r (suc i + size u) p))

pub ends_length : (f : Forest) (i : ℕ) → length (ends f i) ≡ size f
ends_length none i = refl
ends_length (tree u r) i =
    ap suc (length-append (ends u (suc i)) (ends r (suc i + size u)) ∙ omega (arith, ends_length u (suc i), ends_length r (suc i + size u)))

-- an entry of two lists end to end
pub entry_left : (s t : List ℕ) (m k : ℕ) → length s ≡ m → k < m → get_or (s ++ t) k 0 ≡ get_or s k 0
entry_left s t m k e h = get_or-append s t 0 k (omega arith)

pub entry_right : (s t : List ℕ) (m k : ℕ) → length s ≡ m → get_or (s ++ t) (m + k) 0 ≡ get_or t k 0
entry_right s t m k e = rw (← e) (get_or-append-add s t k 0)

module _ (g : ℕ → Bool) where
  -- the brackets of the forest stand from bit a up to bit c
  pub data Laid : ℕ → Forest → ℕ → Type 0 where
    empty : {a : ℕ} → Laid a none a
    node : {a b c : ℕ} {under right : Forest} → g a ≡ true → Laid (suc a) under b → g b ≡ false → Laid (suc b) right c → Laid a (tree under right) c

  pub laid_end : {a c : ℕ} {f : Forest} → Laid a f c → (c ≡ a + 2 * size f) × (opened g c ≡ opened g a + size f)
  laid_end empty = (omega arith, omega arith)
  laid_end (node {a} {b} {c} x u y r) =
      let p = laid_end u in
      let q = laid_end r in
      (omega (arith, p, q), omega (arith, p, q, opens g a x, shuts g b y))

  -- nothing is closed that was open before
  pub laid_above : {a c : ℕ} {f : Forest} → Laid a f c → (j : ℕ) → a ≤ j → j ≤ c → Above g a 0 j
  laid_above {a} empty j h k = let z : j ≡ a = omega arith in rw z (omega arith)
  laid_above {a} {c} (node {b = b} x u y r) j h k = go (same? a j) (tri j b) (λ w v. laid_above u j w v) (λ w v. laid_above r j w v)
    where
      go : Same a j → Tri j b → (suc a ≤ j → j ≤ b → Above g (suc a) 0 j) → (suc b ≤ j → j ≤ c → Above g (suc b) 0 j) → Above g a 0 j
      go (same z) t under right = rw z (omega arith)
      go (other z) (lt w) under right = omega (arith, under (omega arith) (omega arith), opens g a x)
      go (other z) (eq w) under right = omega (arith, under (omega arith) (omega arith), opens g a x)
      go (other z) (gt w) under right = omega (arith, right w k, laid_end u, opens g a x, shuts g b y)

  -- position i of a forest laid from lo to hi: its opening, what it hangs under in the forest (or up), and its closing
  record Place (lo hi up i p x : ℕ) : Type 0 where
    place : ℕ
    low : lo ≤ place
    high : place < hi
    is_open : g place ≡ true
    number : opened g place ≡ i
    parent : ((w : ℕ) × (lo ≤ w) × (p ≡ opened g w) × Encloses g w place)
        ⊎ ((p ≡ up) × (place + 2 * opened g lo ≡ lo + 2 * opened g place) × ((j : ℕ) → lo ≤ j → j ≤ place → Above g place 0 j))
    close : ℕ
    closed : ClosedAt g place close
    end : x ≡ opened g close

  Places : ℕ → ℕ → ℕ → Forest → Type 0
  Places lo hi up f =
      (j : ℕ) → j < size f → Place lo hi up (opened g lo + j) (get_or (parents f (opened g lo) up) j 0) (get_or (ends f (opened g lo)) j 0)

  module _ {a b c : ℕ} {u r : Forest} (x : g a ≡ true) (U : Laid (suc a) u b) (y : g b ≡ false) (R : Laid (suc b) r c) where
    ia : opened g (suc a) ≡ suc (opened g a)
    ia = opens g a x

    ib : opened g (suc b) ≡ suc (opened g a) + size u
    ib = omega (arith, shuts g b y, laid_end U, ia)

    at_root : {up p v : ℕ} → p ≡ up → v ≡ opened g a + suc (size u) → Place a c up (opened g a + 0) p v
    at_root q e =
        record {
          place = a;
          low = omega arith;
          high = omega (arith, laid_end U, laid_end R);
          is_open = x;
          number = omega arith;
          parent = inr (q, refl, λ j h k. (let z : j ≡ a = omega arith in rw z (omega arith)));
          close = suc b;
          closed =
              record { after = omega (arith, laid_end U); within = λ j h k. laid_above U j h (omega arith); closes = omega (arith, laid_end U, shuts g b y) };
          end = omega (arith, e, ib);
        }

    -- below the root: what hangs under nothing there hangs under the root
    at_under : {up k p v : ℕ} → Place (suc a) b (opened g a) k p v → Place a c up k p v
    at_under {up} {k} {p} {v} P =
        record {
          place = P.place;
          low = omega (arith, P.low);
          high = omega (arith, P.high, laid_end R);
          is_open = P.is_open;
          number = P.number;
          parent = inl (go P.parent);
          close = P.close;
          closed = P.closed;
          end = P.end;
        }
      where
        go : ((w : ℕ) × (suc a ≤ w) × (p ≡ opened g w) × Encloses g w P.place)
            ⊎ ((p ≡ opened g a) × (P.place + 2 * opened g (suc a) ≡ suc a + 2 * opened g P.place) × ((j : ℕ) → suc a ≤ j → j ≤ P.place → Above g P.place 0 j))
            → (w : ℕ) × (a ≤ w) × (p ≡ opened g w) × Encloses g w P.place
        go (inl q) = (q.0, omega (arith, q.1), q.2, q.3)
        go (inr q) = (a, omega arith, q.0, record { before = omega (arith, P.low); is_open = x; within = λ j h k. q.2 j h k; opens_it = omega (arith, q.1, ia) })

    -- to its right
    at_right : {up k p v : ℕ} → Place (suc b) c up k p v → Place a c up k p v
    at_right {up} {k} {p} {v} P =
        record {
          place = P.place;
          low = omega (arith, P.low, laid_end U);
          high = P.high;
          is_open = P.is_open;
          number = P.number;
          parent = go P.parent;
          close = P.close;
          closed = P.closed;
          end = P.end;
        }
      where
        go : ((w : ℕ) × (suc b ≤ w) × (p ≡ opened g w) × Encloses g w P.place)
            ⊎ ((p ≡ up) × (P.place + 2 * opened g (suc b) ≡ suc b + 2 * opened g P.place) × ((j : ℕ) → suc b ≤ j → j ≤ P.place → Above g P.place 0 j))
            → ((w : ℕ) × (a ≤ w) × (p ≡ opened g w) × Encloses g w P.place)
            ⊎ ((p ≡ up) × (P.place + 2 * opened g a ≡ a + 2 * opened g P.place) × ((j : ℕ) → a ≤ j → j ≤ P.place → Above g P.place 0 j))
        go (inl q) = inl (q.0, omega (arith, q.1, laid_end U), q.2, q.3)
        go (inr q) =
            inr (
              q.0,
              omega (arith, q.1, ib, laid_end U),
              λ j h k. omega (arith, laid_above (node x U y R) j h (omega (arith, P.high)), q.1, ib, laid_end U),
            )

  places : {a c : ℕ} {f : Forest} → Laid a f c → (up : ℕ) → Places a c up f
  unfolding Places
  places empty up j h = absurd (omega arith)
  places (node x U y R) up zero h = at_root x U y R (omega arith) (omega arith)
  places {a} {c} (node {b = b} {under = u} {right = r} x U y R) up (suc j) h = go (tri j (size u)) (places U (opened g a)) (places R up)
    where
      k : ℕ
      k = opened g a

      Goal : Type 0
      Goal = Place a c up (k + suc j) (get_or (parents u (suc k) k ++ parents r (suc k + size u) up) j 0) (get_or (ends u (suc k) ++ ends r (suc k + size u)) j 0)

      right : size u ≤ j → Places (suc b) c up r → Goal
      right w R' =
          let m : ℕ = j - size u in
          let z : size u + m ≡ j = omega arith in
          let e : opened g (suc b) ≡ suc k + size u = ib x U y R in
          let n : suc k + size u + m ≡ k + suc j = omega arith in
          let pe : get_or (parents u (suc k) k ++ parents r (suc k + size u) up) j 0 ≡ get_or (parents r (suc k + size u) up) m 0 =
          rw z at (entry_right (parents u (suc k) k) (parents r (suc k + size u) up) (size u) m (parents_length u (suc k) k)) in
          let xe : get_or (ends u (suc k) ++ ends r (suc k + size u)) j 0 ≡ get_or (ends r (suc k + size u)) m 0 =
          rw z at (entry_right (ends u (suc k)) (ends r (suc k + size u)) (size u) m (ends_length u (suc k))) in
          at_right x U y R (rw (pe, xe, ← n, ← e) (R' m (omega arith)))

      go : Tri j (size u) → Places (suc a) b k u → Places (suc b) c up r → Goal
      go (lt w) U' R' =
          let e : opened g (suc a) ≡ suc k = opens g a x in
          let n : suc k + j ≡ k + suc j = omega arith in
          let pe : get_or (parents u (suc k) k ++ parents r (suc k + size u) up) j 0 ≡ get_or (parents u (suc k) k) j 0 =
          entry_left (parents u (suc k) k) (parents r (suc k + size u) up) (size u) j (parents_length u (suc k) k) w in
          let xe : get_or (ends u (suc k) ++ ends r (suc k + size u)) j 0 ≡ get_or (ends u (suc k)) j 0 =
          entry_left (ends u (suc k)) (ends r (suc k + size u)) (size u) j (ends_length u (suc k)) w in
          at_under x U y R (rw (pe, xe, ← n, ← e) (U' j w))
      go (eq w) U' R' = right (omega arith) R'
      go (gt w) U' R' = right (omega arith) R'

  -- the entries of a forest that is laid from bit 0 on
  pub entries : {m : ℕ} {f : Forest} → Laid 0 f m → (n j : ℕ) → j < size f → Entry g m n j (get_or (parents f 0 n) j 0) (get_or (ends f 0) j 0)
  unfolding count_below Places
  entries {m} {f} L n j h = go (places L n j h)
    where
      go : {p x : ℕ} → Place 0 m n (0 + j) p x → Entry g m n j p x
      go {p} P =
          record {
            place = P.place;
            opening = record { below = P.high; is_open = P.is_open; number = omega (arith, P.number) };
            enclosed = up P.parent;
            close = P.close;
            closed = P.closed;
            end = P.end;
          }
        where
          up : ((w : ℕ) × (0 ≤ w) × (p ≡ opened g w) × Encloses g w P.place)
              ⊎ ((p ≡ n) × (P.place + 2 * opened g 0 ≡ 0 + 2 * opened g P.place) × ((j : ℕ) → 0 ≤ j → j ≤ P.place → Above g P.place 0 j))
              → Rattle.shape.proofs.Heights.Enclosed g n P.place p
          up (inl q) = by q.0 q.2 q.3
          up (inr q) = root q.0 (λ j k. q.2 j (omega arith) k)
