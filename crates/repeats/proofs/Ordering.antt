-- Runs by start and then by period: the order, ordered lists, and insertion into one.
use mathlib.Core.Path.{◌≡◌, refl, sym, ap, ◌∙◌}
use mathlib.Core.Logic.{◌⊎◌, inl, inr}
use mathlib.Core.Bool.{true, false, true≢false}
use mathlib.Core.List.Memᴰ
use mathlib.Core.List.{List, [], ◌∷◌, ◌++◌, Memᴰ}
use Prim.Native.Nat.{suc}
use native.Mathlib.Omega.{arith}
use lib.ListN.{length}
use borrow.Author.Tests.{lt-ltb, le-ltb, eq-eqb, ne_eqb}
use Rattle.suffix.proofs.Cases.{Tri, lt, eq, gt, tri, Test, holds, fails, test}
use Rattle.repeats.specs.Runs.{Run}
use Rattle.repeats.specs.Report.{Before, earlier, shorter, before, Ordered, none, then}
use Rattle.repeats.specs.Gathered.{insert}

before_not : {r q : Run} → Before r q → Before q r → ⊥
before_not (earlier h) (earlier g) = omega arith
before_not (earlier h) (shorter e g) = omega arith
before_not (shorter e h) (earlier g) = omega arith
before_not (shorter e h) (shorter u g) = omega arith

pub before_trans : {r q t : Run} → Before r q → Before q t → Before r t
before_trans (earlier h) (earlier g) = earlier (omega arith)
before_trans (earlier h) (shorter e g) = earlier (omega arith)
before_trans (shorter e h) (earlier g) = earlier (omega arith)
before_trans (shorter e h) (shorter u g) = shorter (omega arith) (omega arith)

pub ordered_append : {s t : List Run} → Ordered s → Ordered t → ((r q : Run) → Memᴰ r s → Memᴰ q t → Before r q) → Ordered (s ++ t)
ordered_append none b h = b
ordered_append {t = t} (then {r = r} {l = l} g a) b h =
    then (λ q m. go q (Memᴰ.append_cases l m)) (ordered_append a b (λ x z m k. h x z (Memᴰ.tail m) k))
  where
    go : (q : Run) → Memᴰ q l ⊎ Memᴰ q t → Before r q
    go q (inl m) = g q m
    go q (inr m) = h r q (Memᴰ.head refl) m

-- what stands in a longer list besides its first entry, which comes before all of l, stands in its rest
tails : {r : Run} {l : List Run} → ((q : Run) → Memᴰ q l → Before r q) → {q x : Run} {m : List Run} → r ≡ q → Memᴰ x l → (x ≡ q) ⊎ Memᴰ x m → Memᴰ x m
tails {r} u e k (inl w) = absurd (let b = u r (Memᴰ.cast (e ∙ sym w) k) in before_not b b)
tails u e k (inr j) = j

-- two ordered lists with the same entries are one
pub ordered_unique : (l m : List Run) → Ordered l → Ordered m → ((r : Run) → Memᴰ r l → Memᴰ r m) → ((r : Run) → Memᴰ r m → Memᴰ r l) → l ≡ m
ordered_unique [] [] a b h g = refl
ordered_unique [] (q ∷ m) a b h g = absurd (Memᴰ.not-nil (g q (Memᴰ.head refl)))
ordered_unique (r ∷ l) [] a b h g = absurd (Memᴰ.not-nil (h r (Memᴰ.head refl)))
ordered_unique (r ∷ l) (q ∷ m) (then u a) (then v b) h g =
    join (ordered_unique l m a b (λ x k. tails u heads k (Memᴰ.cases_cons (h x (Memᴰ.tail k)))) (λ x k. tails v (sym heads) k (Memᴰ.cases_cons (g x (Memᴰ.tail k)))))
  where
    heads : r ≡ q
    heads = go (Memᴰ.cases_cons (h r (Memᴰ.head refl))) (Memᴰ.cases_cons (g q (Memᴰ.head refl)))
      where
        go : (r ≡ q) ⊎ Memᴰ r m → (q ≡ r) ⊎ Memᴰ q l → r ≡ q
        go (inl e) k = e
        go (inr j) (inl e) = sym e
        go (inr j) (inr k) = absurd (before_not (v r j) (u q k))

    join : l ≡ m → r ∷ l ≡ q ∷ m
    join e = rw (heads, e)

-- ---- the test of the order

pub before_yes : {r q : Run} → Before r q → before r q ≡ true
unfolding before
before_yes {r} {q} (earlier h) = rw (lt-ltb r.start q.start h)
before_yes {r} {q} (shorter e h) = rw (le-ltb r.start q.start (omega arith), eq-eqb r.start q.start e, lt-ltb r.period q.period h)

before_no : {r q : Run} → Before q r → before r q ≡ false
unfolding before
before_no {r} {q} (earlier h) = rw (le-ltb r.start q.start (omega arith), ne_eqb r.start q.start (omega arith))
before_no {r} {q} (shorter e h) = rw (le-ltb r.start q.start (omega arith), eq-eqb r.start q.start (omega arith), le-ltb r.period q.period (omega arith))

before_self : (r q : Run) → r.start ≡ q.start → r.period ≡ q.period → before r q ≡ false
unfolding before
before_self r q a b = rw (le-ltb r.start q.start (omega arith), eq-eqb r.start q.start a, le-ltb r.period q.period (omega arith))

pub before_told : (r q : Run) → before r q ≡ true → Before r q
before_told r q e = go (tri r.start q.start) (tri r.period q.period)
  where
    not_so : Before q r → Before r q
    not_so b = absurd (true≢false (sym e ∙ before_no b))

    go : Tri r.start q.start → Tri r.period q.period → Before r q
    go (lt h) t = earlier h
    go (gt h) t = not_so (earlier h)
    go (eq h) (lt g) = shorter h g
    go (eq h) (gt g) = not_so (shorter (sym h) g)
    go (eq h) (eq g) = absurd (true≢false (sym e ∙ before_self r q h g))

-- ---- insertion into an ordered list

insert_here : (r q : Run) (l : List Run) → Before r q → insert r (q ∷ l) ≡ r ∷ q ∷ l
unfolding insert
insert_here r q l h = rw (before_yes h, insert)

insert_on : (r q : Run) (l : List Run) → Before q r → insert r (q ∷ l) ≡ q ∷ insert r l
unfolding insert
insert_on r q l h = rw (before_no h, insert)

-- however its place is found
pub insert_at : (r : Run) (u v : List Run) → ((q : Run) → Memᴰ q u → Before q r) → ((q : Run) → Memᴰ q v → Before r q) → insert r (u ++ v) ≡ u ++ r ∷ v
unfolding insert
insert_at r [] [] a b = refl
insert_at r [] (q ∷ v) a b = insert_here r q v (b q (Memᴰ.head refl))
insert_at r (q ∷ u) v a b =
    insert_on r q (u ++ v) (a q (Memᴰ.head refl)) ∙ ap (λ (l : List Run). q ∷ l) (insert_at r u v (λ x m. a x (Memᴰ.tail m)) b)

pub insert_length : (r : Run) (l : List Run) → length (insert r l) ≡ suc (length l)
unfolding insert
insert_length r [] = refl
insert_length r (q ∷ l) = go (test (before r q)) (insert_length r l)
  where
    go : Test (before r q) → length (insert r l) ≡ suc (length l) → length (insert r (q ∷ l)) ≡ suc (suc (length l))
    go (holds e) ih = rw (e, insert)
    go (fails e) ih = rw (e, insert) (ap suc ih)

-- r is told apart by start and period from all of l
abbrev pub Fresh : Run → List Run → Type 0
Fresh r l = (q : Run) → Memᴰ q l → Before r q ⊎ Before q r

pub record Inserted (r : Run) (l m : List Run) : Type 0 where
  pub new : Memᴰ r m
  pub old : (q : Run) → Memᴰ q l → Memᴰ q m
  pub from : (q : Run) → Memᴰ q m → (q ≡ r) ⊎ Memᴰ q l
  pub ordered : Ordered m

pub inserted : (r : Run) (l : List Run) → Ordered l → Fresh r l → Inserted r l (insert r l)
unfolding insert
inserted r [] s f =
    record {
      new = Memᴰ.head refl;
      old = λ q m. absurd (Memᴰ.not-nil m);
      from = λ q m. Memᴰ.cases_cons m;
      ordered = then (λ q m. absurd (Memᴰ.not-nil m)) none;
    }
inserted r (q ∷ l) (then h s) f = go (f q (Memᴰ.head refl)) (inserted r l s (λ x m. f x (Memᴰ.tail m)))
  where
    first : Before r q → (x : Run) → (x ≡ q) ⊎ Memᴰ x l → Before r x
    first b x (inl e) = rw e b
    first b x (inr m) = before_trans b (h x m)

    later : Before q r → (x : Run) → (x ≡ r) ⊎ Memᴰ x l → Before q x
    later b x (inl e) = rw e b
    later b x (inr m) = h x m

    keep : Inserted r l (insert r l) → (x : Run) → (x ≡ q) ⊎ Memᴰ x l → Memᴰ x (q ∷ insert r l)
    keep ih x (inl e) = Memᴰ.head e
    keep ih x (inr m) = Memᴰ.tail (ih.old x m)

    down : (x : Run) → (x ≡ r) ⊎ Memᴰ x l → (x ≡ r) ⊎ Memᴰ x (q ∷ l)
    down x (inl e) = inl e
    down x (inr m) = inr (Memᴰ.tail m)

    whence : Inserted r l (insert r l) → (x : Run) → (x ≡ q) ⊎ Memᴰ x (insert r l) → (x ≡ r) ⊎ Memᴰ x (q ∷ l)
    whence ih x (inl e) = inr (Memᴰ.head e)
    whence ih x (inr m) = down x (ih.from x m)

    go : Before r q ⊎ Before q r → Inserted r l (insert r l) → Inserted r (q ∷ l) (insert r (q ∷ l))
    go (inl b) ih =
        rw (insert_here r q l b)
        (record {
          new = Memᴰ.head refl;
          old = λ x m. Memᴰ.tail m;
          from = λ x m. Memᴰ.cases_cons m;
          ordered = then (λ x m. first b x (Memᴰ.cases_cons m)) (then h s);
        })
    go (inr b) ih =
        rw (insert_on r q l b)
        (record {
          new = Memᴰ.tail ih.new;
          old = λ x m. keep ih x (Memᴰ.cases_cons m);
          from = λ x m. whence ih x (Memᴰ.cases_cons m);
          ordered = then (λ x m. later b x (ih.from x m)) ih.ordered;
        })
