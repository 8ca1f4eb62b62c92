-- The string of a tree, written bracket by bracket from right to left: the numbers that wait stand at the start of the buffer, those of the
-- positions that have one at its end.
use mathlib.Core.Path.{◌≡◌, refl, sym, ap, ◌∙◌}
use mathlib.Core.Logic.{◌≢◌}
use mathlib.Core.Bool.{Bool, true, false, cond}
use mathlib.Core.List.{List, [], ◌∷◌, ◌++◌, append_assoc, append-nil}
use Prim.Native.Nat.{ℕ, zero, suc, ◌+◌, ◌-◌, ◌*◌, ◌/◌, ◌%◌, ◌≤◌, ◌<◌}
use native.Mathlib.Omega.{arith}
use lib.ListN.{length, get_or, set, take, drop, length-append, length-set}
use lib.Seq.{drop-cons, take-suc-set, take-set-le, drop-set-lt, get_or-set_same, get_or-take, get_or_at, take_at, take-take, drop-length}
use Rattle.suffix.specs.Tree.{Forest, none, tree}
use Rattle.suffix.proofs.Search.{count_most}
use Rattle.std.proofs.lemmas.List.{length-take-le}
use Rattle.refusal.specs.Conditions.{byte_bit, bit_of, tree_refusal}
use Rattle.excess.proofs.Bits.{read_bit}
use Rattle.shape.specs.Shape.{size, forests_from, first, shape_of}
use Rattle.shape.proofs.Heights.{opened, opened_none, opens, shuts, opened_grows}
use Rattle.shape.proofs.Reading.{Balanced}
use Rattle.shape.proofs.Laws.{whole}
use Rattle.tree_string.specs.TreeString.{tree_string}
use Rattle.tree_string.specs.Steps.{Numbered, bracket_numbered, Numberable}
use Rattle.tree_string.proofs.Numbers.{numbers}
use Rattle.tree_string.proofs.Laws.{string_numbers}

-- ---- the two entries that a bracket stores: entry i - 1 takes x, and v waits in entry d

module _ (s : List ℕ) (d i x v : ℕ) (w : i ≤ length s) where
  abbrev stored : List ℕ
  stored = set (set s (i - 1) x) d v

  stored_length : length stored ≡ length s
  stored_length = length-set (set s (i - 1) x) d v ∙ length-set s (i - 1) x

  -- a closing's number waits
  stored_waits : d < i → take (suc d) stored ≡ take d s ++ v ∷ []
  stored_waits h = take-suc-set (set s (i - 1) x) d v (omega (arith, length-set s (i - 1) x)) ∙ ap (◌++ v ∷ []) (take-set-le d s (i - 1) x (omega arith))

  stored_end : d < i → drop i stored ≡ drop i s
  stored_end h = drop-set-lt i (set s (i - 1) x) d v h ∙ drop-set-lt i s (i - 1) x (omega arith)

  -- an opening's number is that of position i - 1
  stored_still : suc d < i → take d stored ≡ take d s
  stored_still h = take-set-le d (set s (i - 1) x) d v (omega arith) ∙ take-set-le d s (i - 1) x (omega arith)

  stored_number : suc d < i → drop (i - 1) stored ≡ x ∷ drop i s
  stored_number h =
      let z : suc (i - 1) ≡ i = omega arith in
      drop-set-lt (i - 1) (set s (i - 1) x) d v (omega arith)
      ∙ drop-cons (set s (i - 1) x) (i - 1) 0 (omega (arith, length-set s (i - 1) x))
      ∙ rw (get_or-set_same s (i - 1) x 0 (omega arith), z) (ap (x ∷◌) (drop-set-lt i s (i - 1) x (omega arith)))

-- ---- forests with a closing in front of each

-- how many closings stand in them and in front of them
abbrev closings : List Forest → ℕ
closings [] = 0
closings (f ∷ fs) = suc (closings fs + size f)

-- the numbers of their positions; and of the closings in front of them, the last one first
abbrev done : List Forest → List ℕ
done [] = []
done (f ∷ fs) = numbers f (closings fs) ++ done fs

abbrev waiting : List Forest → List ℕ
waiting [] = []
waiting (f ∷ fs) = waiting fs ++ (closings fs + size f) ∷ []

waiting_length : (fs : List Forest) → length (waiting fs) ≡ length fs
waiting_length [] = refl
waiting_length (f ∷ fs) = length-append (waiting fs) ((closings fs + size f) ∷ []) ∙ omega (arith, waiting_length fs)

-- ---- the brackets g, 2n of them, are numbered from bit k on: f stands behind bit k, and fs behind it with closings between

pub record At (g : ℕ → Bool) (n k : ℕ) (s : Numbered) (f : Forest) (fs : List Forest) : Type 0 where
  within : k ≤ 2 * n
  pub long : length s.symbols ≡ n
  forests : forests_from g k (2 * n - k) ≡ f ∷ fs
  left : s.positions ≡ opened g k
  waits : s.waiting ≡ length fs
  number : s.number ≡ closings fs + size f
  depth : length fs + k ≡ 2 * s.positions
  counted : s.number + k ≡ n + s.positions
  first_entries : take (length fs) s.symbols ≡ waiting fs
  last_entries : drop s.positions s.symbols ≡ done (f ∷ fs)

pub record Writing (g : ℕ → Bool) (n k : ℕ) (s : Numbered) : Type 0 where
  pub behind : Forest
  pub others : List Forest
  pub at : At g n k s behind others

pub writing_at : {g : ℕ → Bool} {n k l : ℕ} {s : Numbered} → Writing g n k s → k ≡ l → Writing g n l s
writing_at W e = rw e at W

pub writing_start : (g : ℕ → Bool) (n : ℕ) {s : Numbered} → Balanced g (2 * n) → length s.symbols ≡ n → s.positions ≡ n → s.waiting ≡ 0 → s.number ≡ 0
    → Writing g n (2 * n) s
unfolding forests_from
writing_start g n {s} B long p w q =
    let z : 2 * n - 2 * n ≡ 0 = omega arith in
    record {
      behind = none;
      others = [];
      at =
          record {
            within = omega arith;
            long = long;
            forests = rw (z, forests_from);
            left = omega (arith, B.closed);
            waits = w;
            number = q;
            depth = omega arith;
            counted = omega arith;
            first_entries = refl;
            last_entries = rw (p, ← long) (drop-length s.symbols);
          };
    }

-- the bracket at bit k is next
module _ (g : ℕ → Bool) (n k : ℕ) (s : Numbered) (B : Balanced g (2 * n)) where
  rest : suc k ≤ 2 * n → 2 * n - k ≡ suc (2 * n - suc k)
  rest h = omega arith

  few : {f : Forest} {fs : List Forest} → At g n (suc k) s f fs → s.positions ≤ n
  few A = omega (arith, A.left, B.closed, opened_grows g (suc k) (2 * n) A.within)

  -- where not all closings are numbered, an entry is free behind those that wait
  free : {f : Forest} {fs : List Forest} → At g n (suc k) s f fs → s.number ≢ n → s.waiting < s.positions
  free A e = omega (arith, A.left, A.waits, A.depth, A.counted, count_most g (suc k), e)

  -- a closing has the next number: in a buffer in which it waits behind the others and the numbered positions are as they were
  closing_numbered : {f : Forest} {fs : List Forest} → At g n (suc k) s f fs → g k ≡ false → (l : List ℕ) → length l ≡ length s.symbols
      → take (suc s.waiting) l ≡ take s.waiting s.symbols ++ s.number ∷ [] → drop s.positions l ≡ drop s.positions s.symbols
      → At g n k (record { positions = s.positions; waiting = s.waiting + 1; number = s.number + 1; symbols = l }) none (f ∷ fs)
  unfolding forests_from
  closing_numbered {f} {fs} A e l long waits still =
      record {
        within = omega (arith, A.within);
        long = long ∙ A.long;
        forests = rw (rest A.within, e, forests_from, A.forests);
        left = A.left ∙ shuts g k e;
        waits = omega (arith, A.waits);
        number = omega (arith, A.number);
        depth = omega (arith, A.depth);
        counted = omega (arith, A.counted);
        first_entries =
            ap (λ m. take (suc m) l) (sym A.waits)
            ∙ waits
            ∙ ap (λ m. take m s.symbols ++ s.number ∷ []) A.waits
            ∙ rw (A.first_entries, A.number);
        last_entries = still ∙ A.last_entries;
      }

  -- an opening takes the number that waits last: in a buffer in which it stands in its place and the others wait as they did
  module _ {u r : Forest} {fs : List Forest} (A : At g n (suc k) s u (r ∷ fs)) (e : g k ≡ true) where
    abbrev d : ℕ
    d = s.waiting - 1

    one_less : d ≡ length fs
    one_less = omega (arith, A.waits)

    last : get_or s.symbols d 0 ≡ closings fs + size r
    last =
        ap (λ m. get_or s.symbols m 0) one_less
        ∙ sym (get_or-take (suc (length fs)) s.symbols (length fs) 0 (omega arith))
        ∙ ap (λ l. get_or l (length fs) 0) A.first_entries
        ∙ get_or_at (waiting fs) (closings fs + size r) [] 0 (length fs) (waiting_length fs)

    shorter : take (length fs) s.symbols ≡ waiting fs
    shorter =
        sym (take-take (length fs) (suc (length fs)) s.symbols (omega arith))
        ∙ ap (take (length fs)) A.first_entries
        ∙ take_at (waiting fs) ((closings fs + size r) ∷ []) (length fs) (waiting_length fs)

    opening_numbered : (l : List ℕ) → length l ≡ length s.symbols → take d l ≡ take d s.symbols
        → drop (s.positions - 1) l ≡ get_or s.symbols d 0 ∷ drop s.positions s.symbols
        → At g n k (record { positions = s.positions - 1; waiting = d; number = s.number; symbols = l }) (tree u r) fs
    unfolding forests_from
    opening_numbered l long still numbered =
        let c : ℕ = closings fs in
        record {
          within = omega (arith, A.within);
          long = long ∙ A.long;
          forests = rw (rest A.within, e, forests_from, A.forests);
          left = omega (arith, A.left, opens g k e);
          waits = one_less;
          number = omega (arith, A.number);
          depth = omega (arith, A.depth, A.left, opens g k e);
          counted = omega (arith, A.counted, A.left, opens g k e);
          first_entries = rw (← one_less) (still ∙ ap (λ m. take m s.symbols) one_less ∙ shorter);
          last_entries =
              numbered ∙ rw (last, A.last_entries) (ap ((c + size r) ∷◌) (sym (append_assoc (numbers u (suc (c + size r))) (numbers r c) (done fs))));
        }

  -- something waits for an opening
  none_waits : {f : Forest} → At g n (suc k) s f [] → g k ≡ true → ⊥
  none_waits A e = omega (arith, A.depth, A.left, opens g k e, B.above k (omega (arith, A.within)))

-- of a tree that is not refused the brackets behind bit k are numbered, not all closings are, and bit k is so many openings, 1 or 0
module _ (n : ℕ) (t : List ℕ) {s : Numbered} {k opening : ℕ} (accepted : tree_refusal n t ≡ 0) (R : Writing (bit_of t) n (suc k) s) (more : s.number ≢ n) (is_next : opening ≡ cond (bit_of t k) 1 0) where
  even : Balanced (bit_of t) (2 * n)
  even = (whole n t accepted).sound.even

  numberable : {opening : ℕ} → opening ≤ 1 → opening ≤ s.waiting → {f : Forest} {fs : List Forest} → At (bit_of t) n (suc k) s f fs → Numberable opening s
  numberable h w A =
      let i = few (bit_of t) n k s even A in
      record {
        bracket = h;
        waits = w;
        free = free (bit_of t) n k s even A more;
        within = omega (arith, i, A.long);
        fits = omega (arith, A.counted, i, A.depth, (whole n t accepted).small);
      }

  step : (b : Bool) → b ≡ bit_of t k → {f : Forest} (fs : List Forest) → At (bit_of t) n (suc k) s f fs
      → Numberable (cond b 1 0) s × Writing (bit_of t) n k (bracket_numbered (cond b 1 0) s)
  step false e {f} fs A =
      let d = s.waiting in
      let i = s.positions in
      let x = get_or s.symbols d 0 in
      let l : i ≤ length s.symbols = omega (arith, few (bit_of t) n k s even A, A.long) in
      let h = free (bit_of t) n k s even A more in
      let C =
      closing_numbered (bit_of t) n k s even A (sym e) _ (stored_length s.symbols d i x s.number l) (stored_waits s.symbols d i x s.number l h)
      (stored_end s.symbols d i x s.number l h) in
      let z : i - 0 ≡ i = omega arith in
      let w : d - 0 ≡ d = omega arith in
      (numberable (omega arith) (omega arith) A, rw (z, w) (record { behind = none; others = f ∷ fs; at = C }))
  step true e [] A = absurd (none_waits (bit_of t) n k s even A (sym e))
  step true e {f} (r ∷ fs) A =
      let d = s.waiting - 1 in
      let i = s.positions in
      let x = get_or s.symbols d 0 in
      let l : i ≤ length s.symbols = omega (arith, few (bit_of t) n k s even A, A.long) in
      let h : suc d < i = omega (arith, free (bit_of t) n k s even A more, A.waits) in
      let O =
      opening_numbered (bit_of t) n k s even A (sym e) _ (stored_length s.symbols d i x s.number l) (stored_still s.symbols d i x s.number l h)
      (stored_number s.symbols d i x s.number l h) in
      let z : s.number + 0 ≡ s.number = omega arith in
      let w : d + 0 ≡ d = omega arith in
      (numberable (omega arith) (omega (arith, A.waits)) A, rw (z, w) (record { behind = tree f r; others = fs; at = O }))

  pub next_numberable : Numberable opening s
  next_numberable = rw is_next (step (bit_of t k) refl R.others R.at).0

  pub next_written : {u : Numbered} → u ≡ bracket_numbered opening s → Writing (bit_of t) n k u
  next_written q = rw (q, is_next) (step (bit_of t k) refl R.others R.at).1

-- the brackets of byte j from bit m on are numbered, and those behind it
module _
    (n : ℕ) (t : List ℕ) (j : ℕ) {s : Numbered} {m byte opening : ℕ} (accepted : tree_refusal n t ≡ 0) (R : Writing (bit_of t) n (8 * j + m) s) (some : 0 < m) (most : m ≤ 8) (more : s.number ≢ n)
    (byte_is : byte ≡ get_or t j 0) (is_next : opening ≡ cond (byte_bit byte ((m - 1) % 8)) 1 0) where
  earlier : Writing (bit_of t) n (suc (8 * j + (m - 1))) s
  earlier = writing_at R (omega arith)

  bit_is : opening ≡ cond (bit_of t (8 * j + (m - 1))) 1 0
  bit_is = is_next ∙ ap (λ b. cond b 1 0) (read_bit t j (omega arith) (ap (λ b. byte_bit b ((m - 1) % 8)) byte_is))

  pub byte_numberable : Numberable opening s
  byte_numberable = next_numberable n t accepted earlier more bit_is

  pub byte_written : {u : Numbered} → u ≡ bracket_numbered opening s → Writing (bit_of t) n (8 * j + (m - 1)) u
  byte_written q = next_written n t accepted earlier more bit_is q

-- the first bytes of t are left to go through, the last of them first
pub record BytesLeft (n : ℕ) (t rest : List ℕ) (s : Numbered) : Type 0 where
  pub are : rest ≡ take (length rest) t
  pub writing : Writing (bit_of t) n (8 * length rest) s

pub bytes_start : {n : ℕ} {t rest : List ℕ} {s : Numbered} → tree_refusal n t ≡ 0 → rest ≡ take (n / 4) t → Writing (bit_of t) n (8 * (n / 4)) s → BytesLeft n t rest s
bytes_start {n} {t} e a R =
    let z : length (take (n / 4) t) ≡ n / 4 = length-take-le (n / 4) t (omega (arith, (whole n t e).bytes)) in
    rw a (record { are = rw z; writing = writing_at R (omega arith) })

module _ {n : ℕ} {t rest : List ℕ} {s : Numbered} (byte : ℕ) (fewer : List ℕ) (L : BytesLeft n t rest s) (taken : rest ≡ fewer ++ byte ∷ []) where
  one_more : length rest ≡ suc (length fewer)
  one_more = ap length taken ∙ length-append fewer (byte ∷ []) ∙ omega arith

  parts : fewer ++ byte ∷ [] ≡ take (suc (length fewer)) t
  parts = sym taken ∙ L.are ∙ ap (λ k. take k t) one_more

  pub byte_is_last : byte ≡ get_or t (length fewer) 0
  byte_is_last =
      sym (get_or_at fewer byte [] 0 (length fewer) refl)
      ∙ ap (λ l. get_or l (length fewer) 0) parts
      ∙ get_or-take (suc (length fewer)) t (length fewer) 0 (omega arith)

  pub byte_start : Writing (bit_of t) n (8 * length fewer + 8) s
  byte_start = writing_at L.writing (omega (arith, one_more))

  pub byte_passed : {u : Numbered} {m : ℕ} → Writing (bit_of t) n (8 * length fewer + m) u → m ≤ 0 → BytesLeft n t fewer u
  byte_passed R h =
      record {
        are = sym (take_at fewer (byte ∷ []) (length fewer) refl) ∙ ap (take (length fewer)) parts ∙ take-take (length fewer) (suc (length fewer)) t (omega arith);
        writing = writing_at R (omega arith);
      }

-- ---- all closings are numbered: openings are left, whose numbers stand where they belong

module _ (g : ℕ → Bool) (n : ℕ) (B : Balanced g (2 * n)) where
  all_done : (k : ℕ) (s : Numbered) (f : Forest) (fs : List Forest) → At g n k s f fs → s.number ≡ n → s.symbols ≡ numbers (first (forests_from g 0 (2 * n))) 0
  all_done zero s f [] A q =
      let z : s.positions ≡ 0 = A.left ∙ opened_none g in
      let w : 2 * n - 0 ≡ 2 * n = omega arith in
      let e : forests_from g 0 (2 * n) ≡ f ∷ [] = rw w at A.forests in
      rw e (rw z at A.last_entries ∙ append-nil (numbers f 0))
  all_done zero s f (r ∷ fs) A q = absurd (omega (arith, A.depth, A.left, opened_none g))
  all_done (suc k) s f fs A q = go (g k) refl fs A (λ h hs L. all_done k (passed s) h hs L q)
    where
      passed : Numbered → Numbered
      passed s = record { positions = s.positions - 1; waiting = s.waiting - 1; number = s.number; symbols = s.symbols }

      go : (b : Bool) → g k ≡ b → (fs : List Forest) → At g n (suc k) s f fs
          → ((h : Forest) (hs : List Forest) → At g n k (passed s) h hs → s.symbols ≡ numbers (first (forests_from g 0 (2 * n))) 0)
          → s.symbols ≡ numbers (first (forests_from g 0 (2 * n))) 0
      go false e fs A on = absurd (omega (arith, A.counted, A.left, shuts g k e, count_most g k))
      go true e [] A on = absurd (none_waits g n k s B A e)
      go true e (r ∷ fs) A on =
          let i : s.positions - 1 < length s.symbols = omega (arith, few g n k s B A, A.long, A.left, opens g k e) in
          let z : suc (s.positions - 1) ≡ s.positions = omega (arith, A.left, opens g k e) in
          let w : s.positions - 1 ≡ s.waiting - 1 = omega (arith, A.waits, A.depth, A.counted) in
          on (tree f r) fs (opening_numbered g n k s B A e s.symbols refl refl (drop-cons s.symbols (s.positions - 1) 0 i ∙ rw (z, w)))

pub all_numbered : (n : ℕ) (t : List ℕ) {k : ℕ} {s : Numbered} → tree_refusal n t ≡ 0 → Writing (bit_of t) n k s → s.number ≡ n → s.symbols ≡ tree_string n t
unfolding shape_of
all_numbered n t {k} {s} e W q = all_done (bit_of t) n (whole n t e).sound.even k s W.behind W.others W.at q ∙ sym (string_numbers n t e)

-- as they are where no bracket is left
pub none_left : {n : ℕ} {g : ℕ → Bool} {k : ℕ} {s : Numbered} → Writing g n k s → k ≡ 0 → s.number ≡ n
none_left {n} {g} W e = omega (arith, W.at.counted, W.at.left, ap (opened g) e, opened_none g)
