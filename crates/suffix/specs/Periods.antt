-- Periods, by which runs are defined (document 02, T-03); and rotations and a string repeated without end, with which the laws on runs find the least word of
-- a run, and of which rings (T-11) are.
use Rattle.std.specs.Prelude.{◌≡◌, ◌≢◌, Bool, false, List, ◌++◌, ℕ, ◌+◌, ◌-◌, ◌*◌, ◌%◌, ◌≤◌, ◌<◌, eqb, length, get_or, take, drop}
use Rattle.suffix.specs.Search.{all_below}
use Rattle.suffix.specs.Order.{lex_less}

-- T-03: "Letters p apart inside it are equal", of the letters from s up to e
pub record HasPeriod (y : List ℕ) (s e p : ℕ) : Type 0 where
  pub equal : (t : ℕ) → s ≤ t → t + p < e → get_or y t 0 ≡ get_or y (t + p) 0

-- the same as a test (TestTellsPeriods in Claims.antt)
unfoldable pub has_period : List ℕ → (s e p : ℕ) → Bool
has_period y s e p = all_below (e - (s + p)) (λ k. eqb (get_or y (s + k) 0) (get_or y (s + k + p) 0))

-- ---- rotations

-- Document 003, section 1, where y is u and then v: "vu is said to be the |u|th rotation"; i is the length of u.
unfoldable pub rotation : List ℕ → ℕ → List ℕ
rotation y i = drop i y ++ take i y

-- no rotation of y is smaller than that from s
pub record SmallestRotation (y : List ℕ) (s : ℕ) : Type 0 where
  pub within : s < length y
  pub none_smaller : (k : ℕ) → k < length y → lex_less (rotation y k) (rotation y s) ≡ false

-- no two rotations of y are equal
pub record RotationsDiffer (y : List ℕ) : Type 0 where
  pub differ : (a b : ℕ) → a < b → b < length y → rotation y a ≢ rotation y b

-- ---- a string repeated without end

-- its letter k
abbrev pub cycled : List ℕ → ℕ → ℕ
cycled y k = get_or y (k % length y) 0

-- from i on and from j on it first differs at one of n letters, and there the letter from i on is the smaller
pub record CycledLess (y : List ℕ) (i j : ℕ) : Type 0 where
  pub at : ℕ
  pub within : at < length y
  pub agree : (k : ℕ) → k < at → cycled y (i + k) ≡ cycled y (j + k)
  pub smaller : cycled y (i + at) < cycled y (j + at)

-- it is the same again q letters further on
pub record RepeatsAfter (y : List ℕ) (q : ℕ) : Type 0 where
  pub some : 1 ≤ q
  pub again : (k : ℕ) → cycled y (k + q) ≡ cycled y k

-- and not before
pub record LeastRepeat (y : List ℕ) (q : ℕ) : Type 0 where
  pub repeats : RepeatsAfter y q
  pub least : (k : ℕ) → RepeatsAfter y k → q ≤ k

-- y is so many equal parts, of at most q letters
pub record Splits (y : List ℕ) (q : ℕ) : Type 0 where
  pub part : ℕ
  pub count : ℕ
  pub short : part ≤ q
  pub whole : part * count ≡ length y
  pub repeats : RepeatsAfter y part
