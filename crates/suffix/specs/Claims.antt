-- What is claimed of the definitions. Each claim is a type; the law of its name, in small letters with `_`, proves it in proofs/Laws.antt.
use Rattle.std.specs.Prelude.{◌≡◌, ◌≢◌, ◌⊎◌, true, false, List, ℕ, suc, ◌+◌, ◌-◌, ◌*◌, ◌≤◌, ◌<◌, ltb, length, get_or}
use Rattle.suffix.specs.Search.{tabulate}
use Rattle.suffix.specs.Order.{lex_less, suffix_less, lce}
use Rattle.suffix.specs.Nearest.{previous, next, previous_match, next_match}
use Rattle.suffix.specs.Rows.{previous_after, next_after, previous_match_after, next_match_after, tables_after, is_pair}
use Rattle.suffix.specs.Lyndon.{is_lyndon, longest_lyndon}
use Rattle.suffix.specs.Periods.{HasPeriod, has_period, rotation, cycled, CycledLess, RepeatsAfter, LeastRepeat, Splits, SmallestRotation, RotationsDiffer}
use Rattle.suffix.specs.Tree.{tree_after, rows_write}

-- ---- the order of suffixes, the empty one at n among them

-- "No two suffixes are equal.": a strict and total order
pub record Ordered (y : List ℕ) : Type 0 where
  pub irreflexive : (i : ℕ) → suffix_less y i i ≡ false
  pub transitive : (i j k : ℕ) → suffix_less y i j ≡ true → suffix_less y j k ≡ true → suffix_less y i k ≡ true
  pub total : (i j : ℕ) → i ≢ j → i ≤ length y → j ≤ length y → (suffix_less y i j ≡ true) ⊎ (suffix_less y j i ≡ true)

abbrev pub SuffixesAreOrdered : Type 0
SuffixesAreOrdered = (y : List ℕ) → Ordered y

-- by the letters: they agree below the match m, and differ at m or end there; the end is smaller than any letter
pub record ByLetters (y : List ℕ) (i j m : ℕ) : Type 0 where
  pub inside : (i + m ≤ length y) × (j + m ≤ length y)
  pub agree : (k : ℕ) → k < m → get_or y (i + k) 0 ≡ get_or y (j + k) 0
  pub letters : i + m < length y → j + m < length y → (get_or y (i + m) 0 ≢ get_or y (j + m) 0) × (suffix_less y i j ≡ ltb (get_or y (i + m) 0) (get_or y (j + m) 0))
  pub first_ends : i + m ≡ length y → suffix_less y i j ≡ true
  pub second_ends : j + m ≡ length y → suffix_less y i j ≡ false

abbrev pub LettersDecide : Type 0
LettersDecide = (y : List ℕ) (i j : ℕ) → i ≢ j → i ≤ length y → j ≤ length y → ByLetters y i j (lce y i j)

-- ---- the nearest smaller suffixes

-- "the greatest j < i whose suffix is smaller than that at i"
pub record IsPrevious (y : List ℕ) (i j : ℕ) : Type 0 where
  pub before : j < i
  pub smaller : suffix_less y j i ≡ true
  pub greatest : (k : ℕ) → k < i → suffix_less y k i ≡ true → k ≤ j

-- "the least j > i with a smaller suffix"
pub record IsNext (y : List ℕ) (i j : ℕ) : Type 0 where
  pub after : i < j
  pub below : j < length y
  pub smaller : suffix_less y j i ≡ true
  pub least : (k : ℕ) → i < k → k < length y → suffix_less y k i ≡ true → j ≤ k

abbrev pub PreviousIsGreatest : Type 0
PreviousIsGreatest =
    (y : List ℕ) (i : ℕ) → i < length y
    → IsPrevious y i (previous y i) ⊎ ((previous y i ≡ length y) × ((k : ℕ) → k < i → suffix_less y k i ≡ false))

abbrev pub NextIsLeast : Type 0
NextIsLeast =
    (y : List ℕ) (i : ℕ) → i < length y
    → IsNext y i (next y i) ⊎ ((next y i ≡ length y) × ((k : ℕ) → i < k → k < length y → suffix_less y k i ≡ false))

-- each suffix strictly between l and r is larger than both
pub record LargerBetween (y : List ℕ) (l r : ℕ) : Type 0 where
  pub than_left : (k : ℕ) → l < k → k < r → suffix_less y l k ≡ true
  pub than_right : (k : ℕ) → l < k → k < r → suffix_less y r k ≡ true

-- next[l] = r or previous[r] = l, exactly where all between is larger
abbrev pub PairsAreEdges : Type 0
PairsAreEdges =
    (y : List ℕ) (l r : ℕ) → l < r → r < length y → (is_pair y l r ≡ true → LargerBetween y l r) × (LargerBetween y l r → is_pair y l r ≡ true)

-- Document 004, lemma 5. The end, at n, is document 004's sentinel $; its sentinel # before the string has no position here, nor in
-- the two claims below, where previous[r] = n stands for it.
abbrev pub PairsDoNotCross : Type 0
PairsDoNotCross =
    (y : List ℕ) (a b c d : ℕ) → a < b → b < c → c < d → d ≤ length y → is_pair y a c ≡ true → is_pair y b d ≡ true → ⊥

-- l is s, or previous[s], or previous of that, and so on
pub data Chain (y : List ℕ) : ℕ → ℕ → Type 0 where
  here : {s : ℕ} → Chain y s s
  up : {s l : ℕ} → previous y s < s → Chain y (previous y s) l → Chain y s l

-- document 004, lemma 6 (i), for r = s + 1 up to n
abbrev pub PreviousIsOnTheChain : Type 0
PreviousIsOnTheChain = (y : List ℕ) (s : ℕ) → suc s ≤ length y → (previous y (suc s) ≡ length y) ⊎ Chain y s (previous y (suc s))

-- document 004, lemma 6 (ii), for r = s + 1 up to n: next[l] = r exactly for the l of the chain from r - 1 that are above previous[r]
abbrev pub NextIsOnTheChain : Type 0
NextIsOnTheChain =
    (y : List ℕ) (s l : ℕ) → suc s ≤ length y → l ≤ s
    → (next y l ≡ suc s → Chain y s l × ((previous y (suc s) ≡ length y) ⊎ (previous y (suc s) < l)))
    × (Chain y s l → (previous y (suc s) ≡ length y) ⊎ (previous y (suc s) < l) → next y l ≡ suc s)

-- document 004, lemma 7, (i) to (iii): l = previous[k] and r = next[k], neither of them none
pub record MatchOfThree (y : List ℕ) (l k r : ℕ) : Type 0 where
  pub equal : lce y l k ≡ lce y k r → (lce y k r ≤ lce y l r) × (is_pair y l r ≡ true)
  pub less : lce y l k < lce y k r → (lce y l r ≡ lce y l k) × (previous y r ≡ l)
  pub more : lce y k r < lce y l k → (lce y l r ≡ lce y k r) × (next y l ≡ r)

abbrev pub MatchesOfThree : Type 0
MatchesOfThree =
    (y : List ℕ) (k : ℕ) → k < length y → previous y k ≢ length y → next y k ≢ length y → MatchOfThree y (previous y k) k (next y k)

-- ---- the tables after R rows

-- "Where R = n this is the full definition."
abbrev pub AllRowsGiveAllEntries : Type 0
AllRowsGiveAllEntries =
    (y : List ℕ)
    → tables_after y (length y)
    ≡ record {
      previous = tabulate (length y) (previous y);
      next = tabulate (length y) (next y);
      previous_match = tabulate (length y) (previous_match y);
      next_match = tabulate (length y) (next_match y);
    }

-- "Row i settles previous[i] and each next entry equal to i.": with row r, entry i becomes exact, or it stays as it was
pub record RowSettles (y : List ℕ) (r i : ℕ) : Type 0 where
  pub own_previous : i ≡ r → (previous_after y (suc r) i ≡ previous y i) × (previous_match_after y (suc r) i ≡ previous_match y i)
  pub own_next : next y i ≡ r → (next_after y (suc r) i ≡ next y i) × (next_match_after y (suc r) i ≡ next_match y i)
  pub other_previous : i ≢ r → (previous_after y r i ≡ previous_after y (suc r) i) × (previous_match_after y r i ≡ previous_match_after y (suc r) i)
  pub other_next : next y i ≢ r → (next_after y r i ≡ next_after y (suc r) i) × (next_match_after y r i ≡ next_match_after y (suc r) i)

abbrev pub RowsSettleTheirOwn : Type 0
RowsSettleTheirOwn = (y : List ℕ) (r i : ℕ) → i < length y → RowSettles y r i

-- ---- Lyndon words

-- "The longest Lyndon word from i has length next[i] − i (documents 000 and 004)."
abbrev pub LongestIsNext : Type 0
LongestIsNext = (y : List ℕ) (i : ℕ) → i < length y → longest_lyndon y i ≡ next y i - i

-- ---- periods and rotations

abbrev pub TestTellsPeriods : Type 0
TestTellsPeriods = (y : List ℕ) (s e p : ℕ) → (has_period y s e p ≡ true → HasPeriod y s e p) × (HasPeriod y s e p → has_period y s e p ≡ true)

-- rotation i is n letters from i on of y repeated without end, and itself repeated without end it is all from i on
abbrev pub RotationsAreCycled : Type 0
RotationsAreCycled =
    (y : List ℕ) (i : ℕ) → i ≤ length y
    → (rotation y i ≡ tabulate (length y) (λ k. cycled y (i + k))) × ((k : ℕ) → cycled (rotation y i) k ≡ cycled y (i + k))

abbrev pub RotationsCompare : Type 0
RotationsCompare =
    (y : List ℕ) (i j : ℕ) → i ≤ length y → j ≤ length y
    → (lex_less (rotation y i) (rotation y j) ≡ true → CycledLess y i j) × (CycledLess y i j → lex_less (rotation y i) (rotation y j) ≡ true)

-- two rotations are equal exactly if y repeated without end is the same again as far on as they are apart
abbrev pub EqualRotationsRepeat : Type 0
EqualRotationsRepeat =
    (y : List ℕ) (a b : ℕ) → a < b → b ≤ length y
    → (rotation y a ≡ rotation y b → RepeatsAfter y (b - a)) × (RepeatsAfter y (b - a) → rotation y a ≡ rotation y b)

abbrev pub RepeatsSplit : Type 0
RepeatsSplit = (y : List ℕ) (q : ℕ) → 1 ≤ length y → RepeatsAfter y q → Splits y q

abbrev pub SomeRotationIsSmallest : Type 0
SomeRotationIsSmallest = (y : List ℕ) → 1 ≤ length y → (s : ℕ) × SmallestRotation y s

-- the smallest rotation begins with the part that it repeats: its longest Lyndon word there
abbrev pub LongestWordIsLeastRepeat : Type 0
LongestWordIsLeastRepeat = (y : List ℕ) (s : ℕ) → SmallestRotation y s → LeastRepeat y (longest_lyndon (rotation y s) 0)

-- where no two rotations are equal, the smallest is smaller than each other one, so that there is one only, and it is a Lyndon word
pub record AloneSmallest (y : List ℕ) (s : ℕ) : Type 0 where
  pub smaller : (k : ℕ) → k < length y → k ≢ s → lex_less (rotation y s) (rotation y k) ≡ true
  pub only : (t : ℕ) → SmallestRotation y t → t ≡ s
  pub lyndon : is_lyndon (rotation y s) ≡ true

abbrev pub SmallestRotationIsLyndon : Type 0
SmallestRotationIsLyndon = (y : List ℕ) (s : ℕ) → RotationsDiffer y → SmallestRotation y s → AloneSmallest y s

-- ---- the tree

-- the rows write the tree from left to right, whatever R
abbrev pub RowsWriteTheTree : Type 0
RowsWriteTheTree = (y : List ℕ) (R : ℕ) → R ≤ length y → rows_write y 0 R ≡ tree_after y R

-- "in its first 2R bits"
abbrev pub TreeHasTwoBitsARow : Type 0
TreeHasTwoBitsARow = (y : List ℕ) (R : ℕ) → R ≤ length y → length (tree_after y R) ≡ 2 * R
