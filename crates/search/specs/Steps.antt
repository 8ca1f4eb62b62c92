-- What the private functions of a search promise each other.
use Rattle.std.specs.Prelude.{◌≡◌, Bool, true, false, List, ℕ, zero, suc, ◌+◌, ◌-◌, ◌*◌, ◌≤◌, ℤ, pos, negsuc, length}
use Rattle.std.specs.Int.Signed.{mag}
use Rattle.refusal.specs.Conditions.{bit_of}
use Rattle.search.specs.Searching.{fell_at, ended_at, walk_on, walk_back}
use Rattle.search.specs.declared.Found.{Found}

abbrev pub is_minus : ℤ → Bool
is_minus (pos v) = false
is_minus (negsuc v) = true

-- the sum v, one more or one less
abbrev pub turned_sum : Bool → ℕ → ℤ
turned_sum true v = pos (v + 1)
turned_sum false zero = negsuc 0
turned_sum false (suc v) = pos v

-- what a search has found that fell, or came to its end, at bit k
abbrev pub found_at : ℕ → ℤ → Found
found_at k (pos v) = ended_at k v
found_at k (negsuc v) = fell_at k

-- what is left to find of a search on to bit e, at bit k with this sum
abbrev pub left_on : List ℕ → ℕ → ℕ → ℤ → Found
left_on t e k (pos v) = walk_on (bit_of t) (e - k) k v
left_on t e k (negsuc v) = fell_at k

-- and of one back to bit 0
abbrev pub left_back : List ℕ → ℕ → ℤ → Found
left_back t k (pos v) = walk_back (bit_of t) k v
left_back t k (negsuc v) = fell_at k

-- a search stands at bit k, and may go on to bit e; it has not fallen, and its sum is no more than the bits before
pub record ReadyOn (t : List ℕ) (k e : ℕ) (sum : ℤ) : Type 0 where
  pub low : sum ≡ pos (mag sum)
  pub small : mag sum ≤ k
  pub ahead : k ≤ e
  pub inside : e ≤ 8 * length t
  pub few : length t ≤ 250000

-- it set out from bit k with the first sum to go to bit e, and stands at a bit with the second; what is left to find is what was, to whichever bit from e on
pub record GoingOn (t : List ℕ) (k e : ℕ) (sum : ℤ) (at : ℕ) (came : ℤ) : Type 0 where
  pub ready : ReadyOn t at e came
  pub same : (f : ℕ) → e ≤ f → left_on t f at came ≡ left_on t f k sum

-- it went on to bit e, or to where it fell, and what is left to find is what was
pub record WentOn (t : List ℕ) (k e : ℕ) (sum : ℤ) (at : ℕ) (came : ℤ) : Type 0 where
  pub same : (f : ℕ) → e ≤ f → left_on t f at came ≡ left_on t f k sum
  pub small : mag came ≤ at
  pub within : at ≤ e
  pub ends : is_minus came ≡ false → at ≡ e

-- a search stands at bit k, and may go back to bit e; its sum is no more than the bits behind
pub record ReadyBack (t : List ℕ) (k e : ℕ) (sum : ℤ) : Type 0 where
  pub low : sum ≡ pos (mag sum)
  pub small : mag sum + k ≤ 8 * length t
  pub ahead : e ≤ k
  pub few : length t ≤ 250000

pub record GoingBack (t : List ℕ) (k e : ℕ) (sum : ℤ) (at : ℕ) (came : ℤ) : Type 0 where
  pub ready : ReadyBack t at e came
  pub same : left_back t at came ≡ left_back t k sum

pub record WentBack (t : List ℕ) (k e : ℕ) (sum : ℤ) (at : ℕ) (came : ℤ) : Type 0 where
  pub same : left_back t at came ≡ left_back t k sum
  pub small : mag came + at ≤ 8 * length t
  pub within : e ≤ at
  pub ends : is_minus came ≡ false → at ≡ e
