-- Bytes put into a buffer.
use Rattle.std.specs.Prelude.{◌≡◌, List, ◌++◌, ℕ, ◌+◌, ◌-◌, length, take, drop}

-- the bytes t were put into a at x, which made b; they end at z, and what stands before and behind them is as it was
pub record Wrote (a b t : List ℕ) (x z : ℕ) : Type 0 where
  pub size : z ≡ x + length t
  pub text : take z b ≡ take x a ++ t
  pub rest : drop z b ≡ drop z a

-- so was as much of t as a has room for from x on
pub record Put (a b t : List ℕ) (x z : ℕ) : Type 0 where
  pub wrote : Wrote a b (take (length a - x) t) x z
