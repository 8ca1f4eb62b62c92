-- An answer that is one number, or a refusal: "A refusal carries its number and no other figure".
use Rattle.std.specs.Prelude.{ℕ, Result, Ok, Err}
use Rattle.refusal.specs.declared.Refusal.{Refusal}
use Rattle.refusal.specs.Numbers.{number_of, unless_refused}

pub data Figures : Type 0 where
  value : ℕ → Figures
  refused : ℕ → Figures

abbrev pub figures_of : Result ℕ Refusal → Figures
figures_of (Ok v) = value v
figures_of (Err k) = refused (number_of k)

-- the refusal where there is one, else the value
abbrev pub answered : ℕ → ℕ → Figures
answered number v = unless_refused number (value v) (refused number)
