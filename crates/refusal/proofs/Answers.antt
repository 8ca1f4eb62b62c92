-- An answer that is one number or a refusal, case by case.
use mathlib.Core.Path.{◌≡◌, sym, ap, ◌∙◌}
use mathlib.Core.Bool.{Bool, true, false, true≢false, false≢true}
use Prim.Native.Nat.{ℕ}
use native.Mathlib.Omega.{arith}
use Rattle.suffix.proofs.Cases.{Same, same, other, same?}
use Rattle.refusal.specs.Numbers.{number_of}
use Rattle.refusal.proofs.Numbers.{positive, unless_taken, unless_refused_lem}
use Rattle.refusal.specs.declared.Refusal.{Refusal}
use Rattle.refusal.specs.Answers.{Figures, value, refused, figures_of, answered}
use Rattle.std.specs.Prelude.{Result, Err}

module _ (number v : ℕ) where
  pub answered_value : number ≡ 0 → value v ≡ answered number v
  answered_value e = sym (unless_taken number (value v) (refused number) e)

  pub answered_refused : (k : Refusal) → number_of k ≡ number → refused (number_of k) ≡ answered number v
  answered_refused k e = ap refused e ∙ sym (unless_refused_lem number (value v) (refused number) (λ z. omega (arith, positive k)))

abbrev is_value : Figures → Bool
is_value (value x) = true
is_value (refused x) = false

abbrev figure : Figures → ℕ
figure (value x) = x
figure (refused x) = x

-- what is answered where there is an answer
pub answered_told : (number v k : ℕ) → value k ≡ answered number v → (number ≡ 0) × (k ≡ v)
answered_told number v k h = go (same? number 0)
  where
    go : Same number 0 → (number ≡ 0) × (k ≡ v)
    go (same e) = (e, ap figure (h ∙ sym (answered_value number v e)))
    go (other e) = absurd (true≢false (ap is_value (h ∙ unless_refused_lem number (value v) (refused number) e)))

-- the same refusal of another question
pub refused_alike : (a : Result ℕ Refusal) (number v w : ℕ) {k : Refusal} → a ≡ Err k → figures_of a ≡ answered number v → figures_of a ≡ answered number w
refused_alike a number v w {k} e h = rw e (go (same? number 0) (rw e at h))
  where
    go : Same number 0 → refused (number_of k) ≡ answered number v → refused (number_of k) ≡ answered number w
    go (other q) h = h ∙ unless_refused_lem number (value v) (refused number) q ∙ sym (unless_refused_lem number (value w) (refused number) q)
    go (same q) h = absurd (false≢true (ap is_value (h ∙ sym (answered_value number v q))))
