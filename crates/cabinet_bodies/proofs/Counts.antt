-- What an iterator finds among the letter counts.
use mathlib.Core.Path.{◌≡◌, refl, sym, ap, ◌∙◌}
use mathlib.Core.Bool.{false, true≢false}
use mathlib.Core.List.{List, [], ◌∷◌}
use Prim.Native.Nat.{ℕ, ◌<◌}
use native.Mathlib.Omega.{arith}
use lib.ListN.{length}
use lib.Dec.{ltb}
use Rattle.std.specs.List.{list_any, sum_by}
use Rattle.std.proofs.lemmas.List.Sums.{sum_by-cons}
use Rattle.std.proofs.lemmas.List.{get_or_default}
use Rattle.std.proofs.lemmas.List.Folds.{Any-from_list_any, list_any_at}
use Rattle.suffix.proofs.Cases.{Test, holds, fails, test}
use Rattle.suffix.proofs.Search.{any_true, any_false}
use Rattle.refusal.specs.Conditions.{too_long}
use Rattle.suffix.specs.Search.{sum_below}
use Rattle.suffix.specs.Tree.{tree_length}
use Rattle.cabinet.specs.File.{body_bytes, count_in}
use Rattle.cabinet.specs.Refusals.{any_too_long}
use Rattle.cabinet.proofs.Contents.{bytes_first}

-- whether one is too long
pub any_listed : (counts : List ℕ) → list_any (ltb 1000000) counts ≡ any_too_long counts
any_listed counts = go (test (list_any (ltb 1000000) counts))
  where
    go : Test (list_any (ltb 1000000) counts) → list_any (ltb 1000000) counts ≡ any_too_long counts
    go (holds e) = let a = Any-from_list_any (ltb 1000000) counts e in e ∙ sym (any_true (λ k. too_long (count_in counts k)) (length counts) a.0 a.2 (ap (ltb 1000000) (get_or_default counts a.0 0 a.1 a.2 ∙ a.3) ∙ a.4))
    go (fails e) = e ∙ sym (any_false (λ k. too_long (count_in counts k)) (length counts) (λ k h. unpassed k h (test (ltb 1000000 (count_in counts k)))))
      where
        unpassed : (k : ℕ) → k < length counts → Test (ltb 1000000 (count_in counts k)) → ltb 1000000 (count_in counts k) ≡ false
        unpassed k h (holds w) = absurd (true≢false (sym (list_any_at (ltb 1000000) counts k 0 h w) ∙ e))
        unpassed k h (fails w) = w

-- the bytes of all bodies, summed
pub bytes_summed : (counts : List ℕ) → sum_by tree_length counts ≡ body_bytes (count_in counts) (length counts)
unfolding sum_below
bytes_summed [] = refl
bytes_summed (n ∷ counts) = omega (arith, sum_by-cons tree_length n counts, bytes_summed counts, bytes_first (count_in (n ∷ counts)) (length counts))
