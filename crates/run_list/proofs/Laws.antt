-- The claim of specs/Claims.antt.
use mathlib.Core.Path.{◌≡◌, sym, ◌∙◌}
use Prim.Native.Nat.{◌+◌}
use Rattle.suffix.proofs.Cases.{Same, same, other, same?}
use Rattle.run_list.specs.Inserted.{placed}
use Rattle.run_list.specs.Claims.{Put}
use Rattle.run_list.specs.Claims as claims
use Rattle.run_list.proofs.Inserting.{no_run, has_taken, taken, not_taken}
use Rattle.run_list.proofs.Shifting.{placed_put, put_nothing}

pub order_is_kept : claims.OrderIsKept
order_is_kept c r t u d H I E = go (same? r.period 0)
  where
    go : Same r.period 0 → Put c r t u d
    go (same e) =
        let X = not_taken t c r (no_run t c r e) in
        let a : u ≡ t = E.leaves ∙ sym X.leaves in
        let b : d ≡ c = E.answers ∙ sym X.answers in
        rw (a, b) (put_nothing c r t e)
    go (other e) =
        let X = taken t c r (has_taken t c r e H) in
        let a : u ≡ placed c t r = E.leaves ∙ sym X.leaves in
        let b : d ≡ c + 1 = E.answers ∙ sym X.answers in
        rw (a, b) (placed_put H e (I e))
