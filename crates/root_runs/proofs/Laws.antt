-- The claim of specs/Claims.antt.
use mathlib.Core.Path.{refl, sym}
use lib.ListN.{length}
use Rattle.root_runs.specs.Claims as claims
use Rattle.root_runs.proofs.Bounds.{within_yes, both_within}

pub within_as_reported : claims.WithinAsReported
within_as_reported y i j m k l few a b = sym (both_within y i j m k l refl few (within_yes (length y) i j m a) (within_yes (length y) i k l b) refl)
