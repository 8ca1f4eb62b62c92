-- Where the bits lie in order a search is a walk, and elsewhere it does not start.
use mathlib.Core.Path.{◌≡◌, sym}
use mathlib.Core.Bool.{true, ◌&&◌}
use mathlib.Core.List.{List}
use Prim.Native.Nat.{ℕ, ◌-◌, ◌*◌, ◌≤◌}
use lib.Dec.{leb}
use lib.ListN.{length}
use borrow.Author.Tests.{leb-true, le-leb}
use Rattle.suffix.proofs.Cases.{both_true}
use Rattle.refusal.specs.Conditions.{bit_of}
use Rattle.search.specs.Searching.{walk_on, walk_back, is_within, forward_found, backward_found}

pub record Within (bytes a e : ℕ) : Type 0 where
  pub few : bytes ≤ 250000
  pub inside : e ≤ 8 * bytes
  pub ordered : a ≤ e

pub within : (bytes a e : ℕ) → is_within bytes a e ≡ true → Within bytes a e
within bytes a e h =
    let p = both_true (leb bytes 250000 && leb e (8 * bytes)) (leb a e) h in
    let q = both_true (leb bytes 250000) (leb e (8 * bytes)) p.0 in
    record { few = leb-true bytes 250000 q.0; inside = leb-true e (8 * bytes) q.1; ordered = leb-true a e p.1 }

is_within_lem : (bytes a e : ℕ) → Within bytes a e → is_within bytes a e ≡ true
is_within_lem bytes a e W = rw (le-leb bytes 250000 W.few, le-leb e (8 * bytes) W.inside, le-leb a e W.ordered)

module _ (t : List ℕ) (a e : ℕ) where
  pub forward_walks : is_within (length t) a e ≡ true → walk_on (bit_of t) (e - a) a 0 ≡ forward_found t a e
  unfolding forward_found
  forward_walks h = rw (h, forward_found)

  -- what a search finds that is asked for in a tree
  pub forward_is : Within (length t) a e → forward_found t a e ≡ walk_on (bit_of t) (e - a) a 0
  forward_is W = sym (forward_walks (is_within_lem (length t) a e W))

module _ (t : List ℕ) (a : ℕ) where
  pub backward_walks : is_within (length t) 0 a ≡ true → walk_back (bit_of t) a 0 ≡ backward_found t a
  unfolding backward_found
  backward_walks h = rw (h, backward_found)

  pub backward_is : Within (length t) 0 a → backward_found t a ≡ walk_back (bit_of t) a 0
  backward_is W = sym (backward_walks (is_within_lem (length t) 0 a W))
