-- A search in bytes of brackets for where their running sum falls below 0: what it finds.
use Rattle.std.specs.Prelude.{Bool, true, false, ◌&&◌, List, ℕ, zero, suc, ◌-◌, ◌*◌, eqb, leb, length}
use Rattle.refusal.specs.Conditions.{bit_of}
use Rattle.search.specs.declared.Found.{Found}

-- the sum falls below 0 at bit k
abbrev pub fell_at : ℕ → Found
fell_at k = record { at = k; fell = true; closed = false }

-- the search comes to its end, bit k, with the sum v
abbrev pub ended_at : ℕ → ℕ → Found
ended_at k v = record { at = k; fell = false; closed = eqb v 0 }

-- the sum is lowered from v at bit k: it falls below 0, or the search goes on with one less
abbrev pub lowered : ℕ → (ℕ → Found) → ℕ → Found
lowered k on zero = fell_at k
lowered k on (suc v) = on v

-- on over m brackets, from bit k and the sum v: "+1 open, −1 close"
unfoldable pub walk_on : (ℕ → Bool) → ℕ → ℕ → ℕ → Found
walk_on g zero k v = ended_at k v
walk_on g (suc m) k v = elim (g k) [ true ↦ walk_on g m (suc k) (suc v) | false ↦ lowered (suc k) (walk_on g m (suc k)) v ]

-- back to bit 0, from bit k and the sum v: a closing adds 1, an opening takes 1 away
unfoldable pub walk_back : (ℕ → Bool) → ℕ → ℕ → Found
walk_back g zero v = ended_at 0 v
walk_back g (suc k) v = elim (g k) [ true ↦ lowered k (walk_back g k) v | false ↦ walk_back g k (suc v) ]

-- bit a does not come behind bit e, and bit e not behind the end of so many bytes; a tree has at most 250,000
abbrev pub is_within : ℕ → ℕ → ℕ → Bool
is_within bytes a e = leb bytes 250000 && leb e (8 * bytes) && leb a e

-- a search does not start where the bits are not so
abbrev pub not_started : ℕ → Found
not_started a = record { at = a; fell = false; closed = false }

-- from bit a of the bytes t on to bit e, from the sum 0
unfoldable pub forward_found : List ℕ → ℕ → ℕ → Found
forward_found t a e = elim (is_within (length t) a e) [ true ↦ walk_on (bit_of t) (e - a) a 0 | false ↦ not_started a ]

-- from bit a of the bytes t back to bit 0, from the sum 0
unfoldable pub backward_found : List ℕ → ℕ → Found
backward_found t a = elim (is_within (length t) 0 a) [ true ↦ walk_back (bit_of t) a 0 | false ↦ not_started a ]
