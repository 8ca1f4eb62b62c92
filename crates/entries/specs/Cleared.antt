-- A table that is cleared from a place on.
use Rattle.std.specs.Prelude.{List, [], ◌∷◌, ℕ, zero, suc}

-- t with v in every place from k on
unfoldable pub cleared_from : ℕ → ℕ → List ℕ → List ℕ
cleared_from k v [] = []
cleared_from zero v (x ∷ t) = v ∷ cleared_from zero v t
cleared_from (suc k) v (x ∷ t) = x ∷ cleared_from k v t
