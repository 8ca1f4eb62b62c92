-- The searches, counts and tables that the definitions are written with.
use Rattle.std.specs.Prelude.{Bool, true, false, List, [], ◌∷◌, ℕ, zero, suc, ◌+◌, max}

-- the greatest j < n with g j, or none where there is no such j
unfoldable pub greatest_below : ℕ → (ℕ → Bool) → ℕ → ℕ
greatest_below zero g none = none
greatest_below (suc j) g none = elim (g j) [ true ↦ j | false ↦ greatest_below j g none ]

-- the least j with g j of the t numbers from i on, or none where there is no such j
unfoldable pub least_from : ℕ → ℕ → (ℕ → Bool) → ℕ → ℕ
least_from i zero g none = none
least_from i (suc t) g none = elim (g i) [ true ↦ i | false ↦ least_from (suc i) t g none ]

-- g j for each j < n
unfoldable pub all_below : ℕ → (ℕ → Bool) → Bool
all_below zero g = true
all_below (suc j) g = elim (g j) [ true ↦ all_below j g | false ↦ false ]

-- g j for some j < n
unfoldable pub any_below : ℕ → (ℕ → Bool) → Bool
any_below zero g = false
any_below (suc j) g = elim (g j) [ true ↦ true | false ↦ any_below j g ]

-- the number of j < n with g j
unfoldable pub count_below : ℕ → (ℕ → Bool) → ℕ
count_below zero g = 0
count_below (suc j) g = elim (g j) [ true ↦ suc (count_below j g) | false ↦ count_below j g ]

-- g 0 + .. + g (n - 1)
unfoldable pub sum_below : ℕ → (ℕ → ℕ) → ℕ
sum_below zero g = 0
sum_below (suc j) g = sum_below j g + g j

-- the greatest of g 0, .., g (n - 1), or 0 where n is 0
unfoldable pub maximum_below : ℕ → (ℕ → ℕ) → ℕ
maximum_below zero g = 0
maximum_below (suc j) g = max (g j) (maximum_below j g)

-- g i, g (i + 1), .., t of them
unfoldable pub tabulate_from : ℕ → ℕ → (ℕ → ℕ) → List ℕ
tabulate_from i zero g = []
tabulate_from i (suc t) g = g i ∷ tabulate_from (suc i) t g

-- the table g 0, .., g (n - 1)
unfoldable pub tabulate : ℕ → (ℕ → ℕ) → List ℕ
tabulate n g = tabulate_from 0 n g
