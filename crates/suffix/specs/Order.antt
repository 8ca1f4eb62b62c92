-- Document 01, "Definitions": the order of suffixes, and their match.
use Rattle.std.specs.Prelude.{Bool, true, false, List, [], ◌∷◌, ℕ, suc, eqb, ltb, drop}

-- "A proper prefix is smaller than the longer string (document 004); otherwise the first differing letter decides."
unfoldable pub lex_less : List ℕ → List ℕ → Bool
lex_less s [] = false
lex_less [] (b ∷ t) = true
lex_less (a ∷ s) (b ∷ t) = elim (eqb a b) [ true ↦ lex_less s t | false ↦ ltb a b ]

-- the number of leading letters that two strings share
unfoldable pub lcp : List ℕ → List ℕ → ℕ
lcp [] t = 0
lcp (a ∷ s) [] = 0
lcp (a ∷ s) (b ∷ t) = elim (eqb a b) [ true ↦ suc (lcp s t) | false ↦ 0 ]

-- "The suffix at i is y[i] to y[n−1]."
abbrev pub suffix : List ℕ → ℕ → List ℕ
suffix y i = drop i y

-- the suffix at i is smaller than that at j
unfoldable pub suffix_less : List ℕ → ℕ → ℕ → Bool
suffix_less y i j = lex_less (suffix y i) (suffix y j)

-- "match(i, j) is the number of leading letters that the two suffixes share." The field's word is longest common extension.
unfoldable pub lce : List ℕ → ℕ → ℕ → ℕ
lce y i j = lcp (suffix y i) (suffix y j)
