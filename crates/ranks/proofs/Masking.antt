-- Small letters and capitals: what is claimed of ranks.
use mathlib.Core.Path.{◌≡◌, refl, sym, ap, ap₂, ◌∙◌}
use mathlib.Core.Logic.{inl, inr}
use mathlib.Core.List.{List, [], ◌∷◌}
use Prim.Native.Nat.{ℕ, suc, ◌+◌, ◌-◌, ◌≤◌, ◌<◌}
use native.Mathlib.Omega.{arith}
use lib.ListN.{length, get_or}
use Rattle.ranks.specs.Ranks.{rank, ranks}
use Rattle.ranks.specs.Claims.{SmallRankAsCapitals, NotSmall, Unmasked, Masks, SameLetter, SameLetters, InCapitals}
use Rattle.ranks.proofs.Ranks.{Ranked, small, other, ranked, ranks_length, ranks_entry}

-- ---- one letter

pub rank_small : (letter : ℕ) → 97 ≤ letter → letter ≤ 122 → rank letter ≡ letter - 32
rank_small letter h g = go (ranked letter)
  where
    go : Ranked letter → rank letter ≡ letter - 32
    go (small a b p) = p
    go (other (inl a) p) = absurd (omega arith)
    go (other (inr a) p) = absurd (omega arith)

pub rank_other : (letter : ℕ) → NotSmall letter → rank letter ≡ letter
rank_other letter h = go h (ranked letter)
  where
    go : NotSmall letter → Ranked letter → rank letter ≡ letter
    go h (other a p) = p
    go (inl h) (small a b p) = absurd (omega arith)
    go (inr h) (small a b p) = absurd (omega arith)

pub small_as_capital : SmallRankAsCapitals
small_as_capital k h = (omega (arith, rank_small (97 + k) (omega arith) (omega arith)), rank_other (65 + k) (inl (omega arith)))

masked_rank : (a b : ℕ) → Masks a b → rank a ≡ rank b
masked_rank a b M = omega (arith, rank_small a (omega arith) (omega arith), rank_other b (inl (omega arith)))

pub same_rank : (a b : ℕ) → SameLetter a b → rank a ≡ rank b
same_rank a b (inl p) = ap rank p
same_rank a b (inr (inl M)) = masked_rank a b M
same_rank a b (inr (inr M)) = sym (masked_rank b a M)

small_other : (a b : ℕ) → 97 ≤ a → a ≤ 122 → rank a ≡ a - 32 → rank b ≡ b → rank a ≡ rank b → Masks a b
small_other a b h g p q e = record { letter = a - 97; below = omega arith; is_small = omega arith; is_capital = omega arith }

pub rank_tells : (a b : ℕ) → rank a ≡ rank b → SameLetter a b
rank_tells a b e = go (ranked a) (ranked b)
  where
    go : Ranked a → Ranked b → SameLetter a b
    go (small h g p) (small i j q) = inl (omega arith)
    go (small h g p) (other i q) = inr (inl (small_other a b h g p q e))
    go (other h p) (small i j q) = inr (inr (small_other b a i j q p (sym e)))
    go (other h p) (other i q) = inl (omega arith)

-- the rank of a letter is that letter, and not small
rank_is_same : (letter : ℕ) → SameLetter letter (rank letter) × NotSmall (rank letter)
rank_is_same letter = go (ranked letter)
  where
    go : Ranked letter → SameLetter letter (rank letter) × NotSmall (rank letter)
    go (small h g p) =
        (inr (inl (record { letter = letter - 97; below = omega arith; is_small = omega arith; is_capital = omega arith })), inl (omega arith))
    go (other (inl h) p) = (inl (sym p), inl (omega arith))
    go (other (inr h) p) = (inl (sym p), inr (omega arith))

-- ---- all letters

pub unmasked_ranks : (letters : List ℕ) → Unmasked letters → ranks letters ≡ letters
unmasked_ranks [] U = refl
unmasked_ranks (x ∷ letters) U = ap₂ ◌∷◌ (rank_other x (U 0 (omega arith))) (unmasked_ranks letters (λ i h. U (suc i) (omega arith)))

pub same_ranks : (letters others : List ℕ) → SameLetters letters others → ranks letters ≡ ranks others
same_ranks [] [] S = refl
same_ranks [] (y ∷ others) S = absurd (omega (arith, S.lengths))
same_ranks (x ∷ letters) [] S = absurd (omega (arith, S.lengths))
same_ranks (x ∷ letters) (y ∷ others) S =
    ap₂ ◌∷◌ (same_rank x y (S.at 0 (omega arith)))
    (same_ranks letters others (record { lengths = omega (arith, S.lengths); at = λ i h. S.at (suc i) (omega arith) }))

pub ranks_tell : (letters others : List ℕ) → ranks letters ≡ ranks others → SameLetters letters others
ranks_tell letters others e =
    let lengths : length letters ≡ length others = sym (ranks_length letters) ∙ ap length e ∙ ranks_length others in
    record {
      lengths = lengths;
      at = λ i h. rank_tells _ _ (sym (ranks_entry letters i h) ∙ ap (λ y. get_or y i 0) e ∙ ranks_entry others i (omega (arith, lengths)));
    }

pub ranks_capitals : (letters : List ℕ) → InCapitals letters (ranks letters) × (ranks (ranks letters) ≡ ranks letters)
ranks_capitals letters = (record { same = record { lengths = sym (ranks_length letters); at = at }; unmasked = unmasked }, unmasked_ranks (ranks letters) unmasked)
  where
    at : (i : ℕ) → i < length letters → SameLetter (get_or letters i 0) (get_or (ranks letters) i 0)
    at i h = rw (ranks_entry letters i h) (rank_is_same (get_or letters i 0)).0

    unmasked : Unmasked (ranks letters)
    unmasked i h = let g : i < length letters = omega (arith, ranks_length letters) in rw (ranks_entry letters i g) (rank_is_same (get_or letters i 0)).1
