-- Lists of brackets in their order, and what is chosen of them.
use mathlib.Core.Path.{◌≡◌, refl, sym, ap, ◌∙◌}
use mathlib.Core.Bool.{Bool, true, false}
use mathlib.Core.List.{List, [], ◌∷◌, ◌++◌, map}
use Prim.Native.Nat.{ℕ, zero, suc, ◌+◌, ◌-◌, ◌^◌, ◌<◌}
use native.Mathlib.Nat.{two-pow-succ}
use native.Mathlib.Omega.{arith}
use lib.ListN.{length, get_or, drop, length-append, length-map, get_or-append}
use lib.Seq.{get_or-append-add, drop-append-le, drop-append-add}
use Rattle.suffix.proofs.Cases.{Tri, lt, eq, gt, tri, Test, holds, fails, test}
use Rattle.all_trees.specs.Trees.{chosen, all_brackets, before}
use Rattle.all_trees.proofs.Lists.{chosen_append, chosen_none, chosen_all, chosen_map, map_entry, map_drop}

-- those that begin with an opening, then those that begin with a closing
abbrev pub both : List (List Bool) → List (List Bool) → List (List Bool)
both A B = map (true ∷◌) A ++ map (false ∷◌) B

pub chosen_brackets : (g : List Bool → Bool) (m : ℕ) → chosen g (all_brackets (suc m)) ≡ both (chosen (λ w. g (true ∷ w)) (all_brackets m)) (chosen (λ w. g (false ∷ w)) (all_brackets m))
unfolding all_brackets
chosen_brackets g m =
    chosen_append g (map (true ∷◌) (all_brackets m)) (map (false ∷◌) (all_brackets m))
    ∙ rw (chosen_map g (true ∷◌) (all_brackets m), chosen_map g (false ∷◌) (all_brackets m))

pub both_length : (A B : List (List Bool)) → length (both A B) ≡ length A + length B
both_length A B = length-append (map (true ∷◌) A) (map (false ∷◌) B) ∙ omega (arith, length-map A (true ∷◌), length-map B (false ∷◌))

both_first : (A B : List (List Bool)) (k : ℕ) → k < length A → get_or (both A B) k [] ≡ true ∷ get_or A k []
both_first A B k h =
    get_or-append (map (true ∷◌) A) (map (false ∷◌) B) [] k (omega (arith, length-map A (true ∷◌))) ∙ map_entry (true ∷◌) [] [] A k h

both_second : (A B : List (List Bool)) (k : ℕ) → k < length B → get_or (both A B) (length A + k) [] ≡ false ∷ get_or B k []
both_second A B k h =
    ap (λ i. get_or (both A B) (i + k) []) (sym (length-map A (true ∷◌)))
    ∙ get_or-append-add (map (true ∷◌) A) (map (false ∷◌) B) k []
    ∙ map_entry (false ∷◌) [] [] B k h

-- an entry of both is one of the first or one of the second
data Part (A : List (List Bool)) (k : ℕ) : Type 0 where
  in_first : k < length A → Part A k
  in_second : (j : ℕ) → k ≡ length A + j → Part A k

part : (A : List (List Bool)) (k : ℕ) → Part A k
part A k = go (tri k (length A))
  where
    go : Tri k (length A) → Part A k
    go (lt h) = in_first h
    go (eq h) = in_second 0 (omega arith)
    go (gt h) = in_second (k - length A) (omega arith)

pub all_count : (m : ℕ) → length (all_brackets m) ≡ 2 ^ m
unfolding all_brackets
all_count zero = refl
all_count (suc m) = both_length (all_brackets m) (all_brackets m) ∙ omega (arith, all_count m, two-pow-succ m)

-- ---- behind a list of brackets

pub behind_opening : (v : List Bool) (A B : List (List Bool)) → chosen (before (true ∷ v)) (both A B) ≡ both (chosen (before v) A) B
unfolding before
behind_opening v A B =
    chosen_append (before (true ∷ v)) (map (true ∷◌) A) (map (false ∷◌) B)
    ∙ rw (chosen_map (before (true ∷ v)) (true ∷◌) A, chosen_map (before (true ∷ v)) (false ∷◌) B, chosen_all (λ w. before (true ∷ v) (false ∷ w)) B (λ w. refl))

pub behind_closing : (v : List Bool) (A B : List (List Bool)) → chosen (before (false ∷ v)) (both A B) ≡ map (false ∷◌) (chosen (before v) B)
unfolding before
behind_closing v A B =
    chosen_append (before (false ∷ v)) (map (true ∷◌) A) (map (false ∷◌) B)
    ∙ rw (chosen_map (before (false ∷ v)) (true ∷◌) A, chosen_map (before (false ∷ v)) (false ∷◌) B, chosen_none (λ w. before (false ∷ v) (true ∷ w)) A (λ w. refl))

-- behind each stands what comes later in the list
Rests : List (List Bool) → Type 0
Rests l = (k : ℕ) → k < length l → chosen (before (get_or l k [])) l ≡ drop (suc k) l

both_rests : (A B : List (List Bool)) → Rests A → Rests B → Rests (both A B)
unfolding Rests
both_rests A B a b k h = go (part A k)
  where
    go : Part A k → chosen (before (get_or (both A B) k [])) (both A B) ≡ drop (suc k) (both A B)
    go (in_first w) =
        ap (λ v. chosen (before v) (both A B)) (both_first A B k w)
        ∙ behind_opening (get_or A k []) A B
        ∙ ap (λ l. both l B) (a k w)
        ∙ sym (drop-append-le (suc k) (map (true ∷◌) A) (map (false ∷◌) B) (omega (arith, length-map A (true ∷◌))) ∙ ap (◌++ map (false ∷◌) B) (map_drop (true ∷◌) A (suc k)))
    go (in_second j z) =
        let w : j < length B = omega (arith, both_length A B) in
        let y : suc k ≡ length (map (true ∷◌) A) + suc j = omega (arith, length-map A (true ∷◌)) in
        ap (λ v. chosen (before v) (both A B)) (ap (λ i. get_or (both A B) i []) z ∙ both_second A B j w)
        ∙ behind_closing (get_or B j []) A B
        ∙ ap (map (false ∷◌)) (b j w)
        ∙ sym (ap (λ i. drop i (both A B)) y ∙ drop-append-add (map (true ∷◌) A) (map (false ∷◌) B) (suc j) ∙ map_drop (false ∷◌) B (suc j))

pub all_rest : (m : ℕ) (g : List Bool → Bool) (k : ℕ) → k < length (chosen g (all_brackets m)) → chosen (before (get_or (chosen g (all_brackets m)) k [])) (chosen g (all_brackets m)) ≡ drop (suc k) (chosen g (all_brackets m))
unfolding all_brackets chosen before Rests
all_rest zero g k h = go (test (g [])) k h
  where
    go : Test (g []) → (k : ℕ) → k < length (chosen g ([] ∷ [])) → chosen (before (get_or (chosen g ([] ∷ [])) k [])) (chosen g ([] ∷ [])) ≡ drop (suc k) (chosen g ([] ∷ []))
    go (holds e) zero w = simp (e, chosen)
    go (holds e) (suc j) w = absurd (let z : length (chosen g ([] ∷ [])) ≡ 1 = rw (e, chosen) in omega arith)
    go (fails e) j w = absurd (let z : length (chosen g ([] ∷ [])) ≡ 0 = rw (e, chosen) in omega arith)
all_rest (suc m) g k h =
    rw (chosen_brackets g m)
    (both_rests (chosen (λ w. g (true ∷ w)) (all_brackets m)) (chosen (λ w. g (false ∷ w)) (all_brackets m)) (all_rest m (λ w. g (true ∷ w))) (all_rest m (λ w. g (false ∷ w))) k
    (rw (chosen_brackets g m) at h))

-- ---- each list of m brackets is among the all_brackets of m

pub all_each : (m : ℕ) (g : List Bool → Bool) (w : List Bool) → length w ≡ m → g w ≡ true → (k : ℕ) × (k < length (chosen g (all_brackets m))) × (get_or (chosen g (all_brackets m)) k [] ≡ w)
unfolding all_brackets chosen
all_each zero g [] e h = rw (h, chosen) (0, omega arith, refl)
all_each zero g (b ∷ w) e h = absurd (omega arith)
all_each (suc m) g [] e h = absurd (omega arith)
all_each (suc m) g (true ∷ w) e h =
    let A = chosen (λ w. g (true ∷ w)) (all_brackets m) in
    let B = chosen (λ w. g (false ∷ w)) (all_brackets m) in
    let r = all_each m (λ w. g (true ∷ w)) w (omega arith) h in
    rw (chosen_brackets g m) (r.0, omega (arith, r.1, both_length A B), both_first A B r.0 r.1 ∙ ap (true ∷◌) r.2)
all_each (suc m) g (false ∷ w) e h =
    let A = chosen (λ w. g (true ∷ w)) (all_brackets m) in
    let B = chosen (λ w. g (false ∷ w)) (all_brackets m) in
    let r = all_each m (λ w. g (false ∷ w)) w (omega arith) h in
    rw (chosen_brackets g m) (length A + r.0, omega (arith, r.1, both_length A B), both_second A B r.0 r.1 ∙ ap (false ∷◌) r.2)

pub all_length : (m : ℕ) (g : List Bool → Bool) (k : ℕ) → k < length (chosen g (all_brackets m)) → length (get_or (chosen g (all_brackets m)) k []) ≡ m
unfolding all_brackets chosen
all_length zero g k h = go (test (g [])) k h
  where
    go : Test (g []) → (k : ℕ) → k < length (chosen g ([] ∷ [])) → length (get_or (chosen g ([] ∷ [])) k []) ≡ 0
    go (holds e) zero w = simp (e, chosen)
    go (holds e) (suc j) w = absurd (let z : length (chosen g ([] ∷ [])) ≡ 1 = rw (e, chosen) in omega arith)
    go (fails e) j w = absurd (let z : length (chosen g ([] ∷ [])) ≡ 0 = rw (e, chosen) in omega arith)
all_length (suc m) g k h = go (part A k) (λ j w. all_length m (λ w. g (true ∷ w)) j w) (λ j w. all_length m (λ w. g (false ∷ w)) j w)
  where
    A : List (List Bool)
    A = chosen (λ w. g (true ∷ w)) (all_brackets m)

    B : List (List Bool)
    B = chosen (λ w. g (false ∷ w)) (all_brackets m)

    go : Part A k → ((j : ℕ) → j < length A → length (get_or A j []) ≡ m) → ((j : ℕ) → j < length B → length (get_or B j []) ≡ m) → length (get_or (chosen g (all_brackets (suc m))) k []) ≡ suc m
    go (in_first w) a b = rw (chosen_brackets g m) (ap length (both_first A B k w) ∙ ap suc (a k w))
    go (in_second j z) a b =
        let w : j < length B = omega (arith, both_length A B, ap length (chosen_brackets g m)) in
        rw (chosen_brackets g m) (ap length (ap (λ i. get_or (both A B) i []) z ∙ both_second A B j w) ∙ ap suc (b j w))

-- two choices that agree on lists of m brackets
pub all_same : (m : ℕ) (g h : List Bool → Bool) → ((w : List Bool) → length w ≡ m → g w ≡ h w) → chosen g (all_brackets m) ≡ chosen h (all_brackets m)
unfolding all_brackets chosen
all_same zero g h q = rw (q [] refl)
all_same (suc m) g h q =
    chosen_brackets g m
    ∙ rw (all_same m (λ w. g (true ∷ w)) (λ w. h (true ∷ w)) (λ w e. q (true ∷ w) (omega arith)), all_same m (λ w. g (false ∷ w)) (λ w. h (false ∷ w)) (λ w e. q (false ∷ w) (omega arith)))
    (sym (chosen_brackets h m))
