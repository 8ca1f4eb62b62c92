-- How many bytes bodies have; the contents as they are written, and an entry of them in a file.
use mathlib.Core.Path.{◌≡◌, refl, sym, ap, ◌∙◌}
use mathlib.Core.List.{List, [], ◌∷◌, ◌++◌, append_assoc, append-nil}
use Prim.Native.Nat.{ℕ, zero, suc, ◌+◌, ◌*◌, ◌≤◌, ◌<◌}
use native.Mathlib.Numerals.{add-one}
use native.Mathlib.Omega.{arith}
use lib.ListN.{length, take, drop, length-append}
use lib.Seq.{take-suc, split_at, get_or-take, length-take-le}
use Rattle.suffix.specs.Search.{sum_below}
use Rattle.suffix.specs.Tree.{tree_length}
use Rattle.suffix.proofs.Cases.{Same, same, other, same?}
use Rattle.suffix.proofs.Search.{sum_same}
use Rattle.cabinet.specs.LittleEndian.{four_bytes, number_at}
use Rattle.cabinet.specs.File.{contents, body_bytes, count_in}
use Rattle.cabinet.proofs.LittleEndian.{four_length, number_in}

-- ---- bytes of bodies

-- the first body apart, and the last
pub bytes_first : (letters : ℕ → ℕ) (k : ℕ) → body_bytes letters (suc k) ≡ tree_length (letters 0) + body_bytes (λ j. letters (suc j)) k
unfolding sum_below
bytes_first letters zero = omega arith
bytes_first letters (suc k) = omega (arith, bytes_first letters k)

pub bytes_more : (letters : ℕ → ℕ) (k : ℕ) → body_bytes letters (k + 1) ≡ body_bytes letters k + tree_length (letters k)
unfolding sum_below
bytes_more letters k = rw add-one

pub bytes_most : (letters : ℕ → ℕ) (k : ℕ) → ((j : ℕ) → j < k → letters j ≤ 1000000) → body_bytes letters k ≤ 250000 * k
unfolding sum_below
bytes_most letters zero short = omega arith
bytes_most letters (suc k) short = omega (arith, bytes_most letters k (λ j h. short j (omega arith)), short k (omega arith))

pub bytes_same : (f g : ℕ → ℕ) (k : ℕ) → ((j : ℕ) → j < k → f j ≡ g j) → body_bytes f k ≡ body_bytes g k
bytes_same f g k q = sum_same (λ j. tree_length (f j)) (λ j. tree_length (g j)) k (λ j h. ap tree_length (q j h))

-- fewer bodies are no longer than more
pub bytes_up : (letters : ℕ → ℕ) (k m : ℕ) → k ≤ m → body_bytes letters k ≤ body_bytes letters m
unfolding sum_below
bytes_up letters k zero h = let z : k ≡ 0 = omega arith in rw z (omega arith)
bytes_up letters k (suc m) h = go (same? k (suc m)) (λ w. bytes_up letters k m w)
  where
    go : Same k (suc m) → (k ≤ m → body_bytes letters k ≤ body_bytes letters m) → body_bytes letters k ≤ body_bytes letters (suc m)
    go (same e) up = rw e (omega arith)
    go (other e) up = omega (arith, up (omega arith))

-- ---- contents

pub contents_length : (place : ℕ) (counts : List ℕ) → length (contents place counts) ≡ 8 * length counts
unfolding contents
contents_length place [] = refl
contents_length place (n ∷ counts) =
    length-append (four_bytes place ++ four_bytes n) _ ∙ ap (λ k. length (four_bytes place ++ four_bytes n) + k) (contents_length (place + tree_length n) counts)
    ∙ omega (arith, length-append (four_bytes place) (four_bytes n), four_length place, four_length n)

contents_append : (a b : List ℕ) (place : ℕ) → contents place (a ++ b) ≡ contents place a ++ contents (place + body_bytes (count_in a) (length a)) b
unfolding contents sum_below
contents_append [] b place = ap (λ p. contents p b) (omega arith)
contents_append (n ∷ a) b place =
    let p = place + tree_length n in
    let z : p + body_bytes (count_in a) (length a) ≡ place + body_bytes (count_in (n ∷ a)) (suc (length a)) = omega (arith, bytes_first (count_in (n ∷ a)) (length a)) in
    ap (λ l. (four_bytes place ++ four_bytes n) ++ l) (contents_append a b p)
    ∙ sym (append_assoc (four_bytes place ++ four_bytes n) (contents p a) (contents (p + body_bytes (count_in a) (length a)) b))
    ∙ ap (λ q. ((four_bytes place ++ four_bytes n) ++ contents p a) ++ contents q b) z

-- entry k of contents whose first body is at `first`
module _ (first : ℕ) (counts : List ℕ) (k : ℕ) (h : k < length counts) where
  abbrev place : ℕ
  place = first + body_bytes (count_in counts) k

  -- the entries before it, and entry k with what is behind it
  from : (rest : List ℕ) → contents first (take k counts ++ (count_in counts k ∷ rest))
      ≡ contents first (take k counts) ++ ((four_bytes place ++ four_bytes (count_in counts k)) ++ contents (place + tree_length (count_in counts k)) rest)
  unfolding contents
  from rest =
      contents_append (take k counts) (count_in counts k ∷ rest) first
      ∙ ap (λ p. contents first (take k counts) ++ contents p (count_in counts k ∷ rest)) (ap (λ b. first + b) (ap (body_bytes (count_in (take k counts))) size ∙ bytes_same (count_in (take k counts)) (count_in counts) k (λ j w. get_or-take k counts j 0 w)))
    where
      size : length (take k counts) ≡ k
      size = length-take-le k counts (omega arith)

  pub contents_more : contents first (take (k + 1) counts) ≡ contents first (take k counts) ++ (four_bytes place ++ four_bytes (count_in counts k))
  unfolding contents
  contents_more = rw (add-one, take-suc counts k 0 h) (from [] ∙ simp (append_assoc, append-nil))

  -- where it stands in a file
  module _ (file before behind : List ℕ) (at : ℕ) (e : file ≡ before ++ (contents first counts ++ behind)) (s : length before + 8 * k ≡ at) where
    abbrev rest : List ℕ
    rest = contents (place + tree_length (count_in counts k)) (drop (suc k) counts)

    abbrev entries : List ℕ
    entries = before ++ contents first (take k counts)

    size : length entries ≡ at
    size = omega (arith, length-append before (contents first (take k counts)), contents_length first (take k counts), length-take-le k counts (omega arith))

    shape : file ≡ entries ++ (four_bytes place ++ (four_bytes (count_in counts k) ++ (rest ++ behind)))
    shape = e ∙ ap (λ l. before ++ (contents first l ++ behind)) (split_at counts k 0 h) ∙ ap (λ l. before ++ (l ++ behind)) (from (drop (suc k) counts)) ∙ simp append_assoc

    pub place_in : place < 4294967296 → number_at file at ≡ place
    place_in w = rw shape (number_in entries place (four_bytes (count_in counts k) ++ (rest ++ behind)) at size w)

    pub letters_in : count_in counts k < 4294967296 → number_at file (at + 4) ≡ count_in counts k
    letters_in w =
        rw (shape, sym (append_assoc entries (four_bytes place) (four_bytes (count_in counts k) ++ (rest ++ behind))))
        (number_in (entries ++ four_bytes place) (count_in counts k) (rest ++ behind) (at + 4) (omega (arith, size, length-append entries (four_bytes place), four_length place)) w)
