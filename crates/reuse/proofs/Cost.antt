-- What the comparisons may cost: an equal one raises the reach; an unequal one ends a scan, which settles a pair, and this is then recorded.
use mathlib.Core.Path.{◌≡◌, sym, ap, ◌∙◌}
use mathlib.Core.Logic.{◌≢◌}
use mathlib.Core.Bool.{Bool, false, not}
use mathlib.Core.List.{List}
use Prim.Native.Nat.{ℕ, suc, ◌+◌, ◌≤◌, ◌<◌}
use native.Mathlib.Omega.{arith}
use lib.Dec.{eqb}
use lib.ListN.{length, get_or, set, length-set}
use lib.Seq.{get_or-set_same, get_or-set_other, set-get_or}
use borrow.Author.Tests.{eq-eqb, ne_eqb}
use Rattle.suffix.specs.Search.{count_below}
use Rattle.suffix.specs.Rows.{Tables}
use Rattle.suffix.proofs.Search.{count_most, count_less, count_stop, count_raise}
use Rattle.reuse.specs.Steps.{Progress, record_previous, record_next}

-- ---- the entries of a table other than none

module _ (none : ℕ) (t : List ℕ) where
  abbrev is_some : ℕ → Bool
  is_some i = not (eqb (get_or t i 0) none)

  pub some_entries : ℕ
  some_entries = count_below (length t) is_some

  is_none : (i : ℕ) → get_or t i 0 ≡ none → is_some i ≡ false
  is_none i e = ap not (eq-eqb (get_or t i 0) none e)

  -- all from m on are none
  module _ (m : ℕ) (h : m ≤ length t) (q : (k : ℕ) → m ≤ k → k < length t → get_or t k 0 ≡ none) where
    counted : some_entries ≡ count_below m is_some
    unfolding some_entries
    counted = count_stop is_some m (length t) h (λ k a b. is_none k (q k a b))

    pub entries_most : some_entries ≤ m
    entries_most = omega (arith, counted, count_most is_some m)

    -- and one before m is
    pub entries_less : (k : ℕ) → k < m → get_or t k 0 ≡ none → some_entries < m
    entries_less k w e = omega (arith, counted, count_less is_some m k w (is_none k e))

-- a store in place of none
entries_new : (none : ℕ) (t : List ℕ) (i v : ℕ) → i < length t → get_or t i 0 ≡ none → v ≢ none → some_entries none (set t i v) ≡ suc (some_entries none t)
unfolding some_entries
entries_new none t i v h e d =
    ap (λ n. count_below n (is_some none (set t i v))) (length-set t i v)
    ∙ count_raise (is_some none t) (is_some none (set t i v)) (length t) i h (is_none none t i e)
    (ap not (ne_eqb (get_or (set t i v) i 0) none (λ q. d (sym (get_or-set_same t i v 0 h) ∙ q))))
    (λ k _ w. ap (λ x. not (eqb x none)) (sym (get_or-set_other t i k v 0 w)))

-- ---- the pairs that are recorded: the entries other than none in previous and next

abbrev pub recorded_pairs : ℕ → Tables → ℕ
recorded_pairs none t = some_entries none t.previous + some_entries none t.next

pub pairs_most : (none : ℕ) (t : Tables) → recorded_pairs none t ≤ length t.previous + length t.next
pairs_most none t = omega (arith, all t.previous, all t.next)
  where
    all : (l : List ℕ) → some_entries none l ≤ length l
    all l = entries_most none l (length l) (omega arith) (λ k a b. absurd (omega arith))

-- what the comparisons may be, where so many settled pairs are not yet recorded
pub record Cost (none : ℕ) (s : Progress) (t : Tables) (unrecorded : ℕ) : Type 0 where
  pub equal : s.equal < s.reach
  pub unequal : s.unequal ≤ recorded_pairs none t + unrecorded

module _ {none : ℕ} {s : Progress} {t : Tables} {unrecorded : ℕ} (i v m : ℕ) where
  pub cost_next : i < length t.next → get_or t.next i 0 ≡ none → v ≢ none → Cost none s t (suc unrecorded) → Cost none s (record_next t i v m) unrecorded
  unfolding record_next
  cost_next h e d C = record { equal = C.equal; unequal = omega (arith, C.unequal, entries_new none t.next i v h e d) }

  pub cost_previous : i < length t.previous → get_or t.previous i 0 ≡ none → v ≢ none → Cost none s t (suc unrecorded) → Cost none s (record_previous t i v m) unrecorded
  unfolding record_previous
  cost_previous h e d C = record { equal = C.equal; unequal = omega (arith, C.unequal, entries_new none t.previous i v h e d) }

-- a store of none in place of none
pub cost_none : {none : ℕ} {s : Progress} {t : Tables} {unrecorded : ℕ} (i m : ℕ) → get_or t.previous i 0 ≡ none → Cost none s t unrecorded → Cost none s (record_previous t i none m) unrecorded
unfolding record_previous
cost_none {none} {s} {t} i m e C =
    let z : set t.previous i none ≡ t.previous = ap (set t.previous i) (sym e) ∙ set-get_or t.previous i 0 in
    record { equal = C.equal; unequal = rw z C.unequal }
