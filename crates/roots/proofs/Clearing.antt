-- Three tables are cleared from a place on: behind the runs that they hold.
use mathlib.Core.Path.{◌≡◌, refl, sym, ap, ◌∙◌}
use mathlib.Core.List.{List, [], ◌∷◌}
use Prim.Native.Nat.{ℕ, zero, suc, ◌+◌, ◌≤◌, ◌<◌}
use native.Mathlib.Omega.{arith}
use lib.ListN.{length, replicate, get_or, get_or-eq_default}
use Rattle.suffix.specs.Search.{tabulate}
use Rattle.suffix.proofs.Cases.{Tri, lt, eq, gt, tri}
use Rattle.suffix.proofs.Search.{tabulate_is}
use Rattle.entries.specs.Cleared.{cleared_from}
use Rattle.entries.proofs.Clearing.{cleared_length, cleared_get, cleared_value}
use Rattle.repeats.specs.Runs.{Run, no_run}
use Rattle.repeats.specs.Refusals.{Lists}
use Rattle.repeats.specs.Answers.{entry_of, lists_of}
use Rattle.run_list.specs.Entries.{entry_in, entries_from, entries}
use Rattle.run_list.proofs.Entries.{entries_count}
use Rattle.roots.specs.WorkTables.{work_with}

entry_in_lem : (t : Lists) (i c k : ℕ) → k < c → get_or (entries_from t i c) k no_run ≡ entry_in t (i + k)
unfolding entries_from
entry_in_lem t i zero k h = absurd (omega arith)
entry_in_lem t i (suc c) zero h = ap (entry_in t) (omega arith)
entry_in_lem t i (suc c) (suc k) h = entry_in_lem t (suc i) c k (omega arith) ∙ ap (entry_in t) (omega arith)

-- a table d that holds one field of the first c entries
module _ (t : Lists) (c : ℕ) (field : Run → ℕ) (none : field no_run ≡ 0) (d : List ℕ) (is : (k : ℕ) → field (entry_in t k) ≡ get_or d k 0) where
  cleared_field : {n : ℕ} → length d ≡ n → cleared_from c 0 d ≡ tabulate n (λ k. field (entry_of (entries t c) k))
  cleared_field {n} e = tabulate_is _ (cleared_from c 0 d) n (cleared_length c 0 d ∙ e) (λ k h. go k h (tri k c))
    where
      behind : (k : ℕ) → k < n → c ≤ k → get_or (cleared_from c 0 d) k 0 ≡ field (entry_of (entries t c) k)
      behind k w h = cleared_value c 0 k d h (omega arith) ∙ sym none ∙ ap field (sym (get_or-eq_default (entries t c) no_run (omega (arith, entries_count t c refl))))

      go : (k : ℕ) → k < n → Tri k c → get_or (cleared_from c 0 d) k 0 ≡ field (entry_of (entries t c) k)
      go k w (lt h) = cleared_get c 0 k d h ∙ sym (is k) ∙ ap field (ap (entry_in t) (omega arith) ∙ sym (entry_in_lem t 0 c k h))
      go k w (eq h) = behind k w (omega arith)
      go k w (gt h) = behind k w (omega arith)

-- 0 is written behind the first c entries, and in three other tables from their first place on
pub listed : (t : Lists) (c : ℕ) {l : List Run} → entries t c ≡ l → {n : ℕ} → length t.starts ≡ n → length t.ends ≡ n → length t.periods ≡ n
    → (u v w : List ℕ) → length u ≡ n → length v ≡ n → length w ≡ n → {s f p a b d : List ℕ}
    → s ≡ cleared_from c 0 t.starts → f ≡ cleared_from c 0 t.ends → p ≡ cleared_from c 0 t.periods → a ≡ replicate (length u) 0 → b ≡ replicate (length v) 0 → d ≡ replicate (length w) 0
    → s ∷ p ∷ f ∷ a ∷ b ∷ d ∷ [] ≡ work_with l n
unfolding work_with lists_of
listed t c e {n} q r o u v w x y z i j k a b d =
    let s = i ∙ cleared_field t c (λ r. r.start) refl t.starts (λ k. refl) q in
    let f = j ∙ cleared_field t c (λ r. r.end) refl t.ends (λ k. refl) r in
    let p = k ∙ cleared_field t c (λ r. r.period) refl t.periods (λ k. refl) o in
    rw (s, f, p, a, b, d, x, y, z) (ap (λ l. work_with l n) e)
