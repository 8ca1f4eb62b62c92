-- The tree after a tree: the search from the right for the last opening in front of which something is open, and what is written there.
use mathlib.Core.Path.{◌≡◌, refl, sym, ap, ◌∙◌}
use mathlib.Core.Bool.{Bool, true, false, cond}
use mathlib.Core.List.{List, [], ◌∷◌, ◌++◌, map}
use Prim.Native.Nat.{ℕ, zero, suc, ◌+◌, ◌-◌, ◌*◌, ◌≤◌, ◌<◌}
use native.Mathlib.Omega.{arith}
use lib.Dec.{eqb, ltb}
use lib.ListN.{length, get_or, replicate, get_or-append, get_or-replicate, length-replicate}
use lib.Seq.{get_or-append-add}
use borrow.Author.Tests.{lt-ltb, le-ltb, ne_eqb}
use Rattle.suffix.specs.Tree.{byte_of, tree_length}
use Rattle.suffix.proofs.Cases.{Tri, lt, eq, gt, tri}
use Rattle.suffix.proofs.Search.{tabulate_same}
use Rattle.refusal.specs.Conditions.{bit_of, tree_refusal}
use Rattle.shape.proofs.Conditions.{tree_flaw}
use Rattle.shape.proofs.Laws.{whole}
use Rattle.shape.proofs.Heights.{opened}
use Rattle.shape.proofs.Heights.{opened_none, opens, shuts}
use Rattle.shape.proofs.Reading.{Balanced}
use Rattle.all_trees.specs.Trees.{chosen, brackets_from, brackets_of, tree_of, before, first_tree, trees_after, next_tree, is_last}
use Rattle.small_trees.specs.Answers.{next, last}
use Rattle.small_trees.specs.Steps.{changed_bit, changed_tree, Stepped}
use Rattle.all_trees.specs.Claims.{IsBalanced}
use Rattle.all_trees.proofs.Closing.{kept, peak, behind, behind_end, none_closing, none_opening, turned, lifted, Begins}
use Rattle.all_trees.proofs.Trees.{brackets_length, brackets_entry, tree_even, after_are}
use Rattle.all_trees.proofs.Laws.{first_tree_lem}
use Rattle.small_trees.proofs.Changing.{changed_before, changed_low, changed_high, bytes_same}

-- ---- what is written

all_false : (m i : ℕ) → get_or (replicate m false) i false ≡ false
all_false zero i = refl
all_false (suc m) zero = refl
all_false (suc m) (suc i) = all_false m i

peak_entry : (o d i : ℕ) → get_or (peak o d) i false ≡ ltb i o
peak_entry o d i = go (tri i o)
  where
    past : o ≤ i → get_or (peak o d) i false ≡ ltb i o
    past h =
        let z : i ≡ length (replicate o true) + (i - o) = omega (arith, length-replicate o true) in
        ap (λ k. get_or (peak o d) k false) z
        ∙ get_or-append-add (replicate o true) (replicate (o + d) false) (i - o) false
        ∙ all_false (o + d) (i - o)
        ∙ sym (le-ltb i o h)

    go : Tri i o → get_or (peak o d) i false ≡ ltb i o
    go (lt h) =
        get_or-append (replicate o true) (replicate (o + d) false) false i (omega (arith, length-replicate o true))
        ∙ get_or-replicate o i true false h
        ∙ sym (lt-ltb i o h)
    go (eq h) = past (omega arith)
    go (gt h) = past (omega arith)

same_bits : (n : ℕ) (t : List ℕ) (k from to : ℕ) (w : List Bool) → length t ≡ tree_length n
    → ((q : ℕ) → changed_bit (bit_of t q) k from to q ≡ get_or w q false) → changed_tree t k from to ≡ tree_of n w
unfolding changed_tree tree_of
same_bits n t k from to w e h =
    rw e
    (tabulate_same (byte_of (λ q. changed_bit (bit_of t q) k from to q)) (byte_of (λ q. get_or w q false)) (tree_length n)
    (λ j u. bytes_same (λ q. changed_bit (bit_of t q) k from to q) (λ q. get_or w q false) j (λ i c. h (8 * j + i))))

-- n openings from bit 0 on: the first tree
pub changed_first : (n : ℕ) (t : List ℕ) → length t ≡ tree_length n → {after : List ℕ} {k from to : ℕ} → after ≡ changed_tree t k from to → k ≡ 0 → from ≡ 0 → to ≡ n → after ≡ first_tree n
changed_first n t e w x y z =
    w
    ∙ rw (x, y, z)
    (same_bits n t 0 0 n (peak n 0) e (λ q. changed_high (bit_of t q) 0 0 n q (omega arith) (omega arith) ∙ sym (peak_entry n 0 q)) ∙ sym (first_tree_lem n))

-- a closing at bit k, then o openings
turned_bits : (n : ℕ) (t : List ℕ) (k o d : ℕ) → length t ≡ tree_length n → changed_tree t k (k + 1) (k + 1 + o) ≡ tree_of n (brackets_from (bit_of t) 0 k ++ false ∷ peak o d)
turned_bits n t k o d e = same_bits n t k (k + 1) (k + 1 + o) (brackets_from (bit_of t) 0 k ++ false ∷ peak o d) e (λ q. go q (tri q k))
  where
    behind_k : (q i : ℕ) → q ≡ k + i → get_or (brackets_from (bit_of t) 0 k ++ false ∷ peak o d) q false ≡ get_or (false ∷ peak o d) i false
    behind_k q i z =
        let y : q ≡ length (brackets_from (bit_of t) 0 k) + i = omega (arith, brackets_length (bit_of t) 0 k) in
        ap (λ x. get_or (brackets_from (bit_of t) 0 k ++ false ∷ peak o d) x false) y ∙ get_or-append-add (brackets_from (bit_of t) 0 k) (false ∷ peak o d) i false

    same_test : (q i : ℕ) → q ≡ k + suc i → ltb q (k + 1 + o) ≡ ltb i o
    same_test q i z = pick (tri i o)
      where
        pick : Tri i o → ltb q (k + 1 + o) ≡ ltb i o
        pick (lt h) = lt-ltb q (k + 1 + o) (omega arith) ∙ sym (lt-ltb i o h)
        pick (eq h) = le-ltb q (k + 1 + o) (omega arith) ∙ sym (le-ltb i o (omega arith))
        pick (gt h) = le-ltb q (k + 1 + o) (omega arith) ∙ sym (le-ltb i o (omega arith))

    go : (q : ℕ) → Tri q k → changed_bit (bit_of t q) k (k + 1) (k + 1 + o) q ≡ get_or (brackets_from (bit_of t) 0 k ++ false ∷ peak o d) q false
    go q (lt h) =
        changed_before (bit_of t q) k (k + 1) (k + 1 + o) q h
        ∙ sym
        (get_or-append (brackets_from (bit_of t) 0 k) (false ∷ peak o d) false q (omega (arith, brackets_length (bit_of t) 0 k))
        ∙ brackets_entry (bit_of t) 0 k q h
        ∙ ap (bit_of t) (omega arith))
    go q (eq h) = changed_low (bit_of t q) k (k + 1) (k + 1 + o) q (omega arith) (omega arith) ∙ sym (behind_k q 0 (omega arith))
    go q (gt h) =
        changed_high (bit_of t q) k (k + 1) (k + 1 + o) q (omega arith) (omega arith)
        ∙ same_test q (q - suc k) (omega arith)
        ∙ sym (behind_k q (suc (q - suc k)) (omega arith) ∙ peak_entry o d (q - suc k))

-- ---- the search

-- the brackets from bit k on are passed, o of them are openings, and none comes behind them
pub record Passed (n : ℕ) (t : List ℕ) (k o : ℕ) : Type 0 where
  pub within : k ≤ 2 * n
  pub count : o + opened (bit_of t) k ≡ n
  none : (d : ℕ) → d + k ≡ 2 * opened (bit_of t) k → behind (bit_of t) k d (2 * n - k) ≡ []

module _ (n : ℕ) (t : List ℕ) (T : IsBalanced n t) where
  abbrev g : ℕ → Bool
  g = bit_of t

  B : Balanced g (2 * n)
  B = tree_even n T

  pub pass_start : Passed n t (2 * n) 0
  pass_start =
      let z : 2 * n - 2 * n ≡ 0 = omega arith in
      record {
        within = omega arith;
        count = omega (arith, B.closed);
        none = λ d e. (let w : d ≡ 0 = omega (arith, B.closed) in rw (z, w) (behind_end g (2 * n)));
      }

  module _ {k o : ℕ} (P : Passed n t (suc k) o) where
    rest : 2 * n - k ≡ suc (2 * n - suc k)
    rest = omega (arith, P.within)

    high : k ≤ 2 * opened g k
    high = B.above k (omega (arith, P.within))

    pub pass_closing : g k ≡ false → Passed n t k o
    pass_closing e =
        record {
          within = omega (arith, P.within);
          count = omega (arith, P.count, shuts g k e);
          none =
              λ d q.
              (let z : d ≡ suc (d - 1) = omega (arith, shuts g k e, B.above (suc k) P.within) in
              rw (rest, z) (none_closing g k (d - 1) (2 * n - suc k) e (P.none (d - 1) (omega (arith, shuts g k e, B.above (suc k) P.within)))));
        }

    module _ (e : g k ≡ true) where
      -- nothing is open in front of it
      pub pass_opening : 2 * n ≤ k + 2 * (o + 1) → Passed n t k (o + 1)
      pass_opening h =
          record {
            within = omega (arith, P.within);
            count = omega (arith, P.count, opens g k e);
            none =
                λ d q.
                (let z : d ≡ 0 = omega (arith, P.count, opens g k e, high) in
                rw (rest, z) (none_opening g k (2 * n - suc k) e (P.none 1 (omega (arith, P.count, opens g k e, high)))));
          }

      -- something is
      module _ (h : k + 2 * (o + 1) < 2 * n) where
        d : ℕ
        d = 2 * opened g k - suc k

        found : Begins (chosen (before (brackets_of n t)) (kept 0 (2 * n))) (brackets_from g 0 k ++ false ∷ peak (o + 1) d)
        unfolding brackets_of d
        found =
            let z : k + suc (2 * n - suc k) ≡ 2 * n = omega (arith, P.within) in
            rw z at
            (lifted g k (suc d) (suc (2 * n - suc k)) (λ j w. B.above j (omega (arith, P.within))) (omega (arith, P.count, opens g k e))
            (turned g k d (2 * n - suc k) (o + 1) e (P.none (suc (suc d)) (omega (arith, P.count, opens g k e))) (omega (arith, P.count, opens g k e))))

        after_first : trees_after n t ≡ tree_of n (brackets_from g 0 k ++ false ∷ peak (o + 1) d) ∷ map (tree_of n) found.others
        after_first = after_are n t ∙ ap (map (tree_of n)) found.is

        pub turned_next : is_last n t ≡ false
        unfolding is_last
        turned_next = ne_eqb (length (trees_after n t)) 0 (λ z. omega (arith, ap length after_first))

        pub turned_written : {u after : List ℕ} {j from to : ℕ} → after ≡ changed_tree u j from to → u ≡ t → j ≡ k → from ≡ k + 1 → to ≡ k + 1 + (o + 1) → after ≡ next_tree n t
        unfolding next_tree
        turned_written w v x y z = w ∙ rw (v, x, y, z) (turned_bits n t k (o + 1) d T.size ∙ sym (ap (λ l. get_or l 0 t) after_first))

  -- all are passed
  module _ {o : ℕ} (P : Passed n t 0 o) where
    none_after : trees_after n t ≡ []
    unfolding brackets_of
    none_after =
        let z : 2 * n - 0 ≡ 2 * n = omega arith in
        after_are n t ∙ ap (map (tree_of n)) (rw z at (P.none 0 (omega (arith, opened_none g))))

    pub last_none : is_last n t ≡ true
    unfolding is_last
    last_none = ap (λ l. eqb (length l) 0) none_after

    pub last_kept : t ≡ next_tree n t
    unfolding next_tree
    last_kept = sym (ap (λ l. get_or l 0 t) none_after)

-- the tree is as it was, and its brackets from bit k on are passed
pub record Searching (n : ℕ) (t now : List ℕ) (k o : ℕ) : Type 0 where
  pub kept : now ≡ t
  pub long : length now ≤ 3
  pub few : o ≤ n
  pub tree : IsBalanced n t
  pub passed : Passed n t k o

pub search_start : (n : ℕ) (t : List ℕ) → n ≤ 12 → tree_refusal n t ≡ 0 → ((j : ℕ) → get_or t j 0 < 256) → Searching n t t (2 * n) 0
search_start n t h e b =
    let W = whole n t e in
    let T : IsBalanced n t = record { bytes = b; size = W.bytes; balanced = sym (tree_flaw n t W.small W.bytes) ∙ e } in
    record { kept = refl; long = omega (arith, W.bytes); few = omega arith; tree = T; passed = pass_start n t T }

-- the next bracket is that at bit k - 1
module _ {n : ℕ} {t now : List ℕ} {k o : ℕ} (S : Searching n t now k o) where
  module _ (some : 0 < k) {b : Bool} (is_next : b ≡ bit_of now (k - 1)) where
    P : Passed n t (suc (k - 1)) o
    P = let z : suc (k - 1) ≡ k = omega arith in rw z S.passed

    bit_is : b ≡ bit_of t (k - 1)
    bit_is = is_next ∙ ap (λ u. bit_of u (k - 1)) S.kept

    pub search_closing : b ≡ false → Searching n t now (k - 1) o
    search_closing e = record { kept = S.kept; long = S.long; few = S.few; tree = S.tree; passed = pass_closing n t S.tree P (sym bit_is ∙ e) }

    pub search_opening : b ≡ true → 2 * n ≤ k - 1 + 2 * (o + 1) → Searching n t now (k - 1) (o + 1)
    search_opening e h =
        let Q = pass_opening n t S.tree P (sym bit_is ∙ e) h in
        record { kept = S.kept; long = S.long; few = omega (arith, Q.count); tree = S.tree; passed = Q }

    pub search_found : b ≡ true → k - 1 + 2 * (o + 1) < 2 * n → {after : List ℕ} → after ≡ changed_tree now (k - 1) (k - 1 + 1) (k - 1 + 1 + (o + 1)) → Stepped n t after next
    search_found e h w =
        record {
          answers = sym (ap (λ b. cond b last next) (turned_next n t S.tree P (sym bit_is ∙ e) h));
          leaves = turned_written n t S.tree P (sym bit_is ∙ e) h w S.kept refl refl refl;
        }

  pub search_none : k ≤ 0 → Stepped n t now last
  search_none h =
      let z : k ≡ 0 = omega arith in
      let P = rw z at S.passed in
      record { answers = sym (ap (λ b. cond b last next) (last_none n t S.tree P)); leaves = S.kept ∙ last_kept n t S.tree P }
