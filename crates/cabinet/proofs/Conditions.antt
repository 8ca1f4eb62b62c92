-- What the conditions say of a file, and which number the tests in their order give.
use mathlib.Core.Path.{◌≡◌, refl, sym, ap, ◌∙◌}
use mathlib.Core.Logic.{◌≢◌}
use mathlib.Core.Bool.{Bool, true, false, not}
use mathlib.Core.List.{List}
use Prim.Native.Nat.{ℕ, suc, ◌+◌, ◌≤◌, ◌<◌}
use native.Mathlib.Omega.{arith}
use lib.Dec.{eqb}
use lib.ListN.{length}
use borrow.Author.Tests.{lt-ltb, le-ltb, ltb-false, eqb-true, eq-eqb, ne_eqb, leb-false, lt-leb, le-leb, not-false}
use Rattle.suffix.specs.Search.{sum_below}
use Rattle.suffix.specs.Tree.{tree_length}
use Rattle.suffix.proofs.Search.{any_false, any_not}
use Rattle.refusal.specs.declared.Refusal.TheVariants.{TooLong, TreeLength, PositionOutside, NotMarked, TooManyEntries, WrongContents}
use Rattle.refusal.specs.Numbers.{first_of, number_if}
use Rattle.refusal.specs.Conditions.{too_long, position_outside}
use Rattle.refusal.proofs.Numbers.{neither, first_none, first_only, nothing_found}
use Rattle.cabinet.specs.File.{contents_end, body_bytes, count_in, count_of, place_of, letters_of, end_before}
use Rattle.cabinet.proofs.Contents.{bytes_up}
use Rattle.cabinet.specs.Refusals.{not_marked, too_many_entries, wrong_contents, file_flaw, read_refusal, file_refusal, any_too_long, size_off, trees_flaw, write_refusal, Allowed, Fitting}

refuted : (b : Bool) → (b ≡ false → ⊥) → b ≡ true
refuted true q = refl
refuted false q = absurd (q refl)

-- ---- 11

-- contents in order
pub record Right (file : List ℕ) : Type 0 where
  pub whole : contents_end (count_of file) ≤ length file
  pub places : (k : ℕ) → k < count_of file → place_of file k ≡ end_before file k
  pub ends : length file ≡ end_before file (count_of file)
  pub short : (k : ℕ) → k < count_of file → letters_of file k ≤ 1000000

module _ (file : List ℕ) where
  pub right : wrong_contents file ≡ false → Right file
  unfolding wrong_contents
  right e =
      let d = neither _ _ e in
      let c = neither _ _ d.0 in
      let b = neither _ _ c.0 in
      record {
        whole = ltb-false (length file) (contents_end (count_of file)) b.0;
        places = λ k h. eqb-true _ _ (not-false _ (any_not (λ j. not (eqb (place_of file j) (end_before file j))) (count_of file) b.1 k h));
        ends = eqb-true _ _ (not-false _ c.1);
        short = λ k h. ltb-false 1000000 (letters_of file k) (any_not (λ j. too_long (letters_of file j)) (count_of file) d.1 k h);
      }

  pub not_wrong : Right file → wrong_contents file ≡ false
  unfolding wrong_contents
  not_wrong R =
      simp (
        le-ltb (length file) (contents_end (count_of file)) R.whole,
        any_false (λ j. not (eqb (place_of file j) (end_before file j))) (count_of file) (λ k h. ap not (eq-eqb _ _ (R.places k h))),
        eq-eqb (length file) (end_before file (count_of file)) R.ends,
        any_false (λ j. too_long (letters_of file j)) (count_of file) (λ k h. le-ltb 1000000 (letters_of file k) (R.short k h)),
      )

  pub wrong : (Right file → ⊥) → wrong_contents file ≡ true
  wrong q = refuted (wrong_contents file) (λ e. q (right e))

-- a body of a file with right contents lies within it
module _ (file : List ℕ) (R : Right file) (k : ℕ) where
  pub end_more : end_before file (suc k) ≡ end_before file k + tree_length (letters_of file k)
  unfolding sum_below
  end_more = omega arith

  pub body_fits : k < count_of file → end_before file k + tree_length (letters_of file k) ≤ length file
  body_fits h = omega (arith, end_more, bytes_up (letters_of file) (suc k) (count_of file) (omega arith), R.ends)

-- ---- the tests of the reader in their order

module _ (file : List ℕ) (entry : ℕ) where
  pub read_9 : not_marked file ≡ true → read_refusal file entry ≡ 9
  unfolding read_refusal first_of
  read_9 a = rw a

  module _ (a : not_marked file ≡ false) where
    pub read_10 : 64 < count_of file → read_refusal file entry ≡ 10
    unfolding read_refusal first_of
    read_10 b = rw (a, lt-ltb 64 (count_of file) b)

    module _ (b : count_of file ≤ 64) where
      pub read_11 : wrong_contents file ≡ true → read_refusal file entry ≡ 11
      unfolding read_refusal first_of
      read_11 c = rw (a, le-ltb 64 (count_of file) b, c)

      module _ (c : wrong_contents file ≡ false) where
        pub read_5 : count_of file ≤ entry → read_refusal file entry ≡ 5
        unfolding read_refusal first_of
        read_5 d = rw (a, le-ltb 64 (count_of file) b, c, le-leb (count_of file) entry d)

        pub read_flaw : entry < count_of file → read_refusal file entry ≡ file_flaw file
        unfolding read_refusal first_of
        read_flaw d = rw (a, le-ltb 64 (count_of file) b, c, lt-leb (count_of file) entry d) (first_only (file_flaw file))

-- ---- accepted files

pub record Accepted (file : List ℕ) : Type 0 where
  pub marked : not_marked file ≡ false
  pub few : count_of file ≤ 64
  pub right : Right file
  pub sound : file_flaw file ≡ 0

module _ (file : List ℕ) where
  found_nothing : number_if (not_marked file) NotMarked ≡ 0 → number_if (too_many_entries (count_of file)) TooManyEntries ≡ 0
      → number_if (wrong_contents file) WrongContents ≡ 0 → file_flaw file ≡ 0 → Accepted file
  found_nothing a b c d =
      record {
        marked = nothing_found (not_marked file) NotMarked a;
        few = ltb-false 64 (count_of file) (nothing_found (too_many_entries (count_of file)) TooManyEntries b);
        right = right file (nothing_found (wrong_contents file) WrongContents c);
        sound = d;
      }

  pub accepted : file_refusal file ≡ 0 → Accepted file
  unfolding file_refusal
  accepted e =
      let a = first_none _ _ e in
      let b = first_none _ _ a.1 in
      let c = first_none _ _ b.1 in
      found_nothing a.0 b.0 c.0 (sym (first_only (file_flaw file)) ∙ c.1)

  pub accepts : Accepted file → file_refusal file ≡ 0
  unfolding file_refusal first_of
  accepts A = rw (A.marked, le-ltb 64 (count_of file) A.few, not_wrong file A.right) (first_only (file_flaw file) ∙ A.sound)

  -- the reader refuses no entry of an accepted file, and no other is read
  module _ (entry : ℕ) where
    pub reads : Accepted file → entry < count_of file → read_refusal file entry ≡ 0
    reads A h = read_flaw file entry A.marked A.few (not_wrong file A.right) h ∙ A.sound

    pub taken : read_refusal file entry ≡ 0 → Accepted file × (entry < count_of file)
    unfolding read_refusal
    taken e =
        let a = first_none _ _ e in
        let b = first_none _ _ a.1 in
        let c = first_none _ _ b.1 in
        let d = first_none _ _ c.1 in (
          found_nothing a.0 b.0 c.0 (sym (first_only (file_flaw file)) ∙ d.1),
          leb-false (count_of file) entry (nothing_found (position_outside (count_of file) entry) PositionOutside d.0),
        )

-- ---- the tests of the writer in their order

module _ (counts : List ℕ) where
  pub none_too_long : any_too_long counts ≡ false → (k : ℕ) → k < length counts → count_in counts k ≤ 1000000
  none_too_long e k h = ltb-false 1000000 (count_in counts k) (any_not (λ j. too_long (count_in counts j)) (length counts) e k h)

  pub not_too_long : ((k : ℕ) → k < length counts → count_in counts k ≤ 1000000) → any_too_long counts ≡ false
  not_too_long b = any_false (λ j. too_long (count_in counts j)) (length counts) (λ k h. le-ltb 1000000 (count_in counts k) (b k h))

module _ (counts trees : List ℕ) (size : ℕ) where
  abbrev count : ℕ
  count = length counts

  abbrev bytes : ℕ
  bytes = body_bytes (count_in counts) count

  pub write_10 : 64 < count → write_refusal counts trees size ≡ 10
  unfolding write_refusal first_of
  write_10 a = rw (lt-ltb 64 count a)

  pub write_1 : count ≤ 64 → any_too_long counts ≡ true → write_refusal counts trees size ≡ 1
  unfolding write_refusal first_of
  write_1 a b = rw (le-ltb 64 count a, b)

  trees_off : length trees ≢ bytes → size_off counts (length trees) size ≡ true
  trees_off q = rw (ne_eqb (length trees) bytes q)

  buffer_off : length trees ≡ bytes → size ≢ contents_end count + bytes → size_off counts (length trees) size ≡ true
  buffer_off e q = rw (eq-eqb (length trees) bytes e, ne_eqb size (contents_end count + bytes) q)

  module _ (A : Allowed counts) where
    write_3 : size_off counts (length trees) size ≡ true → write_refusal counts trees size ≡ 3
    unfolding write_refusal first_of
    write_3 c = rw (le-ltb 64 count A.few, not_too_long counts A.short, c)

    pub write_3_trees : length trees ≢ bytes → write_refusal counts trees size ≡ 3
    write_3_trees q = write_3 (trees_off q)

    pub write_3_buffer : length trees ≡ bytes → size ≢ contents_end count + bytes → write_refusal counts trees size ≡ 3
    write_3_buffer e q = write_3 (buffer_off e q)

    pub write_flaw : length trees ≡ bytes → size ≡ contents_end count + bytes → write_refusal counts trees size ≡ trees_flaw counts trees
    unfolding write_refusal first_of
    write_flaw c d =
        rw (le-ltb 64 count A.few, not_too_long counts A.short, eq-eqb (length trees) bytes c, eq-eqb size (contents_end count + bytes) d)
        (first_only (trees_flaw counts trees))

  -- what is not refused
  pub record Takes : Type 0 where
    pub fits : Fitting counts trees
    pub buffer : size ≡ contents_end count + bytes
    pub sound : trees_flaw counts trees ≡ 0

  pub takes : write_refusal counts trees size ≡ 0 → Takes
  unfolding write_refusal
  takes e =
      let a = first_none _ _ e in
      let b = first_none _ _ a.1 in
      let c = first_none _ _ b.1 in
      let d = neither _ _ (nothing_found (size_off counts (length trees) size) TreeLength c.0) in
      record {
        fits =
            record {
              allowed =
                  record {
                    few = ltb-false 64 count (nothing_found (too_many_entries count) TooManyEntries a.0);
                    short = none_too_long counts (nothing_found (any_too_long counts) TooLong b.0);
                  };
              bodies = eqb-true _ _ (not-false _ d.0);
            };
        buffer = eqb-true _ _ (not-false _ d.1);
        sound = sym (first_only (trees_flaw counts trees)) ∙ c.1;
      }

-- what the writer's tests find
pub ruleset writer_tests = (write_10, write_1, write_3_trees, write_3_buffer, write_flaw, none_too_long)

-- what the reader's tests find
pub ruleset reader_tests = (read_9, read_10, read_11, read_5, read_flaw)
