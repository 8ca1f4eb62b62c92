-- The claims of specs/Claims.antt but the last, each proved.
use mathlib.Core.Path.{◌≡◌, refl, sym, ap, ap₂, ◌∙◌}
use mathlib.Core.List.{List, ◌++◌, append_assoc}
use Prim.Native.Nat.{ℕ, zero, suc, ◌+◌, ◌*◌, ◌≤◌, ◌<◌}
use native.Mathlib.Omega.{arith}
use lib.ListN.{length, drop, take-append-drop}
use borrow.Author.Tests.{ne_eqb}
use Rattle.suffix.specs.Search.{sum_below, tabulate, tabulate_from}
use Rattle.suffix.specs.Lyndon.{part}
use Rattle.suffix.specs.Tree.{tree_length}
use Rattle.shape.specs.Claims.{AreBytes}
use Rattle.suffix.proofs.Search.{tabulate_length}
use Rattle.cabinet.specs.declared.Mark.{Mark}
use Rattle.cabinet.specs.declared.Mark.TheVariants.{LYN2}
use Rattle.cabinet.specs.File.{mark_bytes, mark_number, contents_end, contents, marked_file, cabinet, body_bytes, body_in, count_in, mark_of, count_of, letters_of, end_before, body_of, counts_of, bodies_of}
use Rattle.cabinet.specs.Refusals.{bodies_flaw, trees_flaw, write_refusal, Fitting}
use Rattle.cabinet.specs.Claims.{Reads, RefusedReading, RefusedWriting, ReadOfAccepted, WrittenThenRead, WrittenIsAccepted, BothMarksAreTaken, AcceptedThenWritten}
use Rattle.cabinet.specs.LittleEndian.{four_bytes}
use Rattle.cabinet.proofs.LittleEndian.{number_again}
use Rattle.cabinet.proofs.Marks.{mark_some, one_mark, marked, mark_met}
use Rattle.cabinet.proofs.Contents.{bytes_same}
use Rattle.cabinet.proofs.Files.{file_shape, bodies_in, file_length, mark_back, count_back, place_back, letters_back}
use Rattle.cabinet.proofs.Conditions.{end_more, Right, Accepted, accepted, accepts, reads, taken, takes}
use Rattle.refusal.proofs.Numbers.{unless_taken, unless_refused_lem}
use Rattle.cabinet.proofs.Bodies.{body_moved, flaw_moved, flaw_apart}

pub refused_reading : RefusedReading
refused_reading file entry e = (unless_refused_lem _ _ _ e, unless_refused_lem _ _ _ e, unless_refused_lem _ _ _ e, unless_refused_lem _ _ _ e)

pub refused_writing : RefusedWriting
refused_writing counts trees before e = unless_refused_lem _ _ _ e

pub read_of_accepted : ReadOfAccepted
read_of_accepted file entry =
    (λ e. let t = taken file entry e in (accepts file t.0, t.1), λ e h. reads file entry (accepted file e) h)

-- ---- what is written, read

module _ (m : Mark) (counts trees : List ℕ) (T : Fitting counts trees) where
  abbrev file : List ℕ
  file = marked_file m counts trees

  counted : count_of file ≡ length counts
  counted = count_back m counts trees T.allowed.few T.allowed.short

  lettered : (k : ℕ) → k < length counts → letters_of file k ≡ count_in counts k
  lettered = letters_back m counts trees T.allowed.few T.allowed.short

  ended : (k : ℕ) → k ≤ length counts → end_before file k ≡ contents_end (length counts) + body_bytes (count_in counts) k
  ended k h = ap₂ (λ c b. contents_end c + b) counted (bytes_same (letters_of file) (count_in counts) k (λ j w. lettered j (omega arith)))

  written_right : Right file
  written_right =
      record {
        whole = omega (arith, counted, file_length m counts trees);
        places = λ k h. let w : k < length counts = omega (arith, counted) in place_back m counts trees T.allowed.few T.allowed.short k w ∙ sym (ended k (omega arith));
        ends = file_length m counts trees ∙ ap (λ s. contents_end (length counts) + s) T.bodies ∙ sym (ended (length counts) (omega arith)) ∙ ap (end_before file) (sym counted);
        short = λ k h. let w : k < length counts = omega (arith, counted) in omega (arith, lettered k w, T.allowed.short k w);
      }

  written_accepted : trees_flaw counts trees ≡ 0 → Accepted file
  written_accepted e =
      record {
        marked = ne_eqb (mark_of file) 0 (λ z. omega (arith, mark_back m counts trees, mark_some m, z));
        few = omega (arith, counted, T.allowed.few);
        right = written_right;
        sound =
            ap (λ c. bodies_flaw file (contents_end c) (letters_of file) c) counted
            ∙ flaw_moved file (contents_end (length counts)) (letters_of file) (count_in counts) (length counts) lettered
            ∙ ap (λ b. bodies_flaw b 0 (count_in counts) (length counts)) (bodies_in m counts trees)
            ∙ e;
      }

  written_body : (k : ℕ) → k < length counts → body_of file k ≡ body_in trees 0 (count_in counts) k
  written_body k h =
      ap₂ (λ p n. part file p (tree_length n)) (place_back m counts trees T.allowed.few T.allowed.short k h) (lettered k h)
      ∙ body_moved file (contents_end (length counts)) (count_in counts) (count_in counts) k (λ j w. refl) refl
      ∙ ap (λ b. body_in b 0 (count_in counts) k) (bodies_in m counts trees)

  written_reads : trees_flaw counts trees ≡ 0 → (k : ℕ) → k < length counts → {met : ℕ} → met ≡ mark_number m
      → Reads file k met (count_in counts k) (body_in trees 0 (count_in counts) k)
  written_reads e k h v =
      let r = reads file k (written_accepted e) (omega (arith, counted)) in
      record {
        taken = r;
        met = unless_taken _ _ _ r ∙ mark_back m counts trees ∙ sym v;
        letters = unless_taken _ _ _ r ∙ lettered k h;
        body = unless_taken _ _ _ r ∙ written_body k h;
      }

pub written_then_read : WrittenThenRead
written_then_read counts trees before after k e z h =
    let t = takes counts trees (length before) e in
    let w : after ≡ cabinet counts trees = z ∙ unless_taken _ _ _ e in
    rw w (written_reads _ counts trees t.fits t.sound k h (omega arith))

pub written_is_accepted : WrittenIsAccepted
written_is_accepted counts trees before after e z =
    let t = takes counts trees (length before) e in
    let w : after ≡ cabinet counts trees = z ∙ unless_taken _ _ _ e in
    rw w (accepts (cabinet counts trees) (written_accepted _ counts trees t.fits t.sound))

pub both_marks_are_taken : BothMarksAreTaken
both_marks_are_taken mark counts trees size e =
    let t = takes counts trees size e in
    record {
      accepted = accepts (marked_file mark counts trees) (written_accepted mark counts trees t.fits t.sound);
      reads = λ k h. written_reads mark counts trees t.fits t.sound k h refl;
    }

-- ---- what is accepted, written again

module _ (file : List ℕ) (small : AreBytes file) (A : Accepted file) where
  abbrev count : ℕ
  count = count_of file

  R : Right file
  R = A.right

  -- m entries from k on
  entries_again : (m k : ℕ) → k + m ≡ count → contents (end_before file k) (tabulate_from k m (letters_of file)) ++ bodies_of file ≡ drop (8 + 8 * k) file
  unfolding contents tabulate_from
  entries_again zero k e = let z : k ≡ count = omega arith in rw z
  entries_again (suc m) k e =
      let p = end_before file k in
      let n = letters_of file k in
      let h : k < count = omega arith in
      let w : 8 + 8 * suc k ≤ length file = omega (arith, R.whole) in
      let y : 12 + 8 * k ≡ 8 + 8 * k + 4 = omega arith in
      let z : 8 + 8 * suc k ≡ 12 + 8 * k + 4 = omega arith in
      let behind = ap (λ q. contents q (tabulate_from (suc k) m (letters_of file)) ++ bodies_of file) (sym (end_more file R k)) ∙ entries_again m (suc k) (omega arith) ∙ ap (λ s. drop s file) z in
      let letters = number_again file (12 + 8 * k) (omega arith) small ∙ ap (λ s. drop s file) y in
      simp append_assoc
      (ap (λ l. four_bytes p ++ (four_bytes n ++ l)) behind ∙ ap (λ l. four_bytes p ++ l) letters ∙ ap (λ v. four_bytes v ++ drop (8 + 8 * k + 4) file) (sym (R.places k h)) ∙ number_again file (8 + 8 * k) (omega arith) small)

  all_entries : contents (contents_end count) (counts_of file) ++ bodies_of file ≡ drop 8 file
  unfolding tabulate sum_below
  all_entries = let z : end_before file 0 ≡ contents_end count = omega arith in rw z at (entries_again count 0 (omega arith))

  -- with a mark of its own before them
  again : (m : Mark) → marked_file m (counts_of file) (bodies_of file) ≡ mark_bytes m ++ drop 4 file
  again m =
      file_shape m (counts_of file) (bodies_of file)
      ∙ ap (λ c. mark_bytes m ++ (four_bytes c ++ (contents (contents_end c) (counts_of file) ++ bodies_of file))) (tabulate_length (letters_of file) count)
      ∙ ap (λ l. mark_bytes m ++ (four_bytes count ++ l)) all_entries
      ∙ ap (λ l. mark_bytes m ++ l) (number_again file 4 (omega (arith, (marked file A.marked).long)) small)

  pub file_again : marked_file (marked file A.marked).mark (counts_of file) (bodies_of file) ≡ file
  file_again = let M = marked file A.marked in again M.mark ∙ ap (λ l. l ++ drop 4 file) (sym M.first) ∙ take-append-drop 4 file

pub accepted_then_written : AcceptedThenWritten
accepted_then_written file before small e z =
    let A = accepted file e in
    let M = marked file A.marked in
    let t = ap (write_refusal (counts_of file) (bodies_of file)) z ∙ flaw_apart file A.few A.right ∙ A.sound in
    let w = unless_taken _ _ _ t in
    record {
      taken = t;
      written = w;
      marked = w ∙ again file small A LYN2;
      same = λ two.
          w
          ∙ ap (λ m. marked_file m (counts_of file) (bodies_of file)) (sym (one_mark M.mark LYN2 (omega (arith, mark_met file M, two))))
          ∙ file_again file small A;
    }
