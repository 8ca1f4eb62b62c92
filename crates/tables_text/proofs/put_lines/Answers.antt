-- `tables_text::put_lines` meets its contract: each turn puts the line of one position more.
use mathlib.Core.Path.{◌≡◌, ap, ◌∙◌}
use mathlib.Core.List.{List, ◌++◌}
use Prim.Native.Nat.{ℕ, ◌+◌, ◌<◌}
use native.Mathlib.Omega.{arith}
use lib.ListN.{length, get_or}
use Rattle.std.specs.List.{zip, enumerate_from}
use Rattle.std.proofs.lemmas.Grind.{get_or_default_zero}
use Rattle.std.proofs.lemmas.Iterator.{YieldsList-from_slice, YieldsList-from_zip}
use Rattle.std.proofs.lemmas.Iterator.Consumers.{YieldsList-from_enumerate, YieldsList-turn, YieldsList-end}
use Rattle.std.proofs.lemmas.List.{length_push}
use Rattle.std.proofs.lemmas.List.FromFn.{length-enumerate_from, get_or-enumerate_from}
use Rattle.std.proofs.lemmas.Slice.Zip.{length-zip, get_or-zip}
use Rattle.suffix.specs.Nearest.{previous, next}
use Rattle.suffix.specs.Rows.{Tables}
use Rattle.suffix.proofs.Nearest.{next_at_lem}
use Rattle.ranks.specs.Ranks.{ranks}
use Rattle.ranks.proofs.Ranks.{ranks_length}
use Rattle.tables_text.specs.Buffers.{Nearests}
use Rattle.tables_text.specs.Text.{lines, line_text}
use Rattle.writing.proofs.Writes.{put_none, put_then}
use Rattle.tables_text.proofs.Sizes.{lines_more}
use Rattle.tables_text.proofs.put_lines.Goals as goal
use Rattle.tables_text.proofs.put_lines.Goals.{In-Some}

-- one line more, of the letters' ranks
line_more : (letters : List ℕ) (k : ℕ) → let y = ranks letters in lines y (k + 1) ≡ lines y k ++ line_text (length letters) k (previous y k) (next y k)
line_more letters k =
    let y = ranks letters in
    lines_more y k ∙ ap (λ n. lines y k ++ line_text n k (previous y k) (next y k)) (ranks_length letters)

-- what a turn takes: a position, its previous and its next
record Turn (y : List ℕ) (i k p q : ℕ) : Type 0 where
  pub place : k ≡ i
  pub inside : i < length y
  pub previous_is : p ≡ previous y i
  pub next_is : q ≡ next y i

turn :
    {y : List ℕ} {t : Tables} {i k p q : ℕ} → Nearests y t → let ps = t.previous in let qs = t.next in
    (i < length (enumerate_from 0 (zip ps qs))) × ◌≡◌ {A = ℕ × (ℕ × ℕ)} (k, (p, q)) (get_or (enumerate_from 0 (zip ps qs)) i (k, (p, q)))
    → Turn y i k p q
turn {y} {t = tables} {i} {k} {p} {q} N t =
    let ps = tables.previous in
    let qs = tables.next in
    let h : i < length (zip ps qs) = omega (arith, t.0, length-enumerate_from 0 (zip ps qs)) in
    let hp : i < length ps = omega (arith, h, length-zip ps qs) in
    let hq : i < length qs = omega (arith, h, length-zip ps qs) in
    let e = t.1 ∙ get_or-enumerate_from 0 (zip ps qs) i (k, (p, q)) h in
    let f = get_or-zip ps qs i (p, q) hp hq in
    let inside : i < length y = omega (arith, N.previous_length) in
    record {
      place = omega (arith, ap (λ x. x.0) e);
      inside = inside;
      previous_is = ap (λ x. x.1.0) e ∙ ap (λ x. x.0) f ∙ get_or_default_zero ps i p hp ∙ N.previous_at i inside;
      next_is = ap (λ x. x.1.1) e ∙ ap (λ x. x.1) f ∙ get_or_default_zero qs i q hq ∙ N.next_at i inside;
    }

-- as many turns as positions
turns : {y : List ℕ} {t : Tables} {i : ℕ} → Nearests y t → i ≡ length (enumerate_from 0 (zip t.previous t.next)) → i ≡ length y
turns {t = t} N e = omega (arith, length-enumerate_from 0 (zip t.previous t.next), length-zip t.previous t.next, N.previous_length, N.next_length)

pub loop-k-init : goal.loop-k-init
unfolding lines
loop-k-init c = put_none c.args.out.now c.args.at

taken : (c : In-Some) → Turn (ranks c.args.letters.now) (length c.loop-k.yielded) c.in-Some.k c.in-Some.field-0-1-0.now c.in-Some.field-0-1-1.now
taken c =
    let Y = YieldsList-from_enumerate (YieldsList-from_zip (YieldsList-from_slice c.args.tables.now.previous.now (cc)) (YieldsList-from_slice c.args.tables.now.next.now (cc))) (cc) in
    turn c.requires (YieldsList-turn Y c.loop-k.yielded _ c.loop-k.yielded_by _ c.next.new.self _ c.in-Some.is c.next.ensures.steps)

pub put_line-end-requires : goal.put_line-end-requires
put_line-end-requires c =
    let t = taken (goal.at.put_line-end-requires c).In-Some in
    omega (arith, t.place, t.next_is, (next_at_lem (ranks c.args.letters.now) (length c.loop-k.yielded) t.inside).after)

pub loop-k-preserved : goal.loop-k-preserved
loop-k-preserved c =
    let t = taken (goal.at.loop-k-preserved c).In-Some in
    rw (length_push c.loop-k.yielded (c.in-Some.k, (c.in-Some.field-0-1-0, c.in-Some.field-0-1-1)), line_more c.args.letters.now (length c.loop-k.yielded))
    (put_then c.loop-k.invariant (rw (t.place, t.previous_is, t.next_is) at c.put_line-end.ensures))

pub returns : goal.returns
returns c =
    let Y = YieldsList-from_enumerate (YieldsList-from_zip (YieldsList-from_slice c.args.tables.now.previous.now (cc)) (YieldsList-from_slice c.args.tables.now.next.now (cc))) (cc) in
    let e = turns c.requires (YieldsList-end Y c.loop-k.yielded _ c.loop-k.yielded_by _ c.next.new.self c.in-None.is c.next.ensures.steps).1 in
    rw (e ∙ ranks_length c.args.letters.now) at c.loop-k.invariant
