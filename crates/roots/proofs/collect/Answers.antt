-- `roots::collect` meets its contract.
use Rattle.std.proofs.Common.{rules, List, ℕ, map, length, arith, sym, ap, ◌∙◌, refl, ◌≡◌, ◌<◌}
use Rattle.std.proofs.lemmas.List.{length-map}
use Rattle.ranks.specs.Ranks.{greatest_rank}
use Rattle.entries.proofs.Clearing.{cleared_all}
use Rattle.repeats.specs.Gathered.{report_at}
use Rattle.run_list.specs.Entries.{tables}
use Rattle.root_runs.specs.States.{run_in}
use Rattle.roots.proofs.Gathering.{at_most, none_in, collecting_none, collecting_more, collecting_none_more, gathering_done, report_read, nexts_length, matches_length, next_entry, match_entry}
use Rattle.roots.proofs.Clearing.{listed}
use Rattle.run_list.proofs.Entries.{entries_count}
use Rattle.roots.proofs.collect.Goals.{in-Some, in_default}
use Rattle.roots.proofs.collect.Goals as goal

pub loop-i-init : goal.loop-i-init
loop-i-init g c =
    let n = length-map c.args.string.now g.S.Letter.rank in
    let r = c.requires.room in
    collecting_none c.requires.tabled (r.previous ∙ sym n) (r.previous_match ∙ sym n) refl

pub bounds-next_match-i : goal.bounds-next_match-i
bounds-next_match-i g c = omega (arith, matches_length c.requires.tabled, length-map c.args.string.now g.S.Letter.rank, c.loop-i-test.true)

pub bounds-reverse_next-i : goal.bounds-reverse_next-i
bounds-reverse_next-i g c = omega (arith, nexts_length c.requires.reverse_tabled, length-map c.args.string.now g.S.Letter.rank, c.loop-i-test.true)

pub bounds-reverse_match-i : goal.bounds-reverse_match-i
bounds-reverse_match-i g c = omega (arith, matches_length c.requires.reverse_tabled, length-map c.args.string.now g.S.Letter.rank, c.loop-i-test.true)

pub loop-i-preserved : goal.loop-i-preserved
loop-i-preserved g c =
    let y : List ℕ = map g.S.Letter.rank c.args.string.now in
    let n = length-map c.args.string.now g.S.Letter.rank in
    let i : ℕ = c.loop-i.i in
    let inside : i < length y = omega (arith, n, c.loop-i-test.true) in
    let K = c.loop-i.invariant in
    let reported : run_in c.report_of.result ≡ report_at greatest_rank y i =
    report_read y (omega (arith, n, c.requires.room.few)) i inside c.report_of.ensures.run (K.gathering.next i (omega arith) inside) (match_entry c.requires.tabled i inside) (next_entry c.requires.reverse_tabled i inside) (match_entry c.requires.reverse_tabled i inside) in
    elim c.match-report_of.branch [
      | in-Some w ↦ rw w.list-is (collecting_more (at_most c.fit.ensures) K inside (ap run_in (sym w.in-Some.is) ∙ reported) w.insert.ensures.same w.insert.ensures.inserted)
      | in_default w ↦ rw w.list-is (collecting_none_more (at_most c.fit.ensures) K inside (sym (none_in _ w.in_default.not-Some) ∙ reported))
    ]

pub returns-clause-number : goal.returns-clause-number
returns-clause-number g c =
    let n = length-map c.args.string.now g.S.Letter.rank in
    entries_count _ _ (gathering_done (at_most c.fit.ensures) c.loop-i.invariant.gathering (omega (arith, n, c.loop-i-test.false)))

pub returns-clause-leaves : goal.returns-clause-leaves
returns-clause-leaves g c =
    let n = length-map c.args.string.now g.S.Letter.rank in
    let G = c.loop-i.invariant.gathering in
    let w = c.args.work.now in
    listed (tables c.loop-i.list) _ (gathering_done (at_most c.fit.ensures) G (omega (arith, n, c.loop-i-test.false))) (G.starts ∙ n) (G.ends ∙ n) (G.periods ∙ n)
    w.next_match.now w.reverse_next.now w.reverse_match.now (matches_length c.requires.tabled ∙ n) (nexts_length c.requires.reverse_tabled ∙ n) (matches_length c.requires.reverse_tabled ∙ n)
    (search rules) (search rules) (search rules) (search (rules, cleared_all)) (search (rules, cleared_all)) (search (rules, cleared_all))
