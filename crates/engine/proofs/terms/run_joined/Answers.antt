use Rattle.std.proofs.Common.{ap}
use Rattle.join_plans.specs.JoinPlans.{ruled_by}
use Rattle.engine.proofs.TermLemmas.{join-known, group-known, join-run, join-lines, group-run, group-lines}
use Rattle.engine.proofs.terms.run_joined.Goals as goal

pub join_over-requires : goal.join_over-requires
join_over-requires g c =
    join-known c.args.held.now c.args.run.now.step.now.term c.in-Join-Join.shape c.in-Join-Join.sources c.in-Join-Join.is-0
    c.requires.runnable.known

pub returns-in_ok-join-in-Join-Join-clause-run : goal.returns-in_ok-join-in-Join-Join-clause-run
returns-in_ok-join-in-Join-Join-clause-run g c =
    let step = c.args.run.now.step.now in
    let over = c.in_ok-join-in-Join-Join in
    join-run c.args.settings.now (ruled_by c.args.run.now.by) step.statement c.args.held.now g.T.Tap.totals g.T.Tap.tag step.term c.in-Join-Join.sources
    c.in-Join-Join.shape over.join.shape.now over.join.statement over.join.parts (ruled_by over.join.by) (ap ruled_by over.ensures.by) over.ensures.statement over.ensures.shape
    over.ensures.parts c.in-Join-Join.is-0 c.args.taps.now.items c.run_step_join.new.taps.items c.run_step_join.result
    c.run_step_join.ensures.run

pub returns-in_ok-join-in-Join-Join-clause-lines : goal.returns-in_ok-join-in-Join-Join-clause-lines
returns-in_ok-join-in-Join-Join-clause-lines g c =
    let step = c.args.run.now.step.now in
    let over = c.in_ok-join-in-Join-Join in
    join-lines c.args.settings.now (ruled_by c.args.run.now.by) step.statement c.args.held.now g.T.Tap.totals g.T.Tap.tag step.term c.in-Join-Join.sources
    c.in-Join-Join.shape over.join.shape.now over.join.statement over.join.parts (ruled_by over.join.by) (ap ruled_by over.ensures.by) over.ensures.statement over.ensures.shape
    over.ensures.parts c.in-Join-Join.is-0 c.run_step_join.result c.args.lines.now c.run_step_join.new.lines
    c.run_step_join.ensures.lines

pub join_over-requires-in-Group-Group : goal.join_over-requires-in-Group-Group
join_over-requires-in-Group-Group g c =
    group-known c.args.held.now c.args.run.now.step.now.term c.in-Group-Group.shape c.in-Group-Group.sources
    c.in-Group-Group.kinds c.in-Group-Group.is-0 c.requires.runnable.known

pub returns-in_ok-join-in-Group-Group-clause-run : goal.returns-in_ok-join-in-Group-Group-clause-run
returns-in_ok-join-in-Group-Group-clause-run g c =
    let step = c.args.run.now.step.now in
    let over = c.in_ok-join-in-Group-Group in
    group-run c.args.settings.now (ruled_by c.args.run.now.by) step.statement c.args.held.now g.T.Tap.totals g.T.Tap.tag step.term c.in-Group-Group.sources
    c.in-Group-Group.shape over.join.shape.now over.join.statement over.join.parts (ruled_by over.join.by) (ap ruled_by over.ensures.by) over.ensures.statement over.ensures.shape
    over.ensures.parts c.in-Group-Group.kinds c.in-Group-Group.is-0 c.args.taps.now.items
    c.run_step_group.new.taps.items c.run_step_group.result
    c.run_step_group.ensures.run

pub returns-in_ok-join-in-Group-Group-clause-lines : goal.returns-in_ok-join-in-Group-Group-clause-lines
returns-in_ok-join-in-Group-Group-clause-lines g c =
    let step = c.args.run.now.step.now in
    let over = c.in_ok-join-in-Group-Group in
    group-lines c.args.settings.now (ruled_by c.args.run.now.by) step.statement c.args.held.now g.T.Tap.totals g.T.Tap.tag step.term c.in-Group-Group.sources
    c.in-Group-Group.shape over.join.shape.now over.join.statement over.join.parts (ruled_by over.join.by) (ap ruled_by over.ensures.by) over.ensures.statement over.ensures.shape
    over.ensures.parts c.in-Group-Group.kinds c.in-Group-Group.is-0 c.run_step_group.result
    c.args.lines.now c.run_step_group.new.lines
    c.run_step_group.ensures.lines
