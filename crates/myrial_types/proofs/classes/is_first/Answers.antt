use Rattle.std.proofs.Common.{arith, eq-eqb}
use Rattle.std.specs.Prelude.{slice_index}
use Rattle.myrial_types.proofs.ClassesLemmas.{is_first-false, is_first-true}
use Rattle.myrial_types.proofs.classes.is_first.Goals as goal

pub returns-then-leaders-place : goal.returns-then-leaders-place
returns-then-leaders-place c =
    let leaders = c.args.leaders.now in
    is_first-false leaders c.args.column c.loop-place.place c.requires c.loop-place-test.true
    (eq-eqb (slice_index leaders c.loop-place.place) (slice_index leaders c.args.column) c.if-leaders-place.true)

pub returns : goal.returns
returns c = is_first-true c.args.leaders.now c.args.column c.requires (λ d l. c.loop-place.invariant d (omega (arith, l, c.loop-place-test.false)))
