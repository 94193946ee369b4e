use Rattle.std.proofs.Common.{rules, arith, ◌≡◌, ◌-◌, length, take, length-drop, sym, ap, subst, ◌∙◌, None, Err, List, drop, map}
use Rattle.std.specs.Prelude.{IfErr}
use Rattle.std.proofs.lemmas.List.{take_all}
use Rattle.std.specs.Option.{option_copied}
use Rattle.algebra.specs.CheckedTrees.{checked_tree_of, step_tree_of}
use Rattle.algebra.specs.Trees.{StepTree}
use Rattle.placement.specs.Runs.{fault_of}
use Rattle.run_laws.specs.Rewritten.{needed}
use Rattle.routed_joins.proofs.TapLemmas.{fair-both, kept-fair}
use Rattle.engine.specs.Runs.{IsRunFault}
use Rattle.join_plans.specs.JoinPlans.{ruled_by}
use Rattle.fragmenter.specs.Plans.{lent_plan, rules_by}
use Rattle.engine.specs.inner.Steps.{AreRun}
use Rattle.engine.proofs.RunLemmas.{all-taken, none-left, is-found, turn, none-run, turn-runnable, turn-fault, turn-done}
use Rattle.engine.proofs.running.run_steps.Goals as goal

pub unreachable-requires : goal.unreachable-requires
unreachable-requires g c =
    let none : None ≡ c.step_of.result = search rules in
    is-found c.args.files.now c.args.checked.now c.requires.of c.in_ok-planned.planned c.in_ok-planned.ensures.rewritten
    c.as_slice-steps.result.now c.as_slice-steps.ensures.value c.loop-place.place c.index-steps-place.result
    c.loop-place-test.true c.index-steps-place.is (ap option_copied none ∙ c.step_of.ensures)

pub loop-place-init : goal.loop-place-init
loop-place-init g c = record {
  run =
      none-run c.args.settings.now (rules_by c.args.settings.now (lent_plan c.args.plan)) c.args.files.now (checked_tree_of c.args.checked.now)
      (map step_tree_of c.as_slice-steps.result.now)
      (record { files = c.in_ok-dealt_files.field-0; results = c.new.result }) c.new-noted.result g.T.Tap.totals g.T.Tap.tag
      c.args.taps.now.items c.in_ok-dealt_files.ensures c.new.ensures.items c.new-noted.ensures.plan c.new-noted.ensures.traffic
      c.new-noted.ensures.receipts;
  fair = (kept-fair g.T.Tap.totals g.T.Tap.tag).none c.args.taps.now.items;
}

pub run_step-requires-clause-runnable : goal.run_step-requires-clause-runnable
run_step-requires-clause-runnable g c κs within =
    turn-runnable c.args.files.now c.args.checked.now c.requires.of c.in_ok-planned.planned c.in_ok-planned.ensures.rewritten
    c.as_slice-steps.result.now c.as_slice-steps.ensures.value c.loop-place.place c.index-steps-place.result
    c.loop-place-test.true c.index-steps-place.is c.args.settings.now (rules_by c.args.settings.now (lent_plan c.args.plan)) c.requires.typed g.T.Tap.totals g.T.Tap.tag c.loop-place.held
    c.loop-place.noted c.args.taps.now.items c.loop-place.taps.items c.loop-place.invariant.run
    c.in-Some.step.now c.in-Some.ensures

pub run_step-requires-clause-same : goal.run_step-requires-clause-same
run_step-requires-clause-same g c κs within =
    (turn c.args.files.now c.args.checked.now c.requires.of c.in_ok-planned.planned c.in_ok-planned.ensures.rewritten
    c.as_slice-steps.result.now c.as_slice-steps.ensures.value c.loop-place.place c.index-steps-place.result
    c.loop-place-test.true c.index-steps-place.is c.in-Some.step.now c.in-Some.ensures).term

pub returns-in_err-run_step-clause-err : goal.returns-in_err-run_step-clause-err
returns-in_err-run_step-clause-err g c =
    let answer : c.from_residual-in_err-run_step.result ≡ Err c.in_err-run_step.field-0.0 = search rules in
    subst (λ r. IfErr r (IsRunFault (fault_of c.args.settings.now (rules_by c.args.settings.now (lent_plan c.args.plan)) c.args.files.now (checked_tree_of c.args.checked.now))))
    (sym answer)
    (turn-fault c.args.files.now c.args.checked.now c.requires.of c.in_ok-planned.planned c.in_ok-planned.ensures.rewritten
    c.as_slice-steps.result.now c.as_slice-steps.ensures.value c.loop-place.place c.index-steps-place.result
    c.loop-place-test.true c.index-steps-place.is c.args.settings.now (rules_by c.args.settings.now (lent_plan c.args.plan)) c.requires.typed g.T.Tap.totals g.T.Tap.tag c.loop-place.held
    c.loop-place.noted c.args.taps.now.items c.loop-place.taps.items c.loop-place.invariant.run
    c.in-Some.step.now c.in-Some.ensures (ruled_by c.shuffle_by.result) c.shuffle_by.ensures
    c.in_err-run_step.field-0.0 c.in_err-run_step.ensures.err)

pub loop-place-preserved : goal.loop-place-preserved
loop-place-preserved g c =
    let steps = c.as_slice-steps.result.now in
    let place = c.loop-place.place in
    record {
      run =
          turn-done c.args.files.now c.args.checked.now c.requires.of c.in_ok-planned.planned c.in_ok-planned.ensures.rewritten
          c.as_slice-steps.result.now c.as_slice-steps.ensures.value c.loop-place.place c.index-steps-place.result
          c.loop-place-test.true c.index-steps-place.is c.args.settings.now (rules_by c.args.settings.now (lent_plan c.args.plan)) c.requires.typed g.T.Tap.totals g.T.Tap.tag c.loop-place.held
          c.loop-place.noted c.args.taps.now.items c.loop-place.taps.items c.loop-place.invariant.run
          c.in-Some.step.now c.in-Some.ensures
          c.run_step.new.held c.run_step.new.noted c.run_step.new.taps.items c.in_ok-run_step.ensures.fair
          (take (length steps - place) (drop place steps))
          (take_all (length steps - place) (drop place steps) (omega (arith, length-drop place steps)))
          (ruled_by c.shuffle_by.result) c.shuffle_by.ensures c.in_ok-run_step.ensures.ok
          c.let_go.new.self c.let_go.ensures.files c.let_go.ensures.results;
      fair =
          fair-both g.T.Tap.totals g.T.Tap.tag c.args.taps.now.items c.loop-place.taps.items c.run_step.new.taps.items
          c.loop-place.invariant.fair c.in_ok-run_step.ensures.fair;
    }

pub returns-clause-ok : goal.returns-clause-ok
returns-clause-ok g c =
    let script = checked_tree_of c.args.checked.now in
    let place = c.loop-place.place in
    subst (λ (left : List StepTree). AreRun c.args.settings.now (rules_by c.args.settings.now (lent_plan c.args.plan)) c.args.files.now script (needed script) left
    c.loop-place.held c.loop-place.noted g.T.Tap.totals g.T.Tap.tag c.args.taps.now.items c.loop-place.taps.items)
    (none-left c.args.files.now c.args.checked.now c.requires.of c.in_ok-planned.planned c.in_ok-planned.ensures.rewritten
    c.as_slice-steps.result.now c.as_slice-steps.ensures.value place c.loop-place-test.false)
    (subst (λ (steps : List StepTree). AreRun c.args.settings.now (rules_by c.args.settings.now (lent_plan c.args.plan)) c.args.files.now script steps
    (drop place (map step_tree_of c.as_slice-steps.result.now))
    c.loop-place.held c.loop-place.noted g.T.Tap.totals g.T.Tap.tag c.args.taps.now.items c.loop-place.taps.items)
    (all-taken c.args.files.now c.args.checked.now c.requires.of c.in_ok-planned.planned c.in_ok-planned.ensures.rewritten
    c.as_slice-steps.result.now c.as_slice-steps.ensures.value place c.loop-place-test.false)
    c.loop-place.invariant.run)
