use Rattle.std.proofs.Common.{rules, arith, ◌≡◌, List, length, Result, Err, IfErr, inl, sym, subst}
use Rattle.std.proofs.lemmas.Grind.{common_steps}
use Rattle.std.proofs.lemmas.Iterator.Adapters.{YieldsList-from_vec}
use Rattle.std.proofs.lemmas.Iterator.Consumers.{YieldsList-turn}
use Rattle.myrial_ast.specs.Combinations.{Rows}
use Rattle.aggregate_ops.specs.declared.faults.AggFault.{AggFault}
use Rattle.keyed_terms.specs.inner.Making.{IsFaultOf}
use Rattle.keyed_terms.proofs.gathering.gather_merged.Goals as goal

-- the fault stands at the place that the loop has come to
pub returns-in_err-one-clause-err : goal.returns-in_err-one-clause-err
returns-in_err-one-clause-err c =
    let all = c.args.all.items in
    let place = length c.loop-one.yielded in
    let turn = YieldsList-turn (YieldsList-from_vec all (search rules) (search rules)) c.loop-one.yielded c.loop-one.one-iterator c.loop-one.yielded_by c.next.result c.next.new.self c.in-Some.one c.in-Some.is c.next.ensures.steps in
    let wrong = c.in_err-one.field-0.0 in
    let stands : IsFaultOf all wrong = inl (place, turn.0, λ d. grind (arith, common_steps, turn.0, turn.1, c.in_err-one.was)) in
    let answer : c.from_residual.result ≡ Err wrong = search rules in
    subst (λ (r : Result (List Rows) AggFault). IfErr r (IsFaultOf all)) (sym answer) stands

pub loop-one-preserved : goal.loop-one-preserved
loop-one-preserved c = grind (arith, common_steps)

pub returns-clause-err : goal.returns-clause-err
returns-clause-err c = grind (arith, common_steps)
