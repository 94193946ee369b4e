use Rattle.std.proofs.Common.{◌≡◌, ◌++◌, ◌∙◌, List, [], Result, Ok, Err, length, ap, subst, sym, refl, append-nil}
use Rattle.std.specs.Prelude.{OnOk}
use Rattle.rel_base.specs.declared.faults.RunFault.{RunFault}
use Rattle.algebra.specs.CheckedTrees.{term_tree_of}
use Rattle.algebra.specs.declared.notes.PlanNote.{PlanNote}
use Rattle.algebra.specs.declared.settings.Settings.{Settings}
use Rattle.algebra.specs.declared.terms.Term.{Term}
use Rattle.algebra.specs.declared.terms.Term.TheVariants as term
use Rattle.placement.specs.Plans.{ruled_placing, term_notes}
use Rattle.routed_joins.specs.declared.moved.Moved.{Moved}
use Rattle.join_plans.specs.JoinPlans.{ruled_by}
use Rattle.engine.specs.declared.held.Held.{Held}
use Rattle.engine.specs.declared.terms.RunStep.{RunStep}
use Rattle.engine.specs.inner.Held.{IsRunnable, UsedAreHeld, value_held}
use Rattle.engine.specs.inner.Terms.{later_in}
use Rattle.engine.proofs.TermLemmas.{Runs, left-long, same-run, empty-run, union-run}
use Rattle.engine.proofs.UsedLemmas.{used_itself}
use Rattle.engine.proofs.terms.run_term.Goals as goal

-- a term that joins nothing adds no line
no-lines : (s : Settings) (run : RunStep) (held : Held) (answer : Result Moved RunFault) (lines : List PlanNote) (t : Term)
    → run.step.now.term ≡ t
    → term_notes (ruled_placing s (ruled_by run.by)) s.local run.step.now.statement (value_held held) (term_tree_of t) ≡ []
    → OnOk answer (lines ≡ lines ++ term_notes (ruled_placing s (ruled_by run.by)) s.local run.step.now.statement (value_held held) (term_tree_of run.step.now.term))
no-lines s run held (Ok made) lines t e none =
    let p = ruled_placing s (ruled_by run.by) in
    sym (ap (λ more. lines ++ more) (ap (λ (u : Term). term_notes p s.local run.step.now.statement (value_held held) (term_tree_of u)) e ∙ none) ∙ append-nil lines)
no-lines s run held (Err f) lines t e none = tt

-- what is used is held still
all-held : (run : RunStep) (held : Held) → UsedAreHeld run.stores.now (later_in run) held.results.items held.results.items
all-held run held = used_itself run.stores.now (later_in run) held.results.items

pub returns-in-Same-clause-run : goal.returns-in-Same-clause-run
returns-in-Same-clause-run g c =
    let step = c.args.run.now.step.now in
    let x = c.run_same.ensures in
    same-run c.args.settings.now (ruled_by c.args.run.now.by) step.statement c.args.held.now g.T.Tap.totals g.T.Tap.tag step.term
    c.in-Same.source c.in-Same.is c.parts_of.result.now c.parts_of.ensures c.args.taps.now.items c.run_same.result
    x.parts x.traffic x.receipts x.err

pub returns-in-Empty-clause-run : goal.returns-in-Empty-clause-run
returns-in-Empty-clause-run g c =
    let step = c.args.run.now.step.now in
    let x = c.run_empty.ensures in
    empty-run c.args.settings.now (ruled_by c.args.run.now.by) step.statement c.args.held.now g.T.Tap.totals g.T.Tap.tag step.term
    c.in-Empty.is c.args.taps.now.items c.run_empty.result x.parts x.traffic x.receipts x.err

pub returns-in-UnionAll-clause-run : goal.returns-in-UnionAll-clause-run
returns-in-UnionAll-clause-run g c =
    let step = c.args.run.now.step.now in
    let x = c.run_union.ensures in
    let at = c.in-UnionAll in
    union-run c.args.settings.now (ruled_by c.args.run.now.by) step.statement c.args.held.now g.T.Tap.totals g.T.Tap.tag step.term
    at.left at.right at.is c.parts_of-left.result.now c.parts_of-right.result.now
    c.parts_of-left.ensures c.parts_of-right.ensures
    (left-long c.args.held.now c.args.settings.now.workers step.term at.left at.right at.is c.requires.runnable.at_workers)
    c.args.taps.now.items c.run_union.result x.parts x.traffic x.receipts x.few x.err

pub run_step_diff-requires-clause-runnable : goal.run_step_diff-requires-clause-runnable
run_step_diff-requires-clause-runnable g c κs within =
    subst (λ (t : Term). IsRunnable c.args.settings.now.workers (length c.args.run.now.step.now.schema) c.args.held.now (term_tree_of t))
    c.in-Diff.is c.requires.runnable

pub returns-in-Diff-clause-run : goal.returns-in-Diff-clause-run
returns-in-Diff-clause-run g c =
    let step = c.args.run.now.step.now in
    subst (λ (t : Term). Runs c.args.settings.now (ruled_by c.args.run.now.by) step.statement c.args.held.now g.T.Tap.totals g.T.Tap.tag t
    c.args.taps.now.items c.run_step_diff.new.taps.items c.run_step_diff.result)
    (sym c.in-Diff.is) c.run_step_diff.ensures.run

pub run_step_distinct-requires-clause-runnable : goal.run_step_distinct-requires-clause-runnable
run_step_distinct-requires-clause-runnable g c κs within =
    subst (λ (t : Term). IsRunnable c.args.settings.now.workers (length c.args.run.now.step.now.schema) c.args.held.now (term_tree_of t))
    c.in-Distinct.is c.requires.runnable

pub returns-in-Distinct-clause-run : goal.returns-in-Distinct-clause-run
returns-in-Distinct-clause-run g c =
    let step = c.args.run.now.step.now in
    subst (λ (t : Term). Runs c.args.settings.now (ruled_by c.args.run.now.by) step.statement c.args.held.now g.T.Tap.totals g.T.Tap.tag t
    c.args.taps.now.items c.run_step_distinct.new.taps.items c.run_step_distinct.result)
    (sym c.in-Distinct.is) c.run_step_distinct.ensures.run

pub returns-in-Same-clause-lines : goal.returns-in-Same-clause-lines
returns-in-Same-clause-lines g c =
    no-lines c.args.settings.now c.args.run.now c.args.held.now c.run_same.result c.args.lines.now (term.Same c.in-Same.source) c.in-Same.is refl

pub returns-in-Same-clause-used : goal.returns-in-Same-clause-used
returns-in-Same-clause-used g c = all-held c.args.run.now c.args.held.now

pub returns-in-Empty-clause-lines : goal.returns-in-Empty-clause-lines
returns-in-Empty-clause-lines g c =
    no-lines c.args.settings.now c.args.run.now c.args.held.now c.run_empty.result c.args.lines.now term.Empty c.in-Empty.is refl

pub returns-in-Empty-clause-used : goal.returns-in-Empty-clause-used
returns-in-Empty-clause-used g c = all-held c.args.run.now c.args.held.now

pub returns-in-UnionAll-clause-lines : goal.returns-in-UnionAll-clause-lines
returns-in-UnionAll-clause-lines g c =
    no-lines c.args.settings.now c.args.run.now c.args.held.now c.run_union.result c.args.lines.now (term.UnionAll c.in-UnionAll.left c.in-UnionAll.right) c.in-UnionAll.is refl

pub returns-in-UnionAll-clause-used : goal.returns-in-UnionAll-clause-used
returns-in-UnionAll-clause-used g c = all-held c.args.run.now c.args.held.now

pub returns-in-Diff-clause-lines : goal.returns-in-Diff-clause-lines
returns-in-Diff-clause-lines g c =
    no-lines c.args.settings.now c.args.run.now c.args.held.now c.run_step_diff.result c.args.lines.now (term.Diff c.in-Diff.left c.in-Diff.right) c.in-Diff.is refl

pub returns-in-Distinct-clause-lines : goal.returns-in-Distinct-clause-lines
returns-in-Distinct-clause-lines g c =
    no-lines c.args.settings.now c.args.run.now c.args.held.now c.run_step_distinct.result c.args.lines.now (term.Distinct c.in-Distinct.source) c.in-Distinct.is refl
