use Rattle.std.proofs.Common.{◌∙◌, ap, subst, sym}
use Rattle.algebra.specs.CheckedTrees.{checked_tree_of}
use Rattle.run_laws.specs.Values.{IsKnown}
use Rattle.run_laws.specs.Rewritten.{needed}
use Rattle.engine.specs.inner.Steps.{schema_at}
use Rattle.engine.proofs.RunLemmas.{result-found, result-schema}
use Rattle.engine.proofs.running.schema_of.Goals as goal

pub unreachable-requires : goal.unreachable-requires
unreachable-requires c =
    result-found c.args.files.now c.args.checked.now c.in-Result.number
    (subst (IsKnown c.args.files.now (needed (checked_tree_of c.args.checked.now))) c.in-Result.is c.requires.known)
    c.in_default.ensures

pub returns-in-Some : goal.returns-in-Some
returns-in-Some c =
    result-schema c.args.files.now c.args.checked.now c.requires.of c.in-Result.number c.in-Some.step.now c.in-Some.ensures
    ∙ ap (schema_at c.args.files.now (checked_tree_of c.args.checked.now)) (sym c.in-Result.is)
