use Rattle.std.proofs.Common.{◌≡◌, ◌∙◌, ap, rules}
use Rattle.algebra.specs.ShapeConditions.{is_shape}
use Rattle.algebra.specs.ShapeTrees.{shape_tree_of}
use Rattle.algebra.specs.Trees.{shape_of_parts}
use Rattle.plan_rewrite.specs.inner.Pushing.{pushed}
use Rattle.plan_rewrite.proofs.FormedLemmas.{pushed-formed}
use Rattle.plan_rewrite.proofs.pushing.pushed.Goals as goal

pub invariant_of-result : goal.invariant_of-result
invariant_of-result c =
    let same : shape_of_parts c.push_atoms.new.into c.in_ok-variables.variables c.in_ok-plain.plain c.in_ok-arith.arith c.in_ok-emits.emits ≡ pushed (shape_tree_of c.args.shape.now) = search rules in
    record { well_formed = ap is_shape same ∙ pushed-formed (shape_tree_of c.args.shape.now) c.args.shape.now.well_formed }

pub returns : goal.returns
returns c = search rules
