use Rattle.std.proofs.Common.{◌≡◌, ◌∙◌, false, List, map, sym, subst}
use Rattle.myrial_ast.specs.declared.scalars.Scalar as code
use Rattle.myrial_ast.specs.ScalarTrees.{scalar_tree_of}
use Rattle.aggregate_ops.specs.Picks.{are_picks}
use Rattle.aggregate_ops.proofs.EmitLemmas.{picks-fail}
use Rattle.aggregate_ops.proofs.picking.are_picks.Goals as goal

pub returns-then-not-is_pick : goal.returns-then-not-is_pick
returns-then-not-is_pick c =
    let slice = c.as_slice-scalar-items in
    sym (subst (λ (es : List code.Scalar). are_picks (map scalar_tree_of es) ≡ false) slice.ensures.value
    (picks-fail slice.result.now c.loop-scalar.scalar-index c.scalar-item.result c.loop-scalar-test.true c.scalar-item.is
    (sym c.is_pick.ensures ∙ c.if-not-is_pick.true)))
