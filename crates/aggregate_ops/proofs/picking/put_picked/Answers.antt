use Rattle.std.proofs.Common.{◌≡◌, true, List, map, sym, subst}
use Rattle.myrial_ast.specs.declared.scalars.Scalar as code
use Rattle.myrial_ast.specs.ScalarTrees.{scalar_tree_of}
use Rattle.aggregate_ops.specs.Picks.{are_picks}
use Rattle.aggregate_ops.proofs.EmitLemmas.{pick-at}
use Rattle.aggregate_ops.proofs.picking.put_picked.Goals as goal

pub picked_value-requires : goal.picked_value-requires
picked_value-requires c =
    let slice = c.as_slice-pick-items in
    pick-at slice.result.now c.loop-pick.pick-index c.pick-item.result c.loop-pick-test.true c.pick-item.is
    (subst (λ (es : List code.Scalar). are_picks (map scalar_tree_of es) ≡ true) (sym slice.ensures.value) c.requires)
