use Rattle.std.proofs.Common.{◌≡◌, ◌∙◌, true, false, map, sym}
use Rattle.std.proofs.lemmas.List.{length-map}
use Rattle.myrial_ast.specs.Combinations.{emitted}
use Rattle.myrial_ast.specs.ScalarTrees.{scalar_tree_of}
use Rattle.algebra.specs.Trees.{kind_of_emit}
use Rattle.aggregate_ops.proofs.CellLemmas.{split_fits}
use Rattle.aggregate_ops.proofs.EmitLemmas.{picked-wide}
use Rattle.aggregate_ops.proofs.partials.partial_of_picks.Goals as goal

pub grouped_picks-requires-clause-width : goal.grouped_picks-requires-clause-width
grouped_picks-requires-clause-width c =
    picked-wide (map kind_of_emit c.args.kinds.now) (map scalar_tree_of c.args.picks.now) c.args.rows.now
    (length-map c.args.kinds.now kind_of_emit ∙ c.requires.kinds ∙ sym (length-map c.args.picks.now scalar_tree_of))

pub unreachable-requires : goal.unreachable-requires
unreachable-requires c =
    let told = rw c.in-Err-AggregateOverflow.field-0-is at c.in-Err-AggregateOverflow.ensures.fault in
    let never : false ≡ true = sym told ∙ split_fits (map kind_of_emit c.args.kinds.now) (map (emitted (map scalar_tree_of c.args.picks.now)) c.args.rows.now) in
    cc
