use Rattle.std.proofs.Common.{◌≡◌, ◌∙◌, true, false, map, sym}
use Rattle.algebra.specs.Trees.{kind_of_emit}
use Rattle.aggregate_ops.proofs.CellLemmas.{split_fits}
use Rattle.aggregate_ops.proofs.partials.partial.Goals as goal

pub unreachable-requires : goal.unreachable-requires
unreachable-requires c =
    let told = rw c.in-Err-AggregateOverflow.field-0-is at c.in-Err-AggregateOverflow.ensures.fault in
    let never : false ≡ true = sym told ∙ split_fits (map kind_of_emit c.args.kinds.now) c.args.rows.now in
    cc
