use Rattle.std.proofs.Common.{◌≡◌}
use Rattle.rel_base.specs.Values.{rows_order}
use Rattle.rel_base.proofs.rows.Rows.compared.Given as goal

abbrev pub invariant-loop-row : goal.invariant-loop-row
invariant-loop-row l =
    (goal.iterator-loop-row).can_next l.row-iterator × (goal.iterator-loop-row).is_finite l.row-iterator
    × (rows_order l.row-iterator l.others ≡ rows_order l.self l.other)
