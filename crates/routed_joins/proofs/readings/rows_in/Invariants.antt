use Rattle.std.proofs.Common.{◌≡◌, ◌*◌, ◌≤◌, take, length}
use Rattle.placement.specs.Layouts.{together}
use Rattle.routed_joins.proofs.readings.rows_in.Given as goal

abbrev pub invariant-loop-rows : goal.invariant-loop-rows
invariant-loop-rows l = record {
  counted : l.count ≡ length (together (take l.rows-index l.rows-items));
  few : l.count ≤ l.rows-index * 4294967295;
}
