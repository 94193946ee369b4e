-- the values so far have moved, those behind them stand, and there is room for them
use Rattle.std.proofs.Common.{◌≡◌, ◌+◌, ◌≤◌, ◌++◌, length, take, drop}
use Rattle.rel_base.proofs.row_values.move_few.Given as goal

abbrev pub invariant-loop-value : goal.invariant-loop-value
invariant-loop-value l = record {
  moved : l.into.items ≡ l.fn.into.items ++ take l.value-index l.fn.values;
  rest : drop l.value-index l.value-items ≡ drop l.value-index l.fn.values;
  room : l.into.len + length (drop l.value-index l.value-items) ≤ l.into.cap;
}
