use Rattle.std.proofs.Common.{◌≡◌, map, take}
use Rattle.collector.proofs.keys.rows_behind.Given as goal

abbrev pub invariant-loop-row : goal.invariant-loop-row
invariant-loop-row l = map (λ row. row.now) l.rows.items ≡ map (λ e. e.2.now) (take l.row-index l.keyed)
