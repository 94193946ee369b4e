use Rattle.std.proofs.Common.{◌≡◌, ◌<◌, ◌^◌, take, All}
use Rattle.placement.specs.Exchanges.{row_counts}
use Rattle.routed_joins.proofs.readings.row_counts.Given as goal

abbrev pub invariant-loop-rows : goal.invariant-loop-rows
invariant-loop-rows l = record {
  counts : l.counts ≡ row_counts (take l.rows-index l.rows-items);
  few : All (λ count. count < 2 ^ 32) l.counts;
}
