-- Adapters of the operating system: what contracts see of them.
--
--   counts_after answer counts  the counts after a fetch
use Rattle.std.specs.Prelude.{Result, Ok, Err}
use Rattle.rel_io.specs.Outside.{capped_sum}
use Rattle.rel_io.specs.Shelves.{ShelfCounts}
use Rattle.rel_io.specs.declared.shelves.ShelfFault.{ShelfFault}
use Rattle.rel_io.specs.declared.shelves.ShelfFault.TheVariants as refusal

-- the counts after a fetch that was answered so: one rises at each fault and one at each miss
abbrev pub counts_after : Result (Unit {0}) ShelfFault → ShelfCounts → ShelfCounts
counts_after (Err refusal.Failed) counts = record counts { faults = capped_sum counts.faults 1 }
counts_after (Err refusal.Absent) counts = record counts { misses = capped_sum counts.misses 1 }
counts_after (Err refusal.Memory) counts = counts
counts_after (Ok u) counts = counts
