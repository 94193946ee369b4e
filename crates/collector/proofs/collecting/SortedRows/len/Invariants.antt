use Rattle.std.proofs.Common.{◌≡◌, ◌*◌, ◌≤◌, length, take}
use Rattle.rel_base.specs.Picks.{joined}
use Rattle.collector.proofs.collecting.SortedRows.len.Given as goal

abbrev pub invariant-loop-part : goal.invariant-loop-part
invariant-loop-part l =
    (l.rows ≡ length (joined (take l.part-index l.part-items))) × (l.rows ≤ l.part-index * 4294967295)
