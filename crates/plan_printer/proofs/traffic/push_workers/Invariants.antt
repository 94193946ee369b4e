use Rattle.std.proofs.Common.{◌≡◌, ◌++◌, map, string_bytes, slice_index_or}
use Rattle.std.specs.List.{range_with_len}
use Rattle.rel_base.specs.Picks.{joined}
use Rattle.plan_printer.specs.TrafficTexts.{worker_line}
use Rattle.plan_printer.proofs.traffic.push_workers.Given as goal

abbrev pub invariant-loop-worker : goal.invariant-loop-worker
invariant-loop-worker l =
    string_bytes l.text
    ≡ string_bytes l.initial.text
    ++ joined (map (λ w. worker_line w (slice_index_or l.received w 0) (slice_index_or l.listed w 0)) (range_with_len 0 l.worker))
