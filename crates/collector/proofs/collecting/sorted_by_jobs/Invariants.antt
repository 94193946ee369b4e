use Rattle.std.proofs.Common.{◌≡◌, map, Ok}
use Rattle.collector.proofs.collecting.sorted_by_jobs.Given as goal

abbrev pub invariant-loop-job : goal.invariant-loop-job
invariant-loop-job l = map Ok l.parts.items ≡ map (λ job. job.sorted) l.yielded
