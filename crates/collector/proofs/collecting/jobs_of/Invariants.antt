use Rattle.std.proofs.Common.{◌≡◌, map, take}
use Rattle.collector.proofs.collecting.jobs_of.Given as goal

abbrev pub invariant-loop-part : goal.invariant-loop-part
invariant-loop-part l = map (λ job. job.part.now) l.jobs.items ≡ take l.part-index l.parts
