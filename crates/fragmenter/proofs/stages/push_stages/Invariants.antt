use Rattle.std.proofs.Common.{◌≡◌, ◌++◌, take}
use Rattle.fragmenter.specs.Stages.{stages_at}
use Rattle.fragmenter.proofs.stages.push_stages.Given as goal

abbrev pub invariant-loop-end : goal.invariant-loop-end
invariant-loop-end l = l.stages ≡ l.initial.stages ++ stages_at l.statement l.step (take l.end-index l.ends)
