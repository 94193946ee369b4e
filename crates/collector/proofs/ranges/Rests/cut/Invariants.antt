use Rattle.collector.proofs.CutLemmas.{AreCut}
use Rattle.collector.proofs.ranges.Rests.cut.Given as goal

abbrev pub invariant-loop-rest : goal.invariant-loop-rest
invariant-loop-rest l = AreCut l.splitter l.yielded l.runs.items l.rests.items
