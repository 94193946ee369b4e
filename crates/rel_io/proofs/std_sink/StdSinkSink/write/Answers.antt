use Rattle.std.proofs.Common.{arith}
use Rattle.std.proofs.lemmas.Grind.{common_steps}
use Rattle.rel_io.proofs.std_sink.StdSinkSink.write.Goals as goal

pub returns-in-Ok-clause-ok_faults : goal.returns-in-Ok-clause-ok_faults
returns-in-Ok-clause-ok_faults g c = grind (arith, common_steps)
