use Rattle.std.proofs.Common.{append_assoc}
use Rattle.myrial_parser.proofs.faults.ParseFaultDisplay.fmt.Goals as goal

pub returns-in-TooMany-clause-writes : goal.returns-in-TooMany-clause-writes
returns-in-TooMany-clause-writes g c = rw c.in-TooMany.is (simp append_assoc c.write-in-TooMany.ensures.writes)
