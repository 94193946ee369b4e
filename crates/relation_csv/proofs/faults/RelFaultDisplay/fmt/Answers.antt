use Rattle.std.proofs.Common.{append_assoc}
use Rattle.relation_csv.proofs.faults.RelFaultDisplay.fmt.Goals as goal

pub returns-in-BadInt-clause-writes : goal.returns-in-BadInt-clause-writes
returns-in-BadInt-clause-writes g c = rw c.in-BadInt.is (simp append_assoc c.write-in-BadInt.ensures.writes)

pub returns-in-BadBool-clause-writes : goal.returns-in-BadBool-clause-writes
returns-in-BadBool-clause-writes g c = rw c.in-BadBool.is (simp append_assoc c.write-in-BadBool.ensures.writes)
