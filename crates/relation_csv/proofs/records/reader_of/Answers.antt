use Rattle.std.proofs.Common.{refl}
use Rattle.relation_csv.specs.inner.RecordsLeft.{records_left}
use Rattle.relation_csv.proofs.records.reader_of.Goals as goal

pub returns-clause-left : goal.returns-clause-left
unfolding records_left
returns-clause-left c = let fr = c.from_reader.ensures in rw (fr.source, fr.state) refl
