use Rattle.relation_csv.proofs.RoundTripLemmas.{relation_of_bytes-file_text}
use Rattle.relation_csv.proofs.laws.written_relation_is_read_back.Goals as goal

pub returns : goal.returns
returns c = relation_of_bytes-file_text
