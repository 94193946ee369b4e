use Rattle.relation_csv.proofs.NoMemoryLemmas.{relation_of_bytes-no_memory, relation_with-no_memory}
use Rattle.relation_csv.proofs.laws.no_definition_gives_memory.Goals as goal

pub returns : goal.returns
returns c = record { with_header = relation_of_bytes-no_memory; without_header = relation_with-no_memory }
