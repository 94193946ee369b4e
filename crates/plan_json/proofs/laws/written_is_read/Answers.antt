use Rattle.plan_json.proofs.ReadBackLemmas.{written_is_read}
use Rattle.plan_json.proofs.laws.written_is_read.Goals as goal

pub returns : goal.returns
returns c = written_is_read
