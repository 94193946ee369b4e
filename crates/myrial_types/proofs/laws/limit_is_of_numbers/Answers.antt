use Rattle.myrial_types.proofs.LimitLemmas.{limit_is_of_numbers}
use Rattle.myrial_types.proofs.laws.limit_is_of_numbers.Goals as goal

pub returns : goal.returns
returns c = limit_is_of_numbers
