use Rattle.myria_top.proofs.OneAnswerLemmas.{comes_to_one}
use Rattle.myria_top.proofs.RunLemmas.{prints}
use Rattle.myria_top.proofs.laws.runs_have_one_answer.Goals as goal

pub returns-clause-one : goal.returns-clause-one
returns-clause-one c = comes_to_one

pub returns-clause-printed : goal.returns-clause-printed
returns-clause-printed c run err receipts text kept comes = prints run receipts text kept.explained comes
