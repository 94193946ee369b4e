use Rattle.myria_top.proofs.TrialAnswerLemmas.{trial-answers}
use Rattle.myria_top.proofs.laws.trials_are_of_their_run.Goals as goal

pub returns : goal.returns
returns c = trial-answers c.trial_is_read.ensures.read c.trial_is_typed.ensures.typed
