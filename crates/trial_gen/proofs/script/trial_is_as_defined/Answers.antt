use Rattle.std.proofs.Common.{refl, rules}
use Rattle.trial_gen.specs.TrialScript.{trial_script}
use Rattle.trial_gen.proofs.script.trial_is_as_defined.Goals as goal

pub returns-clause-script : goal.returns-clause-script
unfolding trial_script
returns-clause-script c = refl

pub returns-clause-rows : goal.returns-clause-rows
returns-clause-rows c = search rules
