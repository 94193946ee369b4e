use Rattle.std.proofs.Common.{arith}
use Rattle.trial_gen.specs.TrialScript.{trial_script}
use Rattle.trial_laws.proofs.TokenLemmas.{trial_tokens, trial-AreTokensOf}
use Rattle.trial_laws.proofs.StatementLemmas.{trial-IsScript}
use Rattle.trial_laws.proofs.laws.trial_is_read.Goals as goal

pub returns-clause-short : goal.returns-clause-short
unfolding trial_script
returns-clause-short c = omega arith

pub returns-clause-read : goal.returns-clause-read
returns-clause-read c = record { tokens = trial_tokens; are = trial-AreTokensOf; is = trial-IsScript }
