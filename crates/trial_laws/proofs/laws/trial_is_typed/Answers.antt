use Rattle.trial_laws.proofs.TypingLemmas.{trial-fetches, trial-are_fetched, trial-have_forms, trial-AreTyped, trial-checked_of, trial-is_of}
use Rattle.trial_laws.proofs.laws.trial_is_typed.Goals as goal

pub returns-clause-fetched : goal.returns-clause-fetched
returns-clause-fetched c = trial-fetches

pub returns-clause-files : goal.returns-clause-files
returns-clause-files c = trial-are_fetched

pub returns-clause-formed : goal.returns-clause-formed
returns-clause-formed c = trial-have_forms

pub returns-clause-rows : goal.returns-clause-rows
returns-clause-rows c = trial-AreTyped

pub returns-clause-typed : goal.returns-clause-typed
returns-clause-typed c = trial-checked_of

pub returns-clause-steps : goal.returns-clause-steps
returns-clause-steps c = trial-is_of
