use Rattle.fragmenter.proofs.fitting.choices_behind.Goals as goal

-- an error leaves no choices, so nothing is said of them
pub returns-in_default-choices-clause-ok : goal.returns-in_default-choices-clause-ok
returns-in_default-choices-clause-ok c = tt
