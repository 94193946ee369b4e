use Rattle.myria_top.proofs.FewerPrefixLemmas.{reducing_adds_no_fault}
use Rattle.myria_top.proofs.ReducingLemmas.{reducing_keeps_faults, reducing-keeps-answers}
use Rattle.myria_top.proofs.laws.reducing_keeps_answers.Goals as goal

pub returns-clause-faults : goal.returns-clause-faults
returns-clause-faults c = reducing_keeps_faults

pub returns-clause-answers : goal.returns-clause-answers
returns-clause-answers c r reduce alone uncounted content script = reducing-keeps-answers r reduce alone uncounted content script

pub returns-clause-adds : goal.returns-clause-adds
returns-clause-adds c = reducing_adds_no_fault
