use Rattle.std.proofs.Common.{rules}
use Rattle.keyed_terms.proofs.concluding.conclude.Goals as goal

pub returns-in_err-note-clause-ok : goal.returns-in_err-note-clause-ok
returns-in_err-note-clause-ok g c = search rules

pub returns-in_err-traffic-clause-ok : goal.returns-in_err-traffic-clause-ok
returns-in_err-traffic-clause-ok g c = search rules

pub returns-in_err-push-clause-ok : goal.returns-in_err-push-clause-ok
returns-in_err-push-clause-ok g c = search rules
