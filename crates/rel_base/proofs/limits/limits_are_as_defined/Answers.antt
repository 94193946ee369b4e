use Rattle.std.proofs.Common.{rules}
use Rattle.rel_base.proofs.limits.limits_are_as_defined.Goals as goal

pub returns-clause-rows : goal.returns-clause-rows
returns-clause-rows c = search rules

pub returns-clause-taps : goal.returns-clause-taps
returns-clause-taps c = search rules

pub returns-clause-listed : goal.returns-clause-listed
returns-clause-listed c = search rules
