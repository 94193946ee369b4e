use Rattle.std.proofs.Common.{length}
use Rattle.myrial_scopes.proofs.items.+has_doubled_alias.Given as goal

abbrev pub decreases-has_doubled_alias : goal.decreases-has_doubled_alias
decreases-has_doubled_alias l = length l.items.now
