use Rattle.std.proofs.Common.{◌∙◌, Some, ap}
use Rattle.myrial_scopes.proofs.ScopeLemmas.{emits_under-none}
use Rattle.myrial_scopes.proofs.scopes.Scope.columns_of.Goals as goal

pub returns-in_ok-columns_under-in-All : goal.returns-in_ok-columns_under-in-All
returns-in_ok-columns_under-in-All c =
    rw c.in-All.is (ap Some (c.in_ok-columns_under-in-All.ensures ∙ emits_under-none c.args.self.now))
