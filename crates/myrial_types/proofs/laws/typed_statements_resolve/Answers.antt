use Rattle.myrial_types.proofs.ResolvedLemmas.{typed_statements_resolve}
use Rattle.myrial_types.proofs.laws.typed_statements_resolve.Goals as goal

pub returns : goal.returns
returns c = typed_statements_resolve
