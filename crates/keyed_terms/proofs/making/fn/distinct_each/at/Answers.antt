use Rattle.std.proofs.Common.{rules}
use Rattle.keyed_terms.proofs.making.fn.distinct_each.at.Goals as goal

pub returns : goal.returns
returns c = search rules
