use Rattle.std.proofs.Common.{rules, tests}
use Rattle.std.proofs.lemmas.Iterator.{YieldsList-from_slice}
use Rattle.std.proofs.lemmas.Iterator.Search.{any_from_yields_List}
use Rattle.rel_base.specs.Keys.{same_key}
use Rattle.myrial_types.proofs.fetching.is_among.Goals as goal

-- the search goes over all the keys, and stops at an equal one
pub returns : goal.returns
returns c =
    any_from_yields_List (λ other. same_key other c.args.key.now) _ _ _ c.any.ensures.ran
    (YieldsList-from_slice c.args.keys.now cc) (λ other b q k. search (rules, tests))
