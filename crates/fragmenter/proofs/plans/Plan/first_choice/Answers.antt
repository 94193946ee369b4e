use Rattle.std.proofs.Common.{◌==◌, ◌∙◌, Bool, find, ap, rules, tests}
use Rattle.std.proofs.lemmas.Iterator.{YieldsList-from_slice}
use Rattle.std.proofs.lemmas.Iterator.Search.{find_from_yields_List}
use Rattle.fragmenter.specs.declared.plans.Choice.{Choice}
use Rattle.fragmenter.proofs.plans.Plan.first_choice.Goals as goal

pub returns : goal.returns
returns c =
    let is_its : Choice → Bool = λ choice. choice.statement == c.args.statement in
    find_from_yields_List is_its _ _ c.find.result c.find.ensures.ran
    (YieldsList-from_slice c.as_slice-choices.result.now cc) (λ choice b q k. search (rules, tests))
    ∙ ap (find is_its) c.as_slice-choices.ensures.value
