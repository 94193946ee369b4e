use Rattle.std.proofs.Common.{◌∙◌, sym, ap}
use Rattle.std.specs.Option.{option_copied, option_map_or}
use Rattle.placement.specs.Layouts.{Broadcast}
use Rattle.fragmenter.specs.Plans.{shuffle_of}
use Rattle.fragmenter.specs.declared.plans.Choice.{Choice}
use Rattle.fragmenter.proofs.PlanLemmas.{met-found}
use Rattle.fragmenter.proofs.plans.Plan.how.Goals as goal

pub returns-in-Some : goal.returns-in-Some
returns-in-Some c =
    sym (met-found c.args.self.now.choices c.args.statement c.first_choice.result c.first_choice.ensures
    ∙ ap (λ o. option_map_or (λ (x : Choice). shuffle_of x.how) (option_copied o) Broadcast) c.in-Some.is)

pub returns-in-None : goal.returns-in-None
returns-in-None c =
    sym (met-found c.args.self.now.choices c.args.statement c.first_choice.result c.first_choice.ensures
    ∙ ap (λ o. option_map_or (λ (x : Choice). shuffle_of x.how) (option_copied o) Broadcast) c.in-None.is)
