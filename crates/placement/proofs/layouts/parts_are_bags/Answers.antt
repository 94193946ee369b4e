use Rattle.placement.proofs.AlikeLemmas.{parts_are_bags}
use Rattle.placement.proofs.layouts.parts_are_bags.Goals as goal

pub returns : goal.returns
returns c = parts_are_bags
