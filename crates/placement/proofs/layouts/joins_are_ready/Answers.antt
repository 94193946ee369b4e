use Rattle.placement.proofs.ReadyLemmas.{joins_are_ready}
use Rattle.placement.proofs.layouts.joins_are_ready.Goals as goal

pub returns : goal.returns
returns c = joins_are_ready
