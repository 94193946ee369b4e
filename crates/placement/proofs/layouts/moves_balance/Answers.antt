use Rattle.placement.proofs.BalanceLemmas.{moves_balance}
use Rattle.placement.proofs.layouts.moves_balance.Goals as goal

pub returns : goal.returns
returns c = moves_balance
