use Rattle.placement.proofs.BalanceLemmas.{exchanges_balance}
use Rattle.placement.proofs.layouts.exchanges_balance.Goals as goal

pub returns : goal.returns
returns c = exchanges_balance
