use Rattle.plan_printer.proofs.TextLemmas.{four_in_turn}
use Rattle.plan_printer.proofs.plans.push_variable.Goals as goal

pub returns : goal.returns
returns c =
    four_in_turn _ _ _ _ _ c.in_ok-write.ensures.bytes c.in_ok-push_columns.ensures c.in_ok-push_share.ensures c.in_ok-push_str.ensures.bytes
