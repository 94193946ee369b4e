use Rattle.std.proofs.Common.{string_bytes}
use Rattle.plan_printer.specs.TrafficTexts.{title, workers_text}
use Rattle.plan_printer.proofs.TextLemmas.{two_in_turn}
use Rattle.plan_printer.proofs.traffic.push_exchange.Goals as goal

pub returns : goal.returns
returns c =
    let traffic = c.args.traffic.now in
    two_in_turn (string_bytes c.args.text.now) (title traffic.statement traffic.exchange) (workers_text traffic.received traffic.listed)
    c.in_ok-push_title.ensures (rw (c.as_slice.ensures.value, c.as_slice-2.ensures.value) at c.in_ok-push_workers.ensures)
