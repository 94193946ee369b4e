use Rattle.std.proofs.Common.{codes, string_bytes}
use Rattle.std.specs.Fmt.{decimal}
use Rattle.plan_printer.specs.TrafficTexts.{exchange_words}
use Rattle.plan_printer.proofs.TextLemmas.{title_in_turn}
use Rattle.plan_printer.proofs.traffic.push_title.Goals as goal

pub returns : goal.returns
returns c =
    title_in_turn (string_bytes c.args.text.now) (codes "-- traffic ") (decimal c.args.statement) (codes " ") (exchange_words c.args.exchange) (codes "\n")
    c.in_ok-write.ensures.bytes c.in_ok-push_words.ensures c.in_ok-push_str.ensures.bytes
