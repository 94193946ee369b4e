use Rattle.std.proofs.Common.{◌≡◌, string_bytes, take}
use Rattle.plan_printer.specs.TrafficTexts.{traffic_text}
use Rattle.plan_printer.proofs.traffic.print_traffic.Given as goal

abbrev pub invariant-loop-traffic : goal.invariant-loop-traffic
invariant-loop-traffic l = (string_bytes l.text ≡ traffic_text (take l.traffic-index l.traffic-items)) × (l.into.items ≡ l.fn.into.items)
