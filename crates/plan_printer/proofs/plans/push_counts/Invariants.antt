use Rattle.std.proofs.Common.{◌≡◌, ◌++◌, string_bytes, take}
use Rattle.plan_printer.specs.PlanTexts.{counts_text}
use Rattle.plan_printer.proofs.plans.push_counts.Given as goal

abbrev pub invariant-loop-count : goal.invariant-loop-count
invariant-loop-count l = string_bytes l.text ≡ string_bytes l.initial.text ++ counts_text (take l.count-index l.count-items)
