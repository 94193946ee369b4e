use Rattle.std.proofs.Common.{◌≡◌, ◌++◌, string_bytes, take}
use Rattle.plan_printer.specs.PlanTexts.{columns_text}
use Rattle.plan_printer.proofs.plans.push_columns.Given as goal

abbrev pub invariant-loop-item : goal.invariant-loop-item
invariant-loop-item l = string_bytes l.text ≡ string_bytes l.initial.text ++ columns_text (take l.item-index l.item-items)
