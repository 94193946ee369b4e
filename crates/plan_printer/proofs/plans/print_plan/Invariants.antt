use Rattle.std.proofs.Common.{◌≡◌, string_bytes, take}
use Rattle.plan_printer.specs.PlanTexts.{plan_text}
use Rattle.plan_printer.proofs.plans.print_plan.Given as goal

abbrev pub invariant-loop-note : goal.invariant-loop-note
invariant-loop-note l = (string_bytes l.text ≡ plan_text (take l.note-index l.note-items)) × (l.into.items ≡ l.fn.into.items)
