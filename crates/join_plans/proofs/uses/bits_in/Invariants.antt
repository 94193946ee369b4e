-- the bits so far, and the next one
use Rattle.std.proofs.Common.{◌≡◌, ◌<◌, ◌^◌, take}
use Rattle.join_plans.specs.inner.Spans.{span_of}
use Rattle.join_plans.specs.inner.Counts.{bits_in}
use Rattle.join_plans.proofs.uses.bits_in.Given as goal

abbrev pub invariant-loop-variable : goal.invariant-loop-variable
invariant-loop-variable l = record {
  next : l.bit ≡ 2 ^ l.variable-index;
  small : l.bits < 2 ^ l.variable-index;
  so_far : l.bits ≡ bits_in (span_of l.span) (take l.variable-index l.variables);
}
