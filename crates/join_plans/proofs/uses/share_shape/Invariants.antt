-- the bits so far
use Rattle.std.proofs.Common.{◌≡◌, ◌<◌, ◌^◌, ℕ, length, map, take, get_or}
use Rattle.std.specs.List.{range_with_len}
use Rattle.myrial_ast.specs.KeptRows.{span_of_item}
use Rattle.join_plans.specs.inner.Counts.{bits_in}
use Rattle.join_plans.proofs.uses.share_shape.Given as goal

abbrev pub invariant-loop-j : goal.invariant-loop-j
invariant-loop-j l = record {
  long : length l.uses ≡ 8;
  small : (j : ℕ) → j < l.j → get_or l.uses j 0 < 2 ^ length l.shape.variables;
  so_far : take l.j l.uses ≡ map (λ j. bits_in (span_of_item l.widths.items j) l.shape.variables) (range_with_len 0 l.j);
}
