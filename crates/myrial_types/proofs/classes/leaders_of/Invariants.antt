-- the leaders by the equalities from this one on
use Rattle.std.proofs.Common.{◌≡◌, map, drop}
use Rattle.std.specs.Prelude.{sum}
use Rattle.std.specs.List.{range_with_len}
use Rattle.myrial_ast.specs.Classes.{leader}
use Rattle.myrial_types.proofs.classes.leaders_of.Given as goal

abbrev pub invariant-loop-i : goal.invariant-loop-i
invariant-loop-i l = l.leaders.items ≡ map (leader (drop l.i l.equalities)) (range_with_len 0 (sum l.widths))
