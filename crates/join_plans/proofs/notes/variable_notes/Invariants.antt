-- the lines so far
use Rattle.std.proofs.Common.{◌≡◌, ◌++◌, map, take}
use Rattle.std.specs.List.{enumerate_from}
use Rattle.placement.specs.Choices.{shuffle_of}
use Rattle.join_plans.proofs.CountLemmas.{variable_line}
use Rattle.join_plans.proofs.notes.variable_notes.Given as goal

abbrev pub invariant-loop-i : goal.invariant-loop-i
invariant-loop-i l = l.into ≡ l.initial.into ++ map (variable_line (shuffle_of l.choice) l.widths)
    (enumerate_from 0 (take l.i l.variable-items))
