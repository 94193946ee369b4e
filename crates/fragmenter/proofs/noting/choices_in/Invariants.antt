use Rattle.std.proofs.Common.{◌≡◌, ◌≤◌, ◌++◌, length, map, drop}
use Rattle.share_chooser.specs.Shares.{shares_of}
use Rattle.fragmenter.specs.Plans.{choice_tree_of}
use Rattle.fragmenter.specs.NotedPlans.{choices_behind, choices_in}
use Rattle.fragmenter.proofs.noting.choices_in.Given as goal

abbrev pub invariant-loop-note : goal.invariant-loop-note
invariant-loop-note l =
    (choices_in l.notes
    ≡ map choice_tree_of l.choices ++ choices_behind l.statement (shares_of l.shares) (drop l.note-index l.note-items))
    × (length l.choices ≤ l.note-index)
