-- the columns so far that have the leader
use Rattle.std.proofs.Common.{◌≡◌, ◌==◌, filter}
use Rattle.std.specs.Prelude.{slice_index}
use Rattle.std.specs.List.{range_with_len}
use Rattle.myrial_types.proofs.classes.class_of.Given as goal

abbrev pub invariant-loop-place : goal.invariant-loop-place
invariant-loop-place l =
    l.found ≡ filter (λ d. slice_index l.leaders l.column == slice_index l.leaders d) (range_with_len 0 l.place)
