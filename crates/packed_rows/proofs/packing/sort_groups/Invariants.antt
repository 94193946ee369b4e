-- the words are the same, and no more are sorted than there are
use Rattle.std.proofs.Common.{◌≡◌, ◌-◌, ◌≤◌, length}
use Rattle.std.specs.Prelude.{IsPermutation}
use Rattle.packed_rows.proofs.packing.sort_groups.Given as goal

abbrev pub invariant-loop-done : goal.invariant-loop-done
invariant-loop-done l = record {
  within : l.done ≤ length l.words;
  long : length l.words ≡ length l.initial.words;
  same : IsPermutation l.initial.words l.words;
}

abbrev pub decreases-loop-done : goal.decreases-loop-done
decreases-loop-done l = length l.initial.words - l.done
