use Rattle.std.proofs.Common.{◌≡◌, map}
use Rattle.myrial_meaning.specs.SortedFiles.{sorted_file}
use Rattle.myrial_meaning.proofs.environment.Environment.into_stored.Given as goal

abbrev pub invariant-loop-key : goal.invariant-loop-key
invariant-loop-key l = l.ordered ≡ map sorted_file l.yielded
