-- the rows are numbers
use Rattle.algebra.specs.ShapeConditions.{HasKinds}
use Rattle.shuffle_tests.specs.inner.Numbers.{number_kinds}
use Rattle.shuffle_tests.proofs.numbers.dealt_to.Given as goal

abbrev pub invariant-loop-place : goal.invariant-loop-place
invariant-loop-place l = HasKinds number_kinds l.rows
