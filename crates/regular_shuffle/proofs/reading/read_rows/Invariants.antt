use Rattle.std.proofs.Common.{◌≡◌, ℕ, ◌<◌, [], true, get_or}
use Rattle.myrial_ast.specs.Groups.{row_fits}
use Rattle.regular_shuffle.proofs.reading.read_rows.Given as goal

abbrev pub invariant-loop-number : goal.invariant-loop-number
invariant-loop-number l = (k : ℕ) → k < l.number → row_fits (get_or l.rows k []) ≡ true
