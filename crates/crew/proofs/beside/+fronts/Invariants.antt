-- The measure: a call on the jobs of a front is above the closure on the others, which is above the call that it makes.
use Rattle.std.proofs.Common.{◌+◌, ◌*◌, length}
use Rattle.crew.proofs.beside.+fronts.Given as goal

abbrev pub decreases-run_beside : goal.decreases-run_beside
decreases-run_beside g l = 2 * length l.front.now

abbrev pub decreases-run_others : goal.decreases-run_others
decreases-run_others g l = 2 * length l.others.now + 1
