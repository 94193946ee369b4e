-- The measure: a call on jobs is above the closure on a half of them, which is above the call that it makes.
use Rattle.std.proofs.Common.{◌+◌, ◌*◌, length}
use Rattle.crew.proofs.halving.+halves.Given as goal

abbrev pub decreases-run_all : goal.decreases-run_all
decreases-run_all g l = 2 * length l.jobs.now

abbrev pub decreases-run_front : goal.decreases-run_front
decreases-run_front g l = 2 * length l.front.now + 1

abbrev pub decreases-run_back : goal.decreases-run_back
decreases-run_back g l = 2 * length l.back.now + 1
