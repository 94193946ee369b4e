use Rattle.std.proofs.Common.{◌<◌, All, length}
use Rattle.rel_base.proofs.PickLemmas.{rest_nonempty}
use Rattle.rel_base.proofs.row_iter.Behind.take_run.Goals as goal
use Rattle.rel_base.proofs.row_iter.Behind.take_run.Goals.{In-Some-split_first}

-- each stretch behind the first has a row
rest : (c : In-Some-split_first) → All (λ s. 0 < length s) c.in-Some-split_first.rest.now
rest c =
    let cases = rw c.in-Some-split_first.is at c.split_first.ensures.cases in
    rest_nonempty _ _ (rw cases.0 at c.self.invariant)

pub invariant_of-self-in-Apart : goal.invariant_of-self-in-Apart
invariant_of-self-in-Apart c = rest (goal.at.invariant_of-self-in-Apart c).In-Some-split_first

pub invariant_of-self-in-At : goal.invariant_of-self-in-At
invariant_of-self-in-At c = rest (goal.at.invariant_of-self-in-At c).In-Some-split_first
