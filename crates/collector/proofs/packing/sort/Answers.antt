use Rattle.collector.proofs.packing.sort.Goals as goal

pub returns-clause-same : goal.returns-clause-same
returns-clause-same g c = c.sort_unstable.ensures.permutation

pub returns-clause-ascending : goal.returns-clause-ascending
returns-clause-ascending g c = c.sort_unstable.ensures.sorted
