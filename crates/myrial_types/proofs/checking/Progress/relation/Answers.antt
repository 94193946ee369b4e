use Rattle.myrial_types.proofs.checking.Progress.relation.Goals as goal

pub returns-in-UnionAll-clause-sound : goal.returns-in-UnionAll-clause-sound
returns-in-UnionAll-clause-sound c = rw c.in-UnionAll.is c.two.ensures.sound

pub returns-in-Diff-clause-sound : goal.returns-in-Diff-clause-sound
returns-in-Diff-clause-sound c = rw c.in-Diff.is c.two-in-Diff.ensures.sound
