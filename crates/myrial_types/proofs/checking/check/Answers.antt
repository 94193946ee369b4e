use Rattle.std.proofs.Common.{◌+◌, ◌<◌, ◌∷◌, List, length, drop, sym, subst, arith}
use Rattle.myrial_ast.specs.Trees.{StatementTree, statement_tree_of, trees_of}
use Rattle.myrial_meaning.proofs.NeededLemmas.{trees-at}
use Rattle.myrial_types.specs.inner.Progress.{Progress, known_of}
use Rattle.myrial_types.proofs.CheckingLemmas.{Stage, stage-start, stage-fault, stage-next}
use Rattle.myrial_types.proofs.checking.check.Goals as goal
use Rattle.myrial_types.proofs.checking.check.Goals.{After-get-statement}

-- the statement stands first in what is left of the script
stage : (c : After-get-statement)
    → Stage c.args.files.now (trees_of c.args.script.now) (statement_tree_of c.get-statement.result.now ∷ drop (c.loop-i.i + 1) (trees_of c.args.script.now)) (c.loop-i.i + 1) (known_of c.loop-i.progress)
stage c =
    let script = c.args.script.now in
    let low : c.loop-i.i < length script = omega arith in
    let P : List StatementTree → Type 0 = λ rest. Stage c.args.files.now (trees_of script) rest (c.loop-i.i + 1) (known_of c.loop-i.progress) in
    subst P (trees-at script c.loop-i.i c.get-statement.result.now low c.get-statement.ensures) c.loop-i.invariant

pub loop-i-init : goal.loop-i-init
loop-i-init c =
    let P : Progress → Type 0 = λ p. Stage c.args.files.now (trees_of c.args.script.now) (trees_of c.args.script.now) 1 p in
    subst P (sym c.new-progress.ensures) (stage-start c.args.files.now (trees_of c.args.script.now))

pub returns-in-Err-clause-fault : goal.returns-in-Err-clause-fault
returns-in-Err-clause-fault c =
    let here = (goal.at.returns-in-Err-clause-fault c).After-get-statement in
    stage-fault c.args.files.now (trees_of c.args.script.now) (statement_tree_of c.get-statement.result.now) (drop (c.loop-i.i + 1) (trees_of c.args.script.now))
    (c.loop-i.i + 1) (known_of c.loop-i.progress) c.in-Err.fault c.in-Err.ensures.fault (stage here)

pub loop-i-preserved : goal.loop-i-preserved
loop-i-preserved c =
    let here = (goal.at.loop-i-preserved c).After-get-statement in
    let files = c.args.files.now in
    let script = trees_of c.args.script.now in
    let statement = statement_tree_of c.get-statement.result.now in
    let rest = drop (c.loop-i.i + 1) script in
    let P : Progress → Type 0 = λ p. Stage files script rest (c.loop-i.i + 1 + 1) p in
    subst P (sym c.in-Ok.ensures.known) (stage-next files script statement rest (c.loop-i.i + 1) (known_of c.loop-i.progress) c.in-Ok.ensures.sound (stage here))
