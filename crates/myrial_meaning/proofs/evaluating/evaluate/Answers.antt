use Rattle.std.proofs.Common.{◌≡◌, ◌∙◌, ◌+◌, ◌<◌, ◌≤◌, [], ◌∷◌, Bool, List, length, get_or, drop, sym, ap, subst, arith, refl}
use Rattle.std.proofs.lemmas.List.{length-map, drop_all}
use Rattle.myrial_ast.specs.Trees.{StatementTree, statement_tree_of, trees_of}
use Rattle.myrial_meaning.specs.Meaning.{RelationEnvironment}
use Rattle.myrial_meaning.specs.Needed.{is_needed}
use Rattle.myrial_meaning.specs.inner.NeededFlags.{needed_flags}
use Rattle.myrial_meaning.proofs.NeededLemmas.{flag-at, length-needed_flags, trees-at}
use Rattle.myrial_meaning.proofs.StageLemmas.{BagStage, bag-start, bag-defined, bag-fault, bag-few, bag-run, bag-skipped, bag-stored}
use Rattle.myrial_meaning.proofs.evaluating.evaluate.Goals as goal
use Rattle.myrial_meaning.proofs.evaluating.evaluate.Goals.{After-index, then-index+in-Ok, else-index}

-- the flag of a statement says whether it is needed
flag : (c : After-index)
    → c.index.result.now ≡ is_needed (statement_tree_of c.get-statement.result.now) (drop (c.loop-i.i + 1) (trees_of c.args.script.now))
flag c =
    let script = c.args.script.now in
    let flags : c.in_ok-needed.needed.items ≡ needed_flags (trees_of script) = c.in_ok-needed.ensures ∙ rw c.as_slice.ensures.value refl in
    let low : c.loop-i.i < length script = omega arith in
    c.index.ensures
    ∙ (ap (λ (fs : List Bool). get_or fs c.loop-i.i c.index.result.now) flags
    ∙ flag-at script c.loop-i.i c.get-statement.result.now low c.get-statement.ensures c.index.result.now)

-- the statement stands first in what is left of the script
stage : (c : After-index)
    → BagStage c.args.files.now (trees_of c.args.script.now) (statement_tree_of c.get-statement.result.now ∷ drop (c.loop-i.i + 1) (trees_of c.args.script.now)) (c.loop-i.i + 1) c.loop-i.names
stage c =
    let script = c.args.script.now in
    let low : c.loop-i.i < length script = omega arith in
    let P : List StatementTree → Type 0 = λ rest. BagStage c.args.files.now (trees_of script) rest (c.loop-i.i + 1) c.loop-i.names in
    subst P (trees-at script c.loop-i.i c.get-statement.result.now low c.get-statement.ensures) c.loop-i.invariant

pub index-requires : goal.index-requires
index-requires c =
    let script = c.args.script.now in
    let flags : c.in_ok-needed.needed.items ≡ needed_flags (trees_of script) = c.in_ok-needed.ensures ∙ rw c.as_slice.ensures.value refl in
    let long : length c.in_ok-needed.needed.items ≡ length script =
    ap length flags ∙ (length-needed_flags (trees_of script) ∙ length-map script statement_tree_of) in
    omega (arith, long)

pub run-requires : goal.run-requires
run-requires c =
    let here = (goal.at.run-requires c).After-index in
    bag-defined c.args.files.now (trees_of c.args.script.now) (statement_tree_of c.get-statement.result.now) (drop (c.loop-i.i + 1) (trees_of c.args.script.now))
    (c.loop-i.i + 1) c.loop-i.names (sym (flag here) ∙ c.if-index.true) (stage here)

pub returns-in-Err-clause-fault : goal.returns-in-Err-clause-fault
returns-in-Err-clause-fault c =
    let here = (goal.at.returns-in-Err-clause-fault c).After-index in
    bag-fault c.args.files.now (trees_of c.args.script.now) (statement_tree_of c.get-statement.result.now) (drop (c.loop-i.i + 1) (trees_of c.args.script.now))
    (c.loop-i.i + 1) c.loop-i.names c.in-Err.fault (sym (flag here) ∙ c.if-index.true) c.in-Err.ensures.fault (stage here)

pub loop-i-preserved : goal.loop-i-preserved
loop-i-preserved c =
    let here = (goal.at.loop-i-preserved c).After-index in
    let files = c.args.files.now in
    let script = trees_of c.args.script.now in
    let statement = statement_tree_of c.get-statement.result.now in
    let rest = drop (c.loop-i.i + 1) script in
    let P : RelationEnvironment → Type 0 = λ names. BagStage files script rest (c.loop-i.i + 1 + 1) names in
    elim c.if-index.branch [
      | then-index+in-Ok w ↦
          subst P (sym w.names-is)
          (bag-run files script statement rest (c.loop-i.i + 1) c.loop-i.names w.run.new.self (sym (flag here) ∙ w.if-index.true) w.in-Ok.ensures.no_fault w.in-Ok.ensures.after (stage here))
      | else-index w ↦
          subst P (sym w.names-is)
          (bag-skipped files script statement rest (c.loop-i.i + 1) c.loop-i.names (sym (flag here) ∙ w.if-index.false) (stage here))
    ]

pub loop-i-init : goal.loop-i-init
loop-i-init c = rw c.new-names.ensures (bag-start c.args.files.now (trees_of c.args.script.now) c.requires.meaning)

pub into_stored-requires : goal.into_stored-requires
into_stored-requires c =
    let few = bag-few c.args.files.now (trees_of c.args.script.now) (c.loop-i.i + 1) (drop c.loop-i.i (trees_of c.args.script.now)) c.loop-i.names c.loop-i.invariant in
    omega (arith, few)

pub returns-clause-stored : goal.returns-clause-stored
returns-clause-stored c =
    let script = trees_of c.args.script.now in
    let past : length script ≤ c.loop-i.i = omega (arith, length-map c.args.script.now statement_tree_of) in
    let none : drop c.loop-i.i script ≡ [] = drop_all c.loop-i.i script past in
    let P : List StatementTree → Type 0 = λ rest. BagStage c.args.files.now script rest (c.loop-i.i + 1) c.loop-i.names in
    c.in_ok-into_stored.ensures ∙ bag-stored c.args.files.now script (c.loop-i.i + 1) c.loop-i.names (subst P none c.loop-i.invariant)
