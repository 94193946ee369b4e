use Rattle.std.proofs.Common.{◌≡◌, ◌∙◌, ◌+◌, ◌<◌, ◌≤◌, true, false, length, drop, sym, ap, refl}
use Rattle.std.proofs.lemmas.List.{drop_all, length-map}
use Rattle.myrial_ast.specs.Trees.{statement_tree_of, trees_of}
use Rattle.myrial_meaning.specs.inner.Columns.{all_declared}
use Rattle.myrial_meaning.specs.Runnable.{is_defined}
use Rattle.myrial_meaning.proofs.ColumnLemmas.{has_meaning-declared, all_declared-here, all_declared-first}
use Rattle.myrial_meaning.proofs.NeededLemmas.{trees-at}
use Rattle.myrial_meaning.proofs.checking.has_meaning.Goals as goal

pub returns-then-not-branch : goal.returns-then-not-branch
returns-then-not-branch c =
    let items = c.as_slice-statement-items.ensures.value in
    let script = c.args.script.now in
    let i = c.loop-statement.statement-index in
    let low : i < length script = rw items at c.loop-statement-test.true in
    let split = trees-at script i c.statement-item.result low (rw items at c.statement-item.is) in
    let fails : is_defined c.args.files.now c.loop-statement.names (statement_tree_of c.statement-item.result) ≡ false =
    sym c.in_ok-declare.ensures.defined ∙ c.if-not-branch.true in
    sym (has_meaning-declared c.args.files.now (trees_of script)
    ∙ (c.loop-statement.invariant
    ∙ (ap (all_declared c.args.files.now c.loop-statement.names) split
    ∙ all_declared-first c.args.files.now c.loop-statement.names (statement_tree_of c.statement-item.result) (drop (i + 1) (trees_of script)) fails)))

pub loop-statement-preserved : goal.loop-statement-preserved
loop-statement-preserved c =
    let items = c.as_slice-statement-items.ensures.value in
    let script = c.args.script.now in
    let i = c.loop-statement.statement-index in
    let low : i < length script = rw items at c.loop-statement-test.true in
    let split = trees-at script i c.statement-item.result low (rw items at c.statement-item.is) in
    let holds : is_defined c.args.files.now c.loop-statement.names (statement_tree_of c.statement-item.result) ≡ true =
    sym c.in_ok-declare.ensures.defined ∙ c.if-not-branch.false in
    c.loop-statement.invariant
    ∙ (ap (all_declared c.args.files.now c.loop-statement.names) split
    ∙ (all_declared-here c.args.files.now c.loop-statement.names (statement_tree_of c.statement-item.result) (drop (i + 1) (trees_of script)) holds
    ∙ rw (← c.in_ok-declare.ensures.declared c.if-not-branch.false) refl))

pub returns : goal.returns
returns c =
    let script = c.args.script.now in
    let i = c.loop-statement.statement-index in
    let past : length script ≤ i = rw (← c.as_slice-statement-items.ensures.value) c.loop-statement-test.false in
    let long : length (trees_of script) ≤ i = rw (length-map script statement_tree_of) past in
    sym (has_meaning-declared c.args.files.now (trees_of script)
    ∙ (c.loop-statement.invariant ∙ rw (drop_all i (trees_of script) long) refl))
