use Rattle.std.proofs.Common.{◌≡◌, ◌∙◌, ◌+◌, false, get_or, drop, sym, ap}
use Rattle.std.proofs.lemmas.List.{length-map}
use Rattle.myrial_ast.specs.Trees.{statement_tree_of, trees_of}
use Rattle.myrial_meaning.specs.Needed.{is_live, is_needed}
use Rattle.myrial_meaning.proofs.NeededLemmas.{flag-at, length-needed_flags, trees-at}
use Rattle.myrial_meaning.proofs.needed.is_live.Goals as goal

pub bounds-needed-i : goal.bounds-needed-i
bounds-needed-i c =
    rw (c.requires, length-needed_flags (trees_of c.args.rest.now), length-map c.args.rest.now statement_tree_of) c.loop-i-test.true

pub loop-i-preserved : goal.loop-i-preserved
loop-i-preserved c =
    let script = c.args.rest.now in
    let i = c.loop-i.i in
    let s = c.index-rest-i.result in
    let rest = drop (i + 1) (trees_of script) in
    let flag : get_or c.args.needed.now i false ≡ is_needed (statement_tree_of s) rest =
    rw c.requires (flag-at script i s c.loop-i-test.true c.index-rest-i.is false) in
    let told = c.liveness_from.ensures rest flag in
    c.loop-i.invariant ∙ ap (is_live c.args.name.now) (trees-at script i s c.loop-i-test.true c.index-rest-i.is)
    ∙ (rw c.in_default.is at told)

pub returns-in-Some : goal.returns-in-Some
returns-in-Some c =
    let script = c.args.rest.now in
    let i = c.loop-i.i in
    let s = c.index-rest-i.result in
    let rest = drop (i + 1) (trees_of script) in
    let flag : get_or c.args.needed.now i false ≡ is_needed (statement_tree_of s) rest =
    rw c.requires (flag-at script i s c.loop-i-test.true c.index-rest-i.is false) in
    let told = c.liveness_from.ensures rest flag in
    sym (c.loop-i.invariant ∙ ap (is_live c.args.name.now) (trees-at script i s c.loop-i-test.true c.index-rest-i.is)
    ∙ (rw c.in-Some.is at told))
