use Rattle.std.proofs.Common.{◌≡◌, ◌+◌, ◌≤◌, ◌++◌, suc, length, map, ap, ◌∙◌, arith}
use Rattle.std.specs.List.{enumerate_from}
use Rattle.std.proofs.lemmas.List.{take_all}
use Rattle.algebra.specs.declared.notes.PlanNote.TheVariants as note
use Rattle.algebra.specs.ShapeTrees.{shape_tree_of}
use Rattle.placement.specs.Choices.{shuffle_of}
use Rattle.join_plans.proofs.CountLemmas.{line-more, variable_line, variable-lines}
use Rattle.join_plans.proofs.notes.variable_notes.Goals as goal

pub loop-i-preserved : goal.loop-i-preserved
loop-i-preserved c =
    let shuffle = shuffle_of c.args.choice.now in
    let v = c.variable-item.result in
    let i = c.loop-i.i in
    let one : c.loop-i.i + 1 ≡ suc c.loop-i.i = omega arith in
    line-more (variable_line shuffle c.args.widths.now)
    c.as_slice-variable-items.result.now i v c.args.into.now c.loop-i.into c.add_note.new.into
    (note.Variable (i + 1) c.in_ok-places.places c.share_of.result) c.loop-i-test.true c.variable-item.is
    (λ k. note.Variable (one k) (c.in_ok-places.ensures k) (c.share_of.ensures k)) c.loop-i.invariant c.in_ok-add_note.ensures.ok

pub returns : goal.returns
returns c =
    let shuffle = shuffle_of c.args.choice.now in
    let shape = shape_tree_of c.args.shape.now in
    let items = c.as_slice-variable-items.result.now in
    let over : length c.as_slice-variable-items.result.now ≤ c.loop-i.i = c.loop-i-test.false in
    let all = take_all c.loop-i.i items over ∙ c.as_slice-variable-items.ensures.value in
    c.loop-i.invariant
    ∙ (λ k. c.args.into.now ++ map (variable_line shuffle (c.requires.widths k)) (enumerate_from 0 (all k)))
    ∙ ap (λ lines. c.args.into.now ++ lines) (variable-lines shuffle shape 0 c.args.shape.now.variables)
