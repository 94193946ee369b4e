use Rattle.std.proofs.Common.{◌+◌, ap, ◌∙◌}
use Rattle.algebra.specs.ShapeTrees.{shape_tree_of}
use Rattle.myrial_ast.specs.KeptRows.{span_of_item}
use Rattle.join_plans.specs.inner.Counts.{tests_within, ties_within}
use Rattle.join_plans.proofs.notes.pushed_of.Goals as goal

pub returns : goal.returns
returns c =
    let shape = shape_tree_of c.args.shape.now in
    let span = c.span_of_atom-span.ensures.value ∙ ap (λ ws. span_of_item ws c.args.atom) c.requires.widths in
    let tests = c.tests_of-tests.ensures.value ∙ ap (λ s. tests_within s shape) span in
    let ties = c.ties_of-ties.ensures.value ∙ (λ i. ties_within (span i) (c.as_slice.ensures.value i)) in
    c.in-Ok.ensures.1 ∙ (λ i. tests i + ties i)
