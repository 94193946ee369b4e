use Rattle.std.proofs.Common.{◌<◌, ◌≤◌, List, length, get_or, map, ap, ◌∙◌, arith}
use Rattle.std.specs.Prelude.{filter}
use Rattle.myrial_ast.specs.declared.scalars.Scalar as code
use Rattle.myrial_ast.specs.ScalarTrees.{scalar_tree_of}
use Rattle.myrial_ast.specs.KeptRows.{reads_within}
use Rattle.algebra.specs.declared.shapes.Atom.{Atom}
use Rattle.algebra.specs.Shapes.{shifted}
use Rattle.join_plans.specs.inner.Spans.{span_of}
use Rattle.join_plans.proofs.CountLemmas.{keeps-next, width-at, tests-done}
use Rattle.join_plans.proofs.notes.tests_of.Goals as goal

pub loop-j-preserved : goal.loop-j-preserved
loop-j-preserved c =
    let p = reads_within (span_of c.args.span.now) in
    let atoms = c.args.shape.now.atoms in
    let atom = c.atom-item.result in
    let j = c.loop-j.j in
    let start = c.loop-j.start in
    let same = c.as_slice-atom-items.ensures.value in
    let low : c.loop-j.j < length c.args.shape.now.atoms = omega (arith, c.loop-j-test.true, ap length same) in
    let at = c.atom-item.is ∙ ap (λ (l : List Atom). get_or l j atom) same in
    let width = c.from-start.ensures ∙ ap (λ ws. get_or ws j 0) c.requires.widths ∙ width-at atoms j atom low at in
    let next = keeps-next p atoms j start c.from-start.result atom low at width in
    let own = c.tests_alone-count.ensures.value
    ∙ ap (λ (ts : List code.Scalar). length (filter p (map (λ t. shifted start (scalar_tree_of t)) ts))) c.as_slice.ensures.value in
    record {
      near = omega (arith, c.loop-j.invariant.near, c.type_inv.widths j, c.from-start.ensures);
      few = omega (arith, c.loop-j.invariant.few, c.tests_alone-count.ensures.bound);
      so_far = omega (arith, c.loop-j.invariant.so_far, next, own);
    }

pub returns-clause-value : goal.returns-clause-value
returns-clause-value c =
    let p = reads_within (span_of c.args.span.now) in
    let shape = c.args.shape.now in
    let over : length c.args.shape.now.atoms ≤ c.loop-j.j =
    omega (arith, c.loop-j-test.false, ap length c.as_slice-atom-items.ensures.value) in
    let plain = c.tests_alone.ensures.value
    ∙ ap (λ (ts : List code.Scalar). length (filter p (map (λ t. shifted 0 (scalar_tree_of t)) ts))) c.as_slice-2.ensures.value in
    tests-done p shape.atoms shape.plain c.loop-j.j c.loop-j.start c.loop-j.count c.tests_alone.result over
    c.loop-j.invariant.so_far plain
