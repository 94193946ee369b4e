use Rattle.std.proofs.Common.{◌≡◌, ◌+◌, ◌≤◌, ◌<◌, ◌++◌, suc, length, get_or, map, sym, ap, ◌∙◌, arith}
use Rattle.std.specs.List.{enumerate_from, zip}
use Rattle.std.proofs.lemmas.List.{take_all, get_or_default}
use Rattle.std.proofs.lemmas.Slice.Zip.{get_or-zip}
use Rattle.algebra.specs.declared.notes.PlanNote.TheVariants as note
use Rattle.algebra.specs.ShapeTrees.{shape_tree_of}
use Rattle.join_plans.specs.inner.Lines.{item_line}
use Rattle.join_plans.proofs.CountLemmas.{line-more, widths-long, zip-long}
use Rattle.join_plans.proofs.notes.item_notes.Goals as goal

pub loop-j-preserved : goal.loop-j-preserved
loop-j-preserved c =
    let shape = shape_tree_of c.args.shape.now in
    let rows = c.args.rows.now in
    let kept = c.args.kept.now in
    let j = c.loop-j.j in
    let many = ap length c.requires.widths ∙ widths-long c.args.shape.now.atoms in
    let low_rows : c.loop-j.j < length c.args.rows.now = omega (arith, c.loop-j-test.true, many, c.requires.rows) in
    let low_kept : c.loop-j.j < length c.args.kept.now = omega (arith, c.loop-j-test.true, many, c.requires.kept) in
    let both : length c.args.rows.now ≡ length c.args.kept.now = omega (arith, c.requires.rows, c.requires.kept) in
    let low : c.loop-j.j < length (zip c.args.rows.now c.args.kept.now) = omega (arith, low_rows, zip-long rows kept both) in
    let one : c.loop-j.j + 1 ≡ suc c.loop-j.j = omega arith in
    line-more (item_line shape) (zip rows kept) j (get_or rows j 0, get_or kept j 0)
    c.args.into.now c.loop-j.into c.add_note.new.into
    (note.Item (j + 1) (get_or rows j 0) c.in_ok-pushed.pushed (get_or kept j 0)) low
    (sym (get_or_default (zip rows kept) j (get_or rows j 0, get_or kept j 0) (0, 0) low
    ∙ get_or-zip rows kept j (0, 0) low_rows low_kept))
    (λ k. note.Item (one k) (get_or rows j 0) (c.in_ok-pushed.ensures k) (get_or kept j 0))
    c.loop-j.invariant c.in_ok-add_note.ensures.ok

pub returns : goal.returns
returns c =
    let shape = shape_tree_of c.args.shape.now in
    let rows = c.args.rows.now in
    let kept = c.args.kept.now in
    let many = ap length c.requires.widths ∙ widths-long c.args.shape.now.atoms in
    let both : length c.args.rows.now ≡ length c.args.kept.now = omega (arith, c.requires.rows, c.requires.kept) in
    let over : length (zip c.args.rows.now c.args.kept.now) ≤ c.loop-j.j =
    omega (arith, c.loop-j-test.false, many, c.requires.rows, zip-long rows kept both) in
    c.loop-j.invariant ∙ ap (λ es. c.args.into.now ++ map (item_line shape) (enumerate_from 0 es))
    (take_all c.loop-j.j (zip rows kept) over)
