use Rattle.std.proofs.Common.{◌≡◌, ◌∙◌, ◌++◌, length, ap, sym, filter, map, arith}
use Rattle.std.specs.List.{range_with_len}
use Rattle.myrial_ast.specs.Classes.{joins_items}
use Rattle.myrial_types.specs.inner.Leaders.{class_by, is_first_by, variables_at}
use Rattle.myrial_types.proofs.ClassesLemmas.{variables-more, variables-same}
use Rattle.myrial_types.proofs.classes.variables.Goals as goal

pub loop-column-preserved : goal.loop-column-preserved
loop-column-preserved c =
    let leaders = c.as_slice-all.result.now in
    let column = c.loop-column.column in
    c.in_ok-push_variable.ensures
    ∙ (ap (λ found. found ++ variables_at c.args.widths.now leaders column) c.loop-column.invariant ∙ sym (variables-more c.args.widths.now leaders column))

pub returns : goal.returns
returns c =
    let leaders = c.as_slice-all.result.now in
    let whole : c.loop-column.column ≡ length leaders = omega arith in
    c.loop-column.invariant
    ∙ (ap (λ n. filter (joins_items c.args.widths.now) (map (class_by leaders) (filter (is_first_by leaders) (range_with_len 0 n)))) whole
    ∙ variables-same c.args.widths.now c.args.equalities.now leaders (c.as_slice-all.ensures.value ∙ c.in_ok-leaders.ensures))
