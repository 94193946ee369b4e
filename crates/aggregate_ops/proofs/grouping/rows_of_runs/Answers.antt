use Rattle.std.proofs.Common.{◌≡◌, ◌∙◌, ◌+◌, ◌≤◌, ◌∷◌, [], ◌++◌, length, map, take, drop, arith, ap, subst, sym, length-append}
use Rattle.std.proofs.lemmas.Grind.{common_steps}
use Rattle.std.proofs.lemmas.List.{length-map, length-drop, drop-drop}
use Rattle.myrial_ast.specs.Combinations.{Rows}
use Rattle.myrial_ast.specs.Groups.{group_row}
use Rattle.algebra.specs.Trees.{kind_of_emit}
use Rattle.packed_rows.specs.Runs.{IsRun}
use Rattle.aggregate_ops.specs.Columns.{key_at}
use Rattle.aggregate_ops.specs.Forms.{grouped_kinds, formed}
use Rattle.aggregate_ops.specs.inner.Reading.{rows_of}
use Rattle.aggregate_ops.proofs.CellLemmas.{LeftOver, one-more, one-overflows-as}
use Rattle.aggregate_ops.proofs.grouping.rows_of_runs.Goals as goal

pub loop-done-preserved : goal.loop-done-preserved
loop-done-preserved c =
    let kinds = map kind_of_emit c.args.kinds.now in
    let places = c.args.places.now in
    let rows = rows_of c.args.ordered in
    let done = c.loop-done.done in
    let count = c.run_length-count.result in
    let left : rows_of c.behind-left.result ≡ drop done rows = c.behind-left.ensures in
    let run : IsRun (map (key_at places) (drop done rows)) count = rw left at c.run_length-count.ensures in
    let front : rows_of c.front.result ≡ take count (drop done rows) = c.front.ensures ∙ ap (take count) left in
    let one = formed c.args.form kinds (group_row (grouped_kinds c.args.form kinds) (take count (drop done rows))) in
    let row : c.put_row.new.into ≡ one = rw (front, c.loop-done.invariant.empty) at c.in-Ok.ensures.row in
    let fits = rw front at c.in-Ok.ensures.fits in
    let within : count ≤ length (drop done rows) = omega (arith, run.within, length-map (drop done rows) (key_at places)) in
    let more = one-more c.args.form kinds places rows c.loop-done.made (drop done rows) count c.put_row.new.into c.requires.places c.loop-done.invariant.left run row fits in
    let made : c.push_from.new.self ≡ c.loop-done.made ++ c.put_row.new.into ∷ [] = c.in_ok-push_from-in-Ok.ensures.ok in record {
      within = omega (arith, within, length-drop done rows);
      few = omega (arith, run.some, length-append c.loop-done.made (c.put_row.new.into ∷ []), ap length made);
      empty = c.in_ok-push_from-in-Ok.ensures.none;
      left = subst (λ (made : Rows). LeftOver c.args.form kinds places rows made (drop (done + count) rows)) (sym made)
          (subst (λ (left : Rows). LeftOver c.args.form kinds places rows (c.loop-done.made ++ c.put_row.new.into ∷ []) left) (drop-drop count done rows) more);
    }

pub returns-in-Err-clause-fault : goal.returns-in-Err-clause-fault
returns-in-Err-clause-fault c =
    let rows = rows_of c.args.ordered in
    let count = c.run_length-count.result in
    let left : rows_of c.behind-left.result ≡ drop c.loop-done.done rows = c.behind-left.ensures in
    let run : IsRun (map (key_at c.args.places.now) (drop c.loop-done.done rows)) count = rw left at c.run_length-count.ensures in
    let front : rows_of c.front.result ≡ take count (drop c.loop-done.done rows) = c.front.ensures ∙ ap (take count) left in
    one-overflows-as c.args.form (map kind_of_emit c.args.kinds.now) c.args.places.now rows c.loop-done.made (drop c.loop-done.done rows) count c.in-Err.fault
    c.requires.places c.loop-done.invariant.left run (rw front at c.in-Err.ensures.fault)

pub returns-clause-rows : goal.returns-clause-rows
returns-clause-rows c = grind (arith, common_steps)

pub returns-clause-fits : goal.returns-clause-fits
returns-clause-fits c = grind (arith, common_steps)

pub loop-done-init : goal.loop-done-init
loop-done-init c = grind (arith, common_steps)

pub loop-done-smaller : goal.loop-done-smaller
loop-done-smaller c = grind (arith, common_steps)

pub run_length-count-requires : goal.run_length-count-requires
run_length-count-requires c = grind (arith, common_steps)

pub put_row-requires : goal.put_row-requires
put_row-requires c = grind (arith, common_steps)

pub overflow_add-done : goal.overflow_add-done
overflow_add-done c = grind (arith, common_steps)
