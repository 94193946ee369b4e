use Rattle.std.proofs.Common.{◌≡◌, true, is_lt, arith, below_more, rules, sym, subst}
use Rattle.std.proofs.lemmas.Grind.{common_steps}
use Rattle.rel_base.specs.Values.{row_order}
use Rattle.myrial_ast.specs.Combinations.{Row}
use Rattle.std.specs.Borrow.{Bor}
use Rattle.packed_rows.proofs.StepLemmas.{row-item}
use Rattle.aggregate_ops.proofs.bags.rows_below.Goals as goal

pub loop-count-preserved : goal.loop-count-preserved
loop-count-preserved c =
    let less : is_lt (row_order c.index-rows-count.result.now c.args.row.now) ≡ true = search rules in (
      omega arith,
      below_more _ _ c.loop-count.invariant.1
          (subst (λ (r : Row). is_lt (row_order r c.args.row.now) ≡ true)
          (sym (row-item (λ (r : Bor Row). r.now) c.args.rows.now c.loop-count.count c.index-rows-count.result c.loop-count-test.true c.index-rows-count.is)) less),
    )

pub returns-else-is_lt : goal.returns-else-is_lt
returns-else-is_lt c = grind (arith, common_steps)
