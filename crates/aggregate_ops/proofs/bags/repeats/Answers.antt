use Rattle.std.proofs.Common.{◌∙◌, sym, arith, below_more}
use Rattle.std.proofs.lemmas.List.{length-map}
use Rattle.std.specs.Borrow.{Bor}
use Rattle.myrial_ast.specs.Combinations.{Row}
use Rattle.packed_rows.proofs.StepLemmas.{row-same, row-other, same-values}
use Rattle.aggregate_ops.proofs.bags.repeats.Goals as goal

pub loop-count-preserved : goal.loop-count-preserved
loop-count-preserved c =
    let same = sym (same-values c.index-rows-0.result.now c.index-rows-count.result.now) ∙ sym c.eq.ensures ∙ c.if-eq.true in (
      omega arith,
      omega arith,
      below_more _ _ c.loop-count.invariant.2
          (row-same (λ (r : Bor Row). r.now) c.args.rows.now c.loop-count.count c.index-rows-0.result c.index-rows-count.result c.loop-count-test.true c.requires c.index-rows-0.is
          c.index-rows-count.is same),
    )

pub returns-else-eq : goal.returns-else-eq
returns-else-eq c =
    let other = sym (same-values c.index-rows-0.result.now c.index-rows-count.result.now) ∙ sym c.eq.ensures ∙ c.if-eq.false in
    record {
      some = c.loop-count.invariant.0;
      within = omega (arith, length-map c.args.rows.now (λ (r : Bor Row). r.now));
      same = c.loop-count.invariant.2;
      next = λ _. row-other (λ (r : Bor Row). r.now) c.args.rows.now c.loop-count.count c.index-rows-0.result c.index-rows-count.result c.loop-count-test.true c.requires
          c.index-rows-0.is c.index-rows-count.is other;
    }
