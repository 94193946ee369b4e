use Rattle.std.proofs.Common.{◌≡◌, [], true, arith}
use Rattle.myrial_ast.specs.Combinations.{Row}
use Rattle.myrial_ast.specs.Groups.{row_fits}
use Rattle.regular_shuffle.proofs.ReadingLemmas.{next-place, by-places}
use Rattle.regular_shuffle.proofs.reading.read_rows.Goals as goal

pub loop-number-preserved : goal.loop-number-preserved
loop-number-preserved c =
    next-place (λ (row : Row). row_fits row ≡ true) c.args.rows.now c.loop-number.number c.get.result.now [] (omega (arith, c.loop-number-test.true, c.len-number-end.ensures)) c.get.ensures c.read_row.ensures c.loop-number.invariant

pub returns : goal.returns
returns c = by-places (λ (row : Row). row_fits row ≡ true) c.args.rows.now [] (λ k below. c.loop-number.invariant k (omega (arith, below, c.loop-number-test.false, c.len-number-end.ensures)))
