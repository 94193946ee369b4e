use Rattle.std.proofs.Common.{arith}
use Rattle.std.proofs.lemmas.Grind.{common_steps}
use Rattle.collector.proofs.PackingLemmas.{told_within, told_more}
use Rattle.collector.proofs.packing.rows_told.Goals as goal

pub get-requires : goal.get-requires
get-requires g c =
    rw c.last_digits.ensures
    (told_within g.N.Number.value c.args.part.now c.args.digits c.args.numbers.now c.loop-number.number-index c.number-item.result
    c.loop-number-test.true c.number-item.is c.requires.within)

pub loop-number-preserved : goal.loop-number-preserved
loop-number-preserved g c =
    let within =
    told_within g.N.Number.value c.args.part.now c.args.digits c.args.numbers.now c.loop-number.number-index c.number-item.result
    c.loop-number-test.true c.number-item.is c.requires.within in
    rw c.in_ok-push.ensures.items
    (told_more g.N.Number.value c.args.part.now c.args.digits c.args.numbers.now c.loop-number.number-index c.number-item.result
    c.loop-number-test.true c.number-item.is c.loop-number.rows.items c.get.result within (rw c.last_digits.ensures at c.get.ensures)
    c.loop-number.invariant)

pub returns : goal.returns
returns g c = grind (arith, common_steps)
