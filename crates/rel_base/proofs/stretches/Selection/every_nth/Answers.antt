use Rattle.std.proofs.Common.{◌<◌, ◌^◌, sym, arith, rules}
use Rattle.rel_base.proofs.StrideLemmas.{every_nth-places}
use Rattle.rel_base.proofs.stretches.Selection.every_nth.Goals as goal

pub returns-in-Every : goal.returns-in-Every
returns-in-Every c =
    let places = rw c.in-Every.is at c.requires.within in
    let len : c.args.len < 2 ^ 32 = search rules in
    let count = c.steps_below.ensures in
    let same = every_nth-places c.in-Every.first c.in-Every.apart c.in-Every.count c.args.step c.args.start c.steps_below.result
    c.requires.order count.enough count.inside (λ k d low. omega (arith, places k d low, len)) in
    rw c.in-Every.is (sym same)
