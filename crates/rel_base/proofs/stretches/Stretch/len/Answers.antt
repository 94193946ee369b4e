use Rattle.std.proofs.Common.{arith}
use Rattle.rel_base.proofs.PickLemmas.{items_at-every_length, items_at-length}
use Rattle.rel_base.proofs.stretches.Stretch.len.Goals as goal

pub returns-in-Every : goal.returns-in-Every
returns-in-Every c =
    let shown = rw c.in-Every.is at c.self.view_is in
    let within = rw c.in-Every.is at c.self.invariant in
    items_at-every_length _ _ _ _ _ within.0 shown

pub returns-in-At : goal.returns-in-At
returns-in-At c =
    let shown = rw c.in-At.is at c.self.view_is in
    let within = rw c.in-At.is at c.self.invariant in
    let same = items_at-length _ _ _ within.0 shown in
    omega (arith, c.len.ensures, c.in-At.places.ok, same)
