use Rattle.std.proofs.Common.{◌≡◌, ap, arith, ◌<◌, ◌+◌, [], length, take}
use Rattle.rel_base.specs.Picks.{joined}
use Rattle.rel_base.proofs.StartLemmas.{length-joined-more}
use Rattle.rel_base.proofs.shared_rows.stretch_of.Goals as goal

pub returns : goal.returns
returns c =
    let xss = c.args.stretches.now in
    let low = c.loop-high.low in
    let inv = c.loop-high.invariant in
    let next : c.loop-high.high ≡ low + 1 = omega (arith, c.loop-high-test.false, inv.0) in
    let inside : low < length xss = omega (arith, next, inv.1) in
    let ends = ap (λ k. length (joined (take k xss))) next in
    let more = length-joined-more xss low [] inside in
    let begins = c.requires.starts.each low inside in
    record { inside = inside; begins = omega (arith, inv.2, begins); ends = omega (arith, inv.3, ends, more, begins) }
