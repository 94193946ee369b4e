use Rattle.std.proofs.Common.{◌∙◌, ◌+◌, ◌-◌, ◌/◌, ◌<◌, length, sym, ap, arith, is_lt}
use Rattle.collector.proofs.CutLemmas.{IsBefore, IsBehind, before_middle, behind_middle}
use Rattle.collector.proofs.rests.place_of.Goals as goal

pub loop-low-init : goal.loop-low-init
loop-low-init c =
    let long = c.len-high.ensures.len in
    let within = c.requires in (
      omega arith,
      omega (arith, long, within),
      omega (arith, long),
      λ k d low high. absurd (omega (arith, low, high)),
      λ k d low high. absurd (omega (arith, low, high, long)),
    )

pub get-requires : goal.get-requires
get-requires c =
    let less = c.loop-low-test.true in
    let within = c.loop-low.invariant.2 in
    omega (arith, less, within)

pub loop-low-preserved-then-is_lt : goal.loop-low-preserved-then-is_lt
loop-low-preserved-then-is_lt c =
    let less = c.loop-low-test.true in
    let from = c.loop-low.invariant.0 in
    let within = c.loop-low.invariant.2 in
    let middle = c.loop-low.low + (c.loop-low.high - c.loop-low.low) / 2 in
    let inside : middle < length c.args.part.now = omega (arith, less, within) in
    let before : IsBefore c.args.splitter.now c.get.result.now = ap is_lt (sym c.cmp.ensures) ∙ sym c.if-is_lt.ensures in (
      omega (arith, from),
      omega (arith, less),
      within,
      before_middle c.args.splitter.now c.args.part.now c.len-high.ensures.ascending middle c.get.result.now inside c.get.ensures c.args.from before,
      c.loop-low.invariant.4,
    )

pub loop-low-preserved : goal.loop-low-preserved
loop-low-preserved c =
    let less = c.loop-low-test.true in
    let from = c.loop-low.invariant.0 in
    let within = c.loop-low.invariant.2 in
    let middle = c.loop-low.low + (c.loop-low.high - c.loop-low.low) / 2 in
    let inside : middle < length c.args.part.now = omega (arith, less, within) in
    let behind : IsBehind c.args.splitter.now c.get.result.now = ap is_lt (sym c.cmp.ensures) ∙ sym c.if-is_lt.ensures in (
      from,
      omega arith,
      omega (arith, inside),
      c.loop-low.invariant.3,
      behind_middle c.args.splitter.now c.args.part.now c.len-high.ensures.ascending middle c.get.result.now inside c.get.ensures behind,
    )

pub returns : goal.returns
returns c =
    let over = c.loop-low-test.false in
    let order = c.loop-low.invariant.1 in
    let within = c.loop-low.invariant.2 in
    let behind = c.loop-low.invariant.4 in
    record {
      order = c.loop-low.invariant.0;
      within = omega (arith, order, within);
      before = c.loop-low.invariant.3;
      behind = λ k d low high. behind k d (omega (arith, over, low)) high;
    }
