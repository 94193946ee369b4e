use Rattle.std.proofs.Common.{◌≡◌, ◌^◌, ◌<◌, true, false, cond, length, filter, sym, ap, ◌∙◌, arith}
use Rattle.std.specs.List.{list_any}
use Rattle.std.proofs.lemmas.Nat.{pow-add}
use Rattle.std.proofs.lemmas.Bool.{lt-ltb, le-ltb}
use Rattle.myrial_ast.specs.KeptRows.{lies_in}
use Rattle.join_plans.specs.inner.Spans.{span_of}
use Rattle.join_plans.proofs.CountLemmas.{bits-more, some-pass}
use Rattle.join_plans.proofs.uses.bits_in.Goals as goal
use Rattle.join_plans.proofs.uses.bits_in.Goals.{then-count-gt0, else-count-gt0}

pub loop-variable-preserved : goal.loop-variable-preserved
loop-variable-preserved c =
    let span = span_of c.args.span.now in
    let variables = c.args.variables.now in
    let v = c.variable-item.result in
    let i = c.loop-variable.variable-index in
    let low : c.loop-variable.variable-index < length c.args.variables.now = c.loop-variable-test.true in
    let more = bits-more span variables i v low (sym c.variable-item.is) in
    let twice = pow-add 2 c.loop-variable.variable-index 1 in
    let here = c.count.ensures.value ∙ ap (λ v. length (filter (lies_in span) v)) c.as_slice.ensures.value in
    elim c.if-count-gt0.branch [
      | then-count-gt0 w ↦
          let some : list_any (lies_in (span_of c.args.span.now)) c.variable-item.result ≡ true =
          some-pass (lies_in span) v ∙ lt-ltb 0 (length (filter (lies_in span) v)) (omega (arith, here)) in
          let bit = ap (λ b. cond b (2 ^ i) 0) some in
          record {
            next = omega (arith, c.loop-variable.invariant.next, twice);
            small = omega (arith, c.loop-variable.invariant.next, c.loop-variable.invariant.small, twice, w.bits-is);
            so_far = omega (arith, c.loop-variable.invariant.next, c.loop-variable.invariant.so_far, more, bit, w.bits-is);
          }
      | else-count-gt0 w ↦
          let none : list_any (lies_in (span_of c.args.span.now)) c.variable-item.result ≡ false =
          some-pass (lies_in span) v ∙ le-ltb 0 (length (filter (lies_in span) v)) (omega (arith, here)) in
          let bit = ap (λ b. cond b (2 ^ i) 0) none in
          record {
            next = omega (arith, c.loop-variable.invariant.next, twice);
            small = omega (arith, c.loop-variable.invariant.small, twice, w.bits-is);
            so_far = omega (arith, c.loop-variable.invariant.so_far, more, bit, w.bits-is);
          }
    ]
