use Rattle.std.proofs.Common.{◌≡◌, ◌∙◌, ◌++◌, ◌+◌, ◌-◌, ap, append-nil, length, length-append, arith}
use Rattle.rel_base.specs.Picks.{items_at}
use Rattle.rel_base.specs.inner.Strides.{stepped}
use Rattle.rel_base.proofs.RangeLemmas.{items_at-next, items_at-range}
use Rattle.rel_base.proofs.rows.Rows.slice.Goals as goal

pub loop-reached-preserved : goal.loop-reached-preserved
loop-reached-preserved c =
    let self = c.args.self.now in
    let from = c.args.from in
    let inv = c.loop-reached.invariant in
    let run = c.in_ok-run.run' in
    let so_far = c.loop-reached.reached - from in
    let pushed : c.push.new.self ≡ c.loop-reached.picked ++ run = c.in_ok-push.ensures.ok in
    let here : from + so_far ≡ c.loop-reached.reached = omega (arith, inv.1) in
    let taken : run ≡ items_at self (stepped (from + so_far) 1 (length run)) =
    c.in_ok-run.ensures.run ∙ ap (λ k. items_at self (stepped k 1 (length run))) (omega (arith, here)) in
    let longer : so_far + length run ≡ c.loop-reached.reached + c.len-reached.result - from =
    omega (arith, c.len-reached.ensures, inv.1) in (
      pushed ∙ ap (λ xs. xs ++ run) inv.0 ∙ ap (λ xs. items_at self (stepped from 1 so_far) ++ xs) taken
          ∙ items_at-next self from so_far (length run) ∙ ap (λ n. items_at self (stepped from 1 n)) longer,
      omega (arith, ap length pushed, length-append c.loop-reached.picked run, inv.1, c.len-reached.ensures),
      omega (arith, c.in_ok-run.ensures.bound, c.len-reached.ensures),
    )

pub returns : goal.returns
returns c =
    let self = c.args.self.now in
    let from = c.args.from in
    let inv = c.loop-reached.invariant in
    let n : c.loop-reached.reached - from ≡ c.args.to - from = omega (arith, inv.1, inv.2, c.loop-reached-test.false) in
    ap (λ ys. c.loop-reached.picked ++ ys) c.new.ensures ∙ append-nil c.loop-reached.picked ∙ inv.0 ∙ ap (λ k. items_at self (stepped from 1 k)) n
    ∙ items_at-range self from (c.args.to - from) (omega (arith, c.requires.within, c.requires.order))
