use Rattle.std.proofs.Common.{◌∙◌, ◌+◌, ◌*◌, ap, arith, length}
use Rattle.std.specs.List.{range_with_len}
use Rattle.std.proofs.lemmas.List.{length-map}
use Rattle.std.proofs.lemmas.List.FromFn.{length-range_with_len}
use Rattle.trial_gen.specs.Trials.{next_state, trial_row}
use Rattle.trial_gen.proofs.TrialLemmas.{rows_more, state_more}
use Rattle.trial_gen.proofs.relations.rows_of.Goals as goal

pub push-requires : goal.push-requires
push-requires c =
    let places = range_with_len 0 c.loop-place._place in
    let rows = length-map places (trial_row c.args.size c.args.number) in
    omega (arith, ap length c.loop-place.invariant.0, rows, length-range_with_len 0 c.loop-place._place)

pub loop-place-preserved : goal.loop-place-preserved
loop-place-preserved c =
    let size = c.args.size in
    let number = c.args.number in
    let place = c.loop-place._place in
    let inv = c.loop-place.invariant in (
      rows_more size number place inv.0 inv.1 c.in_ok-row.ensures c.in_ok-push.ensures.ok,
      c.next_state-state.ensures ∙ ap next_state c.next_state.ensures ∙ state_more place (4 * size + number) inv.1,
    )
