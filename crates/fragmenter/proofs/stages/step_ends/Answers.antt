use Rattle.std.proofs.Common.{◌≡◌, ◌∙◌, ◌++◌, ◌∷◌, [], ◌+◌, ◌-◌, map, Some, sym, ap, arith}
use Rattle.std.specs.List.{range_with_len}
use Rattle.algebra.specs.declared.notes.Exchange.TheVariants as exchange
use Rattle.fragmenter.proofs.StageLemmas.{exchanges_more}
use Rattle.fragmenter.proofs.stages.step_ends.Goals as goal

pub loop-place-preserved : goal.loop-place-preserved
loop-place-preserved c =
    let place = c.loop-place.place in
    c.in_ok-push.ensures.items ∙ ap (λ ends. ends ++ Some (exchange.Rs (place + 2)) ∷ []) c.loop-place.invariant
    ∙ sym (exchanges_more place (place + 2) (omega arith))

pub returns : goal.returns
returns c =
    let all : c.loop-place.place ≡ c.args.items - 1 = omega arith in
    c.loop-place.invariant ∙ ap (λ n. map Some (map exchange.Rs (range_with_len 2 n))) all
