use Rattle.std.proofs.Common.{◌≡◌, ◌∙◌, ◌+◌, ◌++◌, ◌∷◌, [], Some, option_map, take, sym, ap, arith, rules}
use Rattle.std.proofs.lemmas.List.{take_more}
use Rattle.rel_base.specs.Limits.{most_workers}
use Rattle.share_chooser.specs.Shares.{shares_of}
use Rattle.plan_json.specs.PlanTexts.{number_in}
use Rattle.plan_json.proofs.ValueLemmas.{each_more, each_none}
use Rattle.plan_json.proofs.steps.shares_of.Goals as goal

pub returns-in_err-number_in : goal.returns-in_err-number_in
returns-in_err-number_in c =
    let k = c.loop-value.value-index in
    let values = c.args.values.now in
    let value = c.value-item.result in
    let more : take (k + 1) values ≡ take k values ++ value ∷ [] = search (rules, take_more) in
    ap (option_map shares_of) c.from_residual.ensures
    ∙ sym (each_none (number_in 1 most_workers) values k value more (sym c.in_err-number_in.ensures))

pub loop-value-preserved : goal.loop-value-preserved
loop-value-preserved c =
    let k = c.loop-value.value-index in
    let values = c.args.values.now in
    let value = c.value-item.result in
    let more : take (k + 1) values ≡ take k values ++ value ∷ [] = search (rules, take_more) in (
      each_more (number_in 1 most_workers) values k value more c.loop-value.invariant.0 (sym c.in_ok-number_in.ensures)
          ∙ ap Some (sym c.with-shares.ensures.shares),
      omega (arith, c.with-shares.ensures.count, c.loop-value.invariant.1),
    )
