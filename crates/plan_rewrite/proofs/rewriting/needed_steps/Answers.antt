use Rattle.std.proofs.Common.{◌≡◌, ◌∙◌, ◌+◌, ◌-◌, ◌<◌, ◌∷◌, cond, length, map, reverse, ap, sym, arith}
use Rattle.std.specs.Prelude.{◌||◌}
use Rattle.std.specs.List.{list_any}
use Rattle.algebra.specs.declared.terms.StoreStep.{StoreStep}
use Rattle.algebra.specs.CheckedTrees.{step_tree_of}
use Rattle.algebra.specs.Meanings.{is_result, uses}
use Rattle.plan_rewrite.proofs.StepLemmas.{found-more, needed-step, tree_behind}
use Rattle.plan_rewrite.proofs.rewriting.needed_steps.Goals as goal

pub loop-i-preserved-in-Continue-1 : goal.loop-i-preserved-in-Continue-1
loop-i-preserved-in-Continue-1 c =
    let checked = c.args.checked.now in
    let i = c.loop-i.i - 1 in
    let low : i < length checked.steps = omega arith in
    let next : i + 1 ≡ c.loop-i.i = omega arith in
    let step = c.get-step.result.now in
    let found = c.loop-i.needed.items in
    let test : (list_any (λ (t : StoreStep). is_result step.statement t.source) checked.stores || list_any (λ s. uses step.statement (step_tree_of s.now)) found) ≡ c.is_used.result =
    ap (λ later. list_any (λ (t : StoreStep). is_result step.statement t.source) checked.stores || list_any (λ s. uses step.statement (step_tree_of s.now)) later) (sym c.deref.ensures.value)
    ∙ sym c.is_used.ensures in
    ap (λ steps. reverse (map tree_behind steps)) c.in_ok-push.ensures.items
    ∙ (found-more found c.get-step.result
    ∙ sym (needed-step checked.stores checked.steps i c.loop-i.i next low step c.get-step.ensures found c.loop-i.invariant
    ∙ ap (λ b. cond b (step_tree_of step ∷ reverse (map tree_behind found)) (reverse (map tree_behind found))) (test ∙ c.if-is_used.true)))

pub loop-i-preserved : goal.loop-i-preserved
loop-i-preserved c =
    let checked = c.args.checked.now in
    let i = c.loop-i.i - 1 in
    let low : i < length checked.steps = omega arith in
    let next : i + 1 ≡ c.loop-i.i = omega arith in
    let step = c.get-step.result.now in
    let found = c.loop-i.needed.items in
    let test : (list_any (λ (t : StoreStep). is_result step.statement t.source) checked.stores || list_any (λ s. uses step.statement (step_tree_of s.now)) found) ≡ c.is_used.result =
    ap (λ later. list_any (λ (t : StoreStep). is_result step.statement t.source) checked.stores || list_any (λ s. uses step.statement (step_tree_of s.now)) later) (sym c.deref.ensures.value)
    ∙ sym c.is_used.ensures in
    sym (needed-step checked.stores checked.steps i c.loop-i.i next low step c.get-step.ensures found c.loop-i.invariant
    ∙ ap (λ b. cond b (step_tree_of step ∷ reverse (map tree_behind found)) (reverse (map tree_behind found))) (test ∙ c.if-is_used.false))
