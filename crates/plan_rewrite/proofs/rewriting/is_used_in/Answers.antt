use Rattle.std.proofs.Common.{◌≡◌, ◌∙◌, ◌||◌, false, map, ap, sym, rules}
use Rattle.std.specs.List.{list_any}
use Rattle.algebra.specs.declared.terms.StoreStep.{StoreStep}
use Rattle.algebra.specs.CheckedTrees.{step_tree_of}
use Rattle.algebra.specs.Meanings.{is_result, uses}
use Rattle.plan_rewrite.proofs.StepLemmas.{list_any-map}
use Rattle.plan_rewrite.proofs.rewriting.is_used_in.Goals as goal

pub returns-else-is_stored : goal.returns-else-is_stored
returns-else-is_stored c =
    let number = c.args.number in
    let taken = list_any (uses number) (map step_tree_of c.args.steps.now) in
    let stored : list_any (λ (t : StoreStep). is_result number t.source) c.args.stores.now ≡ false = search rules in
    c.is_taken_in.ensures ∙ sym (list_any-map (uses number) step_tree_of c.args.steps.now) ∙ ap (λ b. b || taken) (sym stored)
