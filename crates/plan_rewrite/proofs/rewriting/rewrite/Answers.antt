use Rattle.std.proofs.Common.{◌≡◌, ◌∙◌, drop, map, reverse, subst, ap, sym, arith}
use Rattle.algebra.specs.CheckedTrees.{checked_tree_of, step_tree_of}
use Rattle.algebra.specs.Meanings.{checked_fault, needed_steps, stored_by}
use Rattle.algebra.specs.Rewriting.{IsRewritten}
use Rattle.algebra.specs.Trees.{CheckedTree}
use Rattle.plan_rewrite.specs.inner.Steps.{pushed_step, rewritten}
use Rattle.plan_rewrite.proofs.StepLemmas.{is-rewritten, tree_behind}
use Rattle.plan_rewrite.proofs.StoredLemmas.{faults-same, stored-same}
use Rattle.plan_rewrite.proofs.rewriting.rewrite.Goals as goal

pub returns-clause-rewritten : goal.returns-clause-rewritten
returns-clause-rewritten c =
    let checked = c.args.checked.now in
    let zero : c.loop-i.i ≡ 0 = omega arith in
    let steps : map step_tree_of c.loop-i.steps ≡ map pushed_step (needed_steps checked.stores (map step_tree_of checked.steps)) =
    c.loop-i.invariant ∙ (ap (λ n. map pushed_step (reverse (map tree_behind (drop n c.in_ok-needed.needed.items)))) zero ∙ ap (map pushed_step) c.in_ok-needed.ensures) in
    let planned : CheckedTree = record { steps = map step_tree_of c.loop-i.steps; stores = c.in_ok-stores.stores } in
    let same : planned ≡ rewritten (checked_tree_of checked) = λ t. record { steps = steps t; stores = c.in_ok-stores.ensures t } in
    subst (IsRewritten (checked_tree_of checked)) (sym same) (is-rewritten checked.steps checked.stores)

pub returns-clause-stored : goal.returns-clause-stored
returns-clause-stored c files =
    let checked = c.args.checked.now in
    let zero : c.loop-i.i ≡ 0 = omega arith in
    let steps : map step_tree_of c.loop-i.steps ≡ map pushed_step (needed_steps checked.stores (map step_tree_of checked.steps)) =
    c.loop-i.invariant ∙ (ap (λ n. map pushed_step (reverse (map tree_behind (drop n c.in_ok-needed.needed.items)))) zero ∙ ap (map pushed_step) c.in_ok-needed.ensures) in
    let planned : CheckedTree = record { steps = map step_tree_of c.loop-i.steps; stores = c.in_ok-stores.stores } in
    let same : planned ≡ rewritten (checked_tree_of checked) = λ t. record { steps = steps t; stores = c.in_ok-stores.ensures t } in
    ap (stored_by files) same ∙ stored-same files (checked_tree_of checked)

pub returns-clause-fault : goal.returns-clause-fault
returns-clause-fault c rules files =
    let checked = c.args.checked.now in
    let zero : c.loop-i.i ≡ 0 = omega arith in
    let steps : map step_tree_of c.loop-i.steps ≡ map pushed_step (needed_steps checked.stores (map step_tree_of checked.steps)) =
    c.loop-i.invariant ∙ (ap (λ n. map pushed_step (reverse (map tree_behind (drop n c.in_ok-needed.needed.items)))) zero ∙ ap (map pushed_step) c.in_ok-needed.ensures) in
    let planned : CheckedTree = record { steps = map step_tree_of c.loop-i.steps; stores = c.in_ok-stores.stores } in
    let same : planned ≡ rewritten (checked_tree_of checked) = λ t. record { steps = steps t; stores = c.in_ok-stores.ensures t } in
    ap (checked_fault rules files) same ∙ faults-same rules files (checked_tree_of checked)
