use Rattle.std.proofs.Common.{ℕ, List, map, not, rules}
use Rattle.std.proofs.lemmas.Fn.{filter_same}
use Rattle.myrial_ast.specs.Combinations.{Rows}
use Rattle.algebra.specs.CheckedTrees.{step_tree_of}
use Rattle.plan_rewrite.specs.Planned.{is_last_use}
use Rattle.engine.proofs.held.Held.let_go.Goals as goal

pub returns-clause-results : goal.returns-clause-results
returns-clause-results c =
    filter_same _
    (λ (r : ℕ × List Rows). not (is_last_use r.0 c.args.stores.now (map step_tree_of c.args.steps.now))) _
    (λ x b f' k. search rules) _ _ c.retain.ensures.filtered
