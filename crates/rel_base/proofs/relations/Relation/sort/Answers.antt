use Rattle.std.proofs.Common.{◌∙◌, ap}
use Rattle.std.proofs.lemmas.List.Sorted.{All-permutation}
use Rattle.rel_base.specs.Bags.{sorted}
use Rattle.rel_base.specs.Relations.{RelationState, HasTypes}
use Rattle.rel_base.specs.ValueLaws.{row_order_total, row_order-IsAntisymmetric}
use Rattle.rel_base.specs.Values.{row_order}
use Rattle.rel_base.proofs.SortedLemmas.{sorted_by-unique}
use Rattle.rel_base.proofs.relations.Relation.sort.Goals as goal

pub invariant_of-self-2 : goal.invariant_of-self-2
invariant_of-self-2 c = All-permutation (HasTypes c.self.inside.schema) _ _ c.in_ok-sort.ensures.ok.same_rows c.self.invariant

pub returns-clause-ok : goal.returns-clause-ok
returns-clause-ok c =
    sorted_by-unique row_order row_order_total row_order-IsAntisymmetric _ _ c.in_ok-sort.ensures.ok.same_rows c.in_ok-sort.ensures.ok.ascending
    ∙ ap (λ (t : RelationState). sorted t.rows) c.self.view_is
