use Rattle.std.proofs.Common.{◌≡◌, ◌∙◌, true, false, map, sym, ap, refl}
use Rattle.std.specs.Prelude.{is_some}
use Rattle.std.specs.List.{list_any}
use Rattle.myrial_ast.specs.Groups.{has_aggregate}
use Rattle.myrial_scopes.specs.declared.emits.EmittedColumn.{EmittedColumn}
use Rattle.myrial_scopes.specs.Emits.{Emit}
use Rattle.myrial_scopes.specs.Resolutions.{emit_of, resolved_of}
use Rattle.algebra.specs.ShapeTrees.{shape_tree_of}
use Rattle.algebra.specs.Trees.{kind_of_emit}
use Rattle.myrial_types.specs.Resolving.{kinds_of_items, sources_of}
use Rattle.myrial_types.proofs.KindLemmas.{map-through}
use Rattle.myrial_types.proofs.TermLemmas.{aggregates-same, group-made, join-made}
use Rattle.myrial_types.proofs.terms.join_of.Goals as goal

pub returns-in_ok-kinds : goal.returns-in_ok-kinds
returns-in_ok-kinds c =
    let comprehension = (resolved_of c.args.comprehension.now).comprehension in
    let emits = c.args.comprehension.now.emits.items in
    let made = rw c.in-Some.is at c.in_ok-shape.ensures in
    let kinds = c.in_ok-kinds.ensures
    ∙ map-through (λ (e : Emit). e.aggregate) emit_of c.deref-then-has_aggregate.result.now emits (map emit_of emits) c.deref-then-has_aggregate.ensures.value refl in
    let grouped : has_aggregate comprehension.aggregates ≡ true =
    sym (aggregates-same emits)
    ∙ (ap (list_any (λ (e : EmittedColumn). is_some (emit_of e).aggregate)) (sym c.deref.ensures.value) ∙ (sym c.has_aggregate.ensures ∙ c.if-has_aggregate.true)) in
    group-made (kinds_of_items c.args.items.now) (sources_of c.args.items.now) comprehension
    (shape_tree_of c.in-Some.shape) c.in_ok-sources.sources (map kind_of_emit c.in_ok-kinds.kinds) made.0 made.1 c.in_ok-sources.ensures kinds grouped

pub returns-else-has_aggregate : goal.returns-else-has_aggregate
returns-else-has_aggregate c =
    let comprehension = (resolved_of c.args.comprehension.now).comprehension in
    let emits = c.args.comprehension.now.emits.items in
    let made = rw c.in-Some.is at c.in_ok-shape.ensures in
    let single : has_aggregate comprehension.aggregates ≡ false =
    sym (aggregates-same emits)
    ∙ (ap (list_any (λ (e : EmittedColumn). is_some (emit_of e).aggregate)) (sym c.deref.ensures.value) ∙ (sym c.has_aggregate.ensures ∙ c.if-has_aggregate.false)) in
    join-made (kinds_of_items c.args.items.now) (sources_of c.args.items.now) comprehension
    (shape_tree_of c.in-Some.shape) c.in_ok-sources.sources made.0 made.1 c.in_ok-sources.ensures single
