use Rattle.std.proofs.Common.{◌≡◌, ◌∙◌, map, refl}
use Rattle.myrial_scopes.specs.Emits.{Emit}
use Rattle.myrial_scopes.specs.Resolutions.{emit_of, resolved_of}
use Rattle.algebra.specs.Shapes.{shape_of}
use Rattle.algebra.specs.Trees.{Shape, shape_of_parts}
use Rattle.myrial_types.specs.Resolving.{kinds_of_items}
use Rattle.myrial_types.proofs.KindLemmas.{map-through}
use Rattle.myrial_types.proofs.TermLemmas.{made-result}
use Rattle.myrial_types.proofs.terms.shape_of.Goals as goal

pub returns : goal.returns
returns c =
    let comprehension = (resolved_of c.args.comprehension.now).comprehension in
    let parts = shape_of_parts c.in_ok-atoms.atoms c.in_ok-variables.variables c.in_ok-plain.plain c.in_ok-arith.arith c.in_ok-emits.emits in
    let emits = c.in_ok-emits.ensures
    ∙ map-through (λ (e : Emit). e.scalar) emit_of c.deref.result.now c.args.comprehension.now.emits.items (map emit_of c.args.comprehension.now.emits.items) c.deref.ensures.value refl in
    let same : parts ≡ shape_of (kinds_of_items c.args.items.now) comprehension =
    λ i. let s : Shape = record {
      atoms = c.in_ok-atoms.ensures i;
      variables = c.in_ok-variables.ensures i;
      plain = c.in_ok-plain.ensures i;
      arith = c.in_ok-arith.ensures i;
      emits = emits i;
    } in s in
    made-result parts (shape_of (kinds_of_items c.args.items.now) comprehension) same c.new.result c.new.ensures.shape c.new.ensures.exactly
