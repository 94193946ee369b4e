use Rattle.std.proofs.Common.{◌∙◌, length, map, ap, sym}
use Rattle.std.specs.Prelude.{◌&&◌, nat_le}
use Rattle.std.specs.List.{flat_map, list_all}
use Rattle.algebra.specs.declared.shapes.Atom.{Atom}
use Rattle.rel_base.specs.Limits.{most_variables}
use Rattle.algebra.specs.ShapeConditions.{is_variable, all_different}
use Rattle.algebra.proofs.ConditionLemmas.{is_shape-parts}
use Rattle.algebra.proofs.conditions.is_shape.Goals as goal

pub returns : goal.returns
returns c =
    let kinds = c.deref-4.ensures.value ∙ c.in_ok-kinds.ensures ∙ ap (flat_map (λ (a : Atom). a.kinds)) c.as_slice.ensures.value in
    let first = c.deref.ensures.value ∙ sym c.deref-4.ensures.value in
    let widths = c.deref-2.ensures.value ∙ c.in_ok-widths.ensures ∙ ap (map (λ (a : Atom). length a.kinds)) c.as_slice-2.ensures.value in
    let columns = c.deref-3.ensures.value ∙ c.in_ok-columns.ensures ∙ ap (flat_map (λ v. v)) c.as_slice-3.ensures.value in
    let variables =
    c.are_variables-has_variables.ensures
    ∙ ap (λ ks. nat_le (length c.args.variables.now) most_variables && list_all (is_variable ks c.deref-2.result.now) c.args.variables.now && all_different c.deref-3.result.now) first in
    c.all_three.ensures
    ∙ (λ i. c.are_atoms-has_atoms.ensures i && variables i && c.are_scalars-has_scalars.ensures i)
    ∙ is_shape-parts c.args.atoms.now c.args.variables.now c.args.plain.now c.args.arith.now c.args.emits.now
    c.deref-4.result.now c.deref-2.result.now c.deref-3.result.now kinds widths columns
