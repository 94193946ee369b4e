use Rattle.std.proofs.Common.{◌≡◌, ◌+◌, ◌<◌, ◌^◌, ◌++◌, ◌∷◌, [], ℕ, List, length, length-set, map, take, sym, ap, ◌∙◌, arith}
use Rattle.std.specs.List.{range_with_len}
use Rattle.std.proofs.lemmas.List.{take_more_set, length-map}
use Rattle.std.proofs.lemmas.List.FromFn.{map-range_with_len_more}
use Rattle.myrial_ast.specs.KeptRows.{span_of_item}
use Rattle.algebra.specs.ShapeTrees.{shape_tree_of}
use Rattle.algebra.specs.Trees.{atom_tree_of}
use Rattle.placement.specs.Plans.{bits_of}
use Rattle.join_plans.specs.inner.Counts.{bits_in}
use Rattle.join_plans.proofs.SpanLemmas.{shape-small}
use Rattle.join_plans.proofs.CountLemmas.{widths-long, all-below, numbered}
use Rattle.join_plans.proofs.uses.share_shape.Goals as goal

pub loop-j-preserved : goal.loop-j-preserved
loop-j-preserved c =
    let variables = c.args.shape.now.variables in
    let widths = c.in_ok-widths.widths.items in
    let bits = λ (j : ℕ). bits_in (span_of_item widths j) variables in
    let j = c.loop-j.j in
    let small = shape-small (shape_tree_of c.args.shape.now) c.args.shape.now.well_formed in
    let many = ap length c.in_ok-widths.ensures ∙ widths-long c.args.shape.now.atoms in
    let few = small.few_atoms in
    let room : c.loop-j.j < length c.loop-j.uses =
    omega (
      arith,
      c.loop-j-test.true,
      c.len-j-end.ensures,
      many,
      few,
      length-map c.args.shape.now.atoms atom_tree_of,
      c.loop-j.invariant.long,
    ) in
    let span = c.span_of_atom.ensures.value ∙ ap (λ ws. span_of_item ws c.loop-j.j) c.deref.ensures.value in
    let here = c.bits_in.ensures.value ∙ (λ i. bits_in (span i) (c.as_slice.ensures.value i)) in
    let low : c.bits_in.result < 2 ^ length c.args.shape.now.variables =
    omega (arith, c.bits_in.ensures.bound, ap (λ (vs : List (List ℕ)). 2 ^ length vs) c.as_slice.ensures.value) in
    let next : 0 + c.loop-j.j ≡ c.loop-j.j = omega arith in
    record {
      long = length-set c.loop-j.uses j c.bits_in.result ∙ c.loop-j.invariant.long;
      small = all-below c.loop-j.uses j c.bits_in.result (2 ^ length c.args.shape.now.variables) room low c.loop-j.invariant.small;
      so_far = take_more_set c.loop-j.uses j c.bits_in.result room ∙ (λ i. c.loop-j.invariant.so_far i ++ here i ∷ [])
          ∙ sym (map-range_with_len_more bits 0 j j next);
    }

pub returns-clause-uses : goal.returns-clause-uses
returns-clause-uses c =
    let shape = shape_tree_of c.args.shape.now in
    let atoms = c.args.shape.now.atoms in
    let many = ap length c.in_ok-widths.ensures ∙ widths-long atoms in
    let all : c.loop-j.j ≡ length c.args.shape.now.atoms =
    omega (arith, c.loop-j-test.false, c.loop-j.auto.j-end, c.len-j-end.ensures, many) in
    let counted = c.len.ensures ∙ sym all in
    ap (λ n. take n c.loop-j.uses) counted ∙ c.loop-j.invariant.so_far
    ∙ (λ i. map (λ (j : ℕ). bits_in (span_of_item (c.in_ok-widths.ensures i) j) shape.variables) (range_with_len 0 (all i)))
    ∙ ap (λ n. map (bits_of shape) (range_with_len 0 n)) (sym (length-map atoms atom_tree_of))
    ∙ numbered (bits_of shape) 0 shape.atoms
