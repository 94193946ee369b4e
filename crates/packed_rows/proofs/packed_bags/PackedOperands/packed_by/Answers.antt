use Rattle.std.proofs.Common.{◌≡◌, ◌∙◌, subst, map, arith}
use Rattle.std.proofs.lemmas.Grind.{common_steps}
use Rattle.std.proofs.lemmas.List.Sorted.{IsPermutation-map}
use Rattle.rel_base.specs.Bags.{SameBag}
use Rattle.myrial_ast.specs.Combinations.{Rows}
use Rattle.packed_rows.specs.declared.emits.Emits.TheVariants.{Whole}
use Rattle.packed_rows.specs.Emitted.{all_emitted}
use Rattle.packed_rows.specs.Unpacked.{unpacked_row}
use Rattle.packed_rows.proofs.EmitLemmas.{whole-rows}
use Rattle.packed_rows.proofs.packed_bags.PackedOperands.packed_by.Goals as goal

pub returns : goal.returns
returns c =
    let row = unpacked_row c.in_ok-columns.columns.items in
    let words = c.in_order-words.result.items in
    let others = c.in_order-others.result.items in
    let first : map row c.in-Some.words.items ≡ all_emitted Whole c.args.a.now = rw (c.in-Some.is, c.deref.ensures.value) at c.in_ok-words.ensures.words in
    let second : map row c.in-Some-2.others.items ≡ all_emitted Whole c.args.b.now =
    rw (c.in-Some-2.is, c.deref-2.ensures.value) at c.in_ok-others.ensures.words in (
      subst (λ (rows : Rows). SameBag rows (map row words)) (first ∙ whole-rows c.args.a.now) (IsPermutation-map row _ _ c.in_order-words.ensures.same),
      subst (λ (rows : Rows). SameBag rows (map row others)) (second ∙ whole-rows c.args.b.now) (IsPermutation-map row _ _ c.in_order-others.ensures.same),
    )

pub invariant_of-result : goal.invariant_of-result
invariant_of-result c = grind (arith, common_steps)
