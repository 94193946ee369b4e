use Rattle.std.proofs.Common.{◌≡◌, ◌∙◌, refl, subst, map, arith}
use Rattle.std.proofs.lemmas.Grind.{common_steps}
use Rattle.std.proofs.lemmas.List.Sorted.{IsPermutation-map}
use Rattle.rel_base.specs.Bags.{SameBag}
use Rattle.myrial_ast.specs.Combinations.{Rows}
use Rattle.packed_rows.specs.declared.emits.Emits.TheVariants.{Whole}
use Rattle.packed_rows.specs.Emitted.{all_emitted}
use Rattle.packed_rows.specs.Unpacked.{unpacked_row}
use Rattle.packed_rows.specs.Runs.{AreRising}
use Rattle.packed_rows.proofs.EmitLemmas.{whole-rows}
use Rattle.packed_rows.proofs.RisingLemmas.{each-once}
use Rattle.packed_rows.proofs.distinct_rows.PackedRows.each_once_by.Goals as goal

pub returns : goal.returns
returns c =
    let row = unpacked_row c.in_ok-columns.columns.items in
    let ordered = c.in_order-words.result.items in
    let packed : map row c.in-Some.words.items ≡ all_emitted Whole c.args.rows.now =
    rw (c.in-Some.is, c.deref.ensures.value) at c.in_ok-words.ensures.words in
    let same : SameBag c.args.rows.now (map row ordered) =
    subst (λ (rows : Rows). SameBag rows (map row ordered)) (packed ∙ whole-rows c.args.rows.now)
    (IsPermutation-map row _ _ c.in_order-words.ensures.same) in
    let up : AreRising (map row c.dedup.new.self.items) =
    rw (c.deref-3.ensures.value, c.deref-4.ensures.value) at (c.if-not-rise.ensures refl) in
    each-once row c.args.rows.now ordered c.dedup.new.self.items same c.dedup.ensures.filtered up

pub invariant_of-result : goal.invariant_of-result
invariant_of-result c = grind (arith, common_steps)
