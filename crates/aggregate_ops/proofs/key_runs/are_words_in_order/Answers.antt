use Rattle.std.proofs.Common.{subst, sym, arith}
use Rattle.myrial_ast.specs.Combinations.{Rows}
use Rattle.std.specs.Prelude.{IsSorted, IsTrue}
use Rattle.rel_base.specs.Values.{row_order}
use Rattle.aggregate_ops.proofs.StepLemmas.{keys-by-one, keys-by-two}
use Rattle.aggregate_ops.proofs.key_runs.are_words_in_order.Goals as goal

pub returns-in_ok-a-in-len1 : goal.returns-in_ok-a-in-len1
returns-in_ok-a-in-len1 c =
    let at = c.in_ok-a-in-len1.ensures.lookup in
    subst (λ (rows : Rows). IsTrue c.are_in_order.result → IsSorted row_order rows)
    (sym (keys-by-one c.args.columns.now c.args.places.now c.in_ok-a-in-len1.field-0.now c.args.words.now
    (omega (arith, c.in-len1.len_at_least, c.in-len1.len_below)) (omega (arith, at)) (search (at)))) c.are_in_order.ensures

pub returns-in_ok-b-in-len2 : goal.returns-in_ok-b-in-len2
returns-in_ok-b-in-len2 c =
    let at = c.in_ok-a-in-len2.ensures.lookup in
    let other = c.in_ok-b-in-len2.ensures.lookup in
    subst (λ (rows : Rows). IsTrue c.are_in_order-in-len2.result → IsSorted row_order rows)
    (sym (keys-by-two c.args.columns.now c.args.places.now c.in_ok-a-in-len2.field-0.now c.in_ok-b-in-len2.field-0.now c.args.words.now
    (omega (arith, c.in-len2.len_at_least, c.in-len2.len_below)) (omega (arith, at)) (search (at)) (omega (arith, other)) (search (other))))
    c.are_in_order-in-len2.ensures
