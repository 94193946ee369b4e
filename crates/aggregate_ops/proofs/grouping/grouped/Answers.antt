use Rattle.std.proofs.Common.{◌≡◌, true, map, Err, IfErr, sym, subst, rules}
use Rattle.rel_base.specs.Bags.{SameBag}
use Rattle.myrial_ast.specs.Combinations.{Rows}
use Rattle.bag_laws.specs.PartialLaws.{AreGrouped}
use Rattle.algebra.specs.Trees.{kind_of_emit}
use Rattle.packed_rows.specs.declared.emits.Emits.TheVariants.{Whole}
use Rattle.packed_rows.specs.Emitted.{all_emitted}
use Rattle.packed_rows.proofs.EmitLemmas.{whole-rows}
use Rattle.aggregate_ops.specs.Columns.{Overflows}
use Rattle.aggregate_ops.specs.Forms.{grouped_kinds, results, results_fit}
use Rattle.aggregate_ops.proofs.grouping.grouped.Goals as goal

pub grouped_words-requires-clause-width : goal.grouped_words-requires-clause-width
grouped_words-requires-clause-width c =
    subst (AreGrouped (grouped_kinds c.args.form (map kind_of_emit c.args.kinds.now))) (sym (whole-rows c.args.rows.now)) c.requires

pub returns-in_err-made-clause-fault : goal.returns-in_err-made-clause-fault
returns-in_err-made-clause-fault c =
    let fits = results_fit c.args.form (map kind_of_emit c.args.kinds.now) in
    let wrong = c.in_err-made.field-0.0 in
    let answer : c.from_residual-in_err-made.result ≡ Err wrong = search rules in
    subst (λ answer. IfErr answer (λ wrong. Overflows wrong (fits c.args.rows.now))) (sym answer)
    (subst (λ (rows : Rows). Overflows wrong (fits rows)) (whole-rows c.args.rows.now) c.in_err-made.ensures.fault)

pub returns-in-Some-clause-bag : goal.returns-in-Some-clause-bag
returns-in-Some-clause-bag c =
    let made = results c.args.form (map kind_of_emit c.args.kinds.now) in
    let bag : SameBag (made (all_emitted Whole c.args.rows.now)) c.in-Some.made = rw c.in-Some.is at c.in_ok-made.ensures.bag in
    subst (λ (rows : Rows). SameBag (made rows) c.in-Some.made) (whole-rows c.args.rows.now) bag

pub returns-in-Some-clause-fits : goal.returns-in-Some-clause-fits
returns-in-Some-clause-fits c =
    let fits = results_fit c.args.form (map kind_of_emit c.args.kinds.now) in
    let all : fits (all_emitted Whole c.args.rows.now) ≡ true = rw c.in-Some.is at c.in_ok-made.ensures.fits in
    subst (λ (rows : Rows). fits rows ≡ true) (whole-rows c.args.rows.now) all

pub grouped_words-requires-2-clause-width : goal.grouped_words-requires-2-clause-width
grouped_words-requires-2-clause-width c =
    subst (AreGrouped (grouped_kinds c.args.form (map kind_of_emit c.args.kinds.now))) (sym (whole-rows c.args.rows.now)) c.requires

pub returns-in_err-made-2-clause-fault : goal.returns-in_err-made-2-clause-fault
returns-in_err-made-2-clause-fault c =
    let fits = results_fit c.args.form (map kind_of_emit c.args.kinds.now) in
    let wrong = c.in_err-made-2.field-0.0 in
    let answer : c.from_residual-in_err-made-2.result ≡ Err wrong = search rules in
    subst (λ answer. IfErr answer (λ wrong. Overflows wrong (fits c.args.rows.now))) (sym answer)
    (subst (λ (rows : Rows). Overflows wrong (fits rows)) (whole-rows c.args.rows.now) c.in_err-made-2.ensures.fault)

pub returns-in-Some-2-clause-bag : goal.returns-in-Some-2-clause-bag
returns-in-Some-2-clause-bag c =
    let made = results c.args.form (map kind_of_emit c.args.kinds.now) in
    let bag : SameBag (made (all_emitted Whole c.args.rows.now)) c.in-Some-2.made = rw c.in-Some-2.is at c.in_ok-made-2.ensures.bag in
    subst (λ (rows : Rows). SameBag (made rows) c.in-Some-2.made) (whole-rows c.args.rows.now) bag

pub returns-in-Some-2-clause-fits : goal.returns-in-Some-2-clause-fits
returns-in-Some-2-clause-fits c =
    let fits = results_fit c.args.form (map kind_of_emit c.args.kinds.now) in
    let all : fits (all_emitted Whole c.args.rows.now) ≡ true = rw c.in-Some-2.is at c.in_ok-made-2.ensures.fits in
    subst (λ (rows : Rows). fits rows ≡ true) (whole-rows c.args.rows.now) all
