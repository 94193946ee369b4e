use Rattle.std.proofs.Common.{◌≡◌, true, List, map, All, Err, IfErr, sym, subst, rules, arith}
use Rattle.std.proofs.lemmas.Grind.{common_steps}
use Rattle.std.proofs.lemmas.Result.{IfOk-weaker}
use Rattle.rel_base.specs.Bags.{SameBag}
use Rattle.myrial_ast.specs.declared.scalars.Scalar as code
use Rattle.myrial_ast.specs.Combinations.{emitted}
use Rattle.myrial_ast.specs.Groups.{row_fits}
use Rattle.myrial_ast.specs.ScalarTrees.{scalar_tree_of}
use Rattle.bag_laws.specs.PartialLaws.{AreGrouped}
use Rattle.algebra.specs.Trees.{kind_of_emit}
use Rattle.aggregate_ops.specs.Columns.{Overflows}
use Rattle.aggregate_ops.specs.Forms.{grouped_kinds, results, results_fit}
use Rattle.aggregate_ops.proofs.EmitLemmas.{all-picks-fit}
use Rattle.aggregate_ops.proofs.grouping.grouped_picks.Goals as goal

pub returns-in_err-made-clause-fault : goal.returns-in_err-made-clause-fault
returns-in_err-made-clause-fault c =
    let fits = results_fit c.args.form (map kind_of_emit c.args.kinds.now) in
    let wrong = c.in_err-made.field-0.0 in
    let answer : c.from_residual-in_err-made.result ≡ Err wrong = search rules in
    subst (λ answer. IfErr answer (λ wrong. Overflows wrong (fits (map (emitted (map scalar_tree_of c.args.picks.now)) c.args.rows.now)))) (sym answer)
    (subst (λ (picks : List code.Scalar). Overflows wrong (fits (map (emitted (map scalar_tree_of picks)) c.args.rows.now)))
    c.as_slice.ensures.value c.in_err-made.ensures.fault)

pub returns-in-Some-clause-numbers : goal.returns-in-Some-clause-numbers
returns-in-Some-clause-numbers c =
    let all : All (λ row. row_fits row ≡ true) (map (emitted (map scalar_tree_of c.as_slice.result.now)) c.args.rows.now) =
    rw c.in-Some.is at c.in_ok-made.ensures.numbers in
    all-picks-fit (map scalar_tree_of c.args.picks.now) c.args.rows.now c.requires.picks
    (subst (λ (picks : List code.Scalar). All (λ row. row_fits row ≡ true) (map (emitted (map scalar_tree_of picks)) c.args.rows.now))
    c.as_slice.ensures.value all)

pub returns-in_err-made-2-clause-fault : goal.returns-in_err-made-2-clause-fault
returns-in_err-made-2-clause-fault c =
    let fits = results_fit c.args.form (map kind_of_emit c.args.kinds.now) in
    let wrong = c.in_err-made-2.field-0.0 in
    let answer : c.from_residual-in_err-made-2.result ≡ Err wrong = search rules in
    subst (λ answer. IfErr answer (λ wrong. Overflows wrong (fits (map (emitted (map scalar_tree_of c.args.picks.now)) c.args.rows.now)))) (sym answer)
    (subst (λ (picks : List code.Scalar). Overflows wrong (fits (map (emitted (map scalar_tree_of picks)) c.args.rows.now)))
    c.as_slice.ensures.value c.in_err-made-2.ensures.fault)

pub returns-in-Some-2-clause-numbers : goal.returns-in-Some-2-clause-numbers
returns-in-Some-2-clause-numbers c =
    let all : All (λ row. row_fits row ≡ true) (map (emitted (map scalar_tree_of c.as_slice.result.now)) c.args.rows.now) =
    rw c.in-Some-2.is at c.in_ok-made-2.ensures.numbers in
    all-picks-fit (map scalar_tree_of c.args.picks.now) c.args.rows.now c.requires.picks
    (subst (λ (picks : List code.Scalar). All (λ row. row_fits row ≡ true) (map (emitted (map scalar_tree_of picks)) c.args.rows.now))
    c.as_slice.ensures.value all)

pub returns-in-Some-2-clause-bag : goal.returns-in-Some-2-clause-bag
returns-in-Some-2-clause-bag c =
    let done = results c.args.form (map kind_of_emit c.args.kinds.now) in
    let same : SameBag (done (map (emitted (map scalar_tree_of c.as_slice.result.now)) c.args.rows.now)) c.in-Some-2.made =
    rw c.in-Some-2.is at c.in_ok-made-2.ensures.bag in
    subst (λ (picks : List code.Scalar). SameBag (done (map (emitted (map scalar_tree_of picks)) c.args.rows.now)) c.in-Some-2.made)
    c.as_slice.ensures.value same

pub returns-in-Some-clause-bag : goal.returns-in-Some-clause-bag
returns-in-Some-clause-bag c =
    let done = results c.args.form (map kind_of_emit c.args.kinds.now) in
    let same : SameBag (done (map (emitted (map scalar_tree_of c.as_slice.result.now)) c.args.rows.now)) c.in-Some.made =
    rw c.in-Some.is at c.in_ok-made.ensures.bag in
    subst (λ (picks : List code.Scalar). SameBag (done (map (emitted (map scalar_tree_of picks)) c.args.rows.now)) c.in-Some.made)
    c.as_slice.ensures.value same

pub returns-clause-bag : goal.returns-clause-bag
returns-clause-bag c = rw c.in_ok-listed.ensures.rows at c.grouped_rows.ensures.bag

pub returns-clause-numbers : goal.returns-clause-numbers
returns-clause-numbers c = IfOk-weaker c.grouped_rows.result _ _ (λ made same. c.in_ok-listed.ensures.fits) c.grouped_rows.ensures.bag

pub returns-clause-fault : goal.returns-clause-fault
returns-clause-fault c = rw c.in_ok-listed.ensures.rows at c.grouped_rows.ensures.fault

pub grouped_rows-requires-clause-few : goal.grouped_rows-requires-clause-few
grouped_rows-requires-clause-few c = grind (arith, common_steps)

pub grouped_words-requires-clause-width : goal.grouped_words-requires-clause-width
grouped_words-requires-clause-width c =
    subst (λ (picks : List code.Scalar). AreGrouped (grouped_kinds c.args.form (map kind_of_emit c.args.kinds.now)) (map (emitted (map scalar_tree_of picks)) c.args.rows.now))
    (sym c.as_slice.ensures.value) c.requires.width

pub grouped_words-requires-2-clause-width : goal.grouped_words-requires-2-clause-width
grouped_words-requires-2-clause-width c =
    subst (λ (picks : List code.Scalar). AreGrouped (grouped_kinds c.args.form (map kind_of_emit c.args.kinds.now)) (map (emitted (map scalar_tree_of picks)) c.args.rows.now))
    (sym c.as_slice.ensures.value) c.requires.width

pub grouped_rows-requires-clause-width : goal.grouped_rows-requires-clause-width
grouped_rows-requires-clause-width c = rw c.in_ok-listed.ensures.rows c.requires.width
