use Rattle.std.proofs.Common.{◌≡◌, ◌∙◌, true, map, Ok, Err, arith}
use Rattle.std.proofs.lemmas.List.{length-map}
use Rattle.std.proofs.lemmas.List.Sorted.{All-permutation, IsPermutation-sym}
use Rattle.rel_base.specs.Bags.{SameBag}
use Rattle.myrial_ast.specs.Groups.{row_fits}
use Rattle.algebra.specs.Trees.{kind_of_emit}
use Rattle.packed_rows.specs.Emitted.{emitted_by, all_emitted}
use Rattle.packed_rows.specs.Unpacked.{unpacked_row}
use Rattle.aggregate_ops.specs.inner.Reading.{rows_of}
use Rattle.aggregate_ops.proofs.CellLemmas.{bag-as, fits-as, fault-as, width-as, few-as}
use Rattle.aggregate_ops.proofs.EmitLemmas.{all-unpacked-fit}
use Rattle.aggregate_ops.proofs.grouping.grouped_words.Goals as goal

pub rows_of_runs-requires-clause-width : goal.rows_of_runs-requires-clause-width
rows_of_runs-requires-clause-width c =
    let columns = c.in_ok-columns.columns.items in
    let words = c.in-Some.words.items in
    let all = all_emitted c.args.emits c.args.rows.now in
    let at : rows_of c.packed-packed.result ≡ map (unpacked_row columns) words =
    c.packed-packed.ensures ∙ (λ i. map (unpacked_row (c.deref-3.ensures.value i)) (c.deref-2.ensures.value i)) in
    let given : SameBag all (map (unpacked_row columns) words) = rw (c.in-Some.is, c.deref.ensures.value) at c.in_ok-words.ensures.same in
    let same : SameBag all (rows_of c.packed-packed.result) = rw at given in
    width-as c.args.form (map kind_of_emit c.args.kinds.now) all (rows_of c.packed-packed.result) same c.requires.width

pub rows_of_runs-requires-clause-few : goal.rows_of_runs-requires-clause-few
rows_of_runs-requires-clause-few c =
    let columns = c.in_ok-columns.columns.items in
    let words = c.in-Some.words.items in
    let all = all_emitted c.args.emits c.args.rows.now in
    let at : rows_of c.packed-packed.result ≡ map (unpacked_row columns) words =
    c.packed-packed.ensures ∙ (λ i. map (unpacked_row (c.deref-3.ensures.value i)) (c.deref-2.ensures.value i)) in
    let given : SameBag all (map (unpacked_row columns) words) = rw (c.in-Some.is, c.deref.ensures.value) at c.in_ok-words.ensures.same in
    let same : SameBag all (rows_of c.packed-packed.result) = rw at given in
    few-as c.args.form (map kind_of_emit c.args.kinds.now) all (rows_of c.packed-packed.result) same
    (omega (arith, c.in_ok-words.ensures.few, length-map c.args.rows.now (emitted_by c.args.emits)))

pub returns-in-Ok-clause-bag : goal.returns-in-Ok-clause-bag
returns-in-Ok-clause-bag c =
    let columns = c.in_ok-columns.columns.items in
    let words = c.in-Some.words.items in
    let all = all_emitted c.args.emits c.args.rows.now in
    let at : rows_of c.packed-packed.result ≡ map (unpacked_row columns) words =
    c.packed-packed.ensures ∙ (λ i. map (unpacked_row (c.deref-3.ensures.value i)) (c.deref-2.ensures.value i)) in
    let given : SameBag all (map (unpacked_row columns) words) = rw (c.in-Some.is, c.deref.ensures.value) at c.in_ok-words.ensures.same in
    let same : SameBag all (rows_of c.packed-packed.result) = rw at given in
    bag-as c.args.form (map kind_of_emit c.args.kinds.now) all (rows_of c.packed-packed.result) same (Ok c.in-Ok.made) c.in-Ok.ensures.rows

pub returns-in-Ok-clause-fits : goal.returns-in-Ok-clause-fits
returns-in-Ok-clause-fits c =
    let columns = c.in_ok-columns.columns.items in
    let words = c.in-Some.words.items in
    let all = all_emitted c.args.emits c.args.rows.now in
    let at : rows_of c.packed-packed.result ≡ map (unpacked_row columns) words =
    c.packed-packed.ensures ∙ (λ i. map (unpacked_row (c.deref-3.ensures.value i)) (c.deref-2.ensures.value i)) in
    let given : SameBag all (map (unpacked_row columns) words) = rw (c.in-Some.is, c.deref.ensures.value) at c.in_ok-words.ensures.same in
    let same : SameBag all (rows_of c.packed-packed.result) = rw at given in
    fits-as c.args.form (map kind_of_emit c.args.kinds.now) all (rows_of c.packed-packed.result) same (Ok c.in-Ok.made) c.in-Ok.ensures.fits

pub returns-in-Ok-clause-numbers : goal.returns-in-Ok-clause-numbers
returns-in-Ok-clause-numbers c =
    let columns = c.in_ok-columns.columns.items in
    let words = c.in-Some.words.items in
    let all = all_emitted c.args.emits c.args.rows.now in
    let at : rows_of c.packed-packed.result ≡ map (unpacked_row columns) words =
    c.packed-packed.ensures ∙ (λ i. map (unpacked_row (c.deref-3.ensures.value i)) (c.deref-2.ensures.value i)) in
    let given : SameBag all (map (unpacked_row columns) words) = rw (c.in-Some.is, c.deref.ensures.value) at c.in_ok-words.ensures.same in
    All-permutation (λ row. row_fits row ≡ true) (map (unpacked_row columns) words) all
    (IsPermutation-sym all (map (unpacked_row columns) words) given) (all-unpacked-fit columns words)

pub returns-clause-fault : goal.returns-clause-fault
returns-clause-fault c =
    let columns = c.in_ok-columns.columns.items in
    let words = c.in-Some.words.items in
    let all = all_emitted c.args.emits c.args.rows.now in
    let at : rows_of c.packed-packed.result ≡ map (unpacked_row columns) words =
    c.packed-packed.ensures ∙ (λ i. map (unpacked_row (c.deref-3.ensures.value i)) (c.deref-2.ensures.value i)) in
    let given : SameBag all (map (unpacked_row columns) words) = rw (c.in-Some.is, c.deref.ensures.value) at c.in_ok-words.ensures.same in
    let same : SameBag all (rows_of c.packed-packed.result) = rw at given in
    fault-as c.args.form (map kind_of_emit c.args.kinds.now) all (rows_of c.packed-packed.result) same (Err c.in-Err.fault) c.in-Err.ensures.fault
