use Rattle.std.proofs.Common.{◌≡◌, ◌∙◌, ap, map}
use Rattle.rel_base.specs.Bags.{SameBag}
use Rattle.algebra.specs.Trees.{kind_of_emit}
use Rattle.aggregate_ops.specs.Columns.{rows_in}
use Rattle.aggregate_ops.specs.inner.Reading.{rows_of}
use Rattle.aggregate_ops.proofs.CellLemmas.{bag-as, fits-as, fault-as, width-as, few-as}
use Rattle.aggregate_ops.proofs.grouping.grouped_rows.Goals as goal

pub rows_of_runs-requires-clause-width : goal.rows_of_runs-requires-clause-width
rows_of_runs-requires-clause-width c =
    let at : rows_of c.lent-ordered.result ≡ rows_in c.in_ok-lent.lent.items = c.lent-ordered.ensures ∙ ap rows_in c.deref-2.ensures.value in
    let same : SameBag c.args.rows.now (rows_of c.lent-ordered.result) = rw at c.in_ok-lent.ensures.same in
    width-as c.args.form (map kind_of_emit c.args.kinds.now) c.args.rows.now (rows_of c.lent-ordered.result) same c.requires.width

pub rows_of_runs-requires-clause-few : goal.rows_of_runs-requires-clause-few
rows_of_runs-requires-clause-few c =
    let at : rows_of c.lent-ordered.result ≡ rows_in c.in_ok-lent.lent.items = c.lent-ordered.ensures ∙ ap rows_in c.deref-2.ensures.value in
    let same : SameBag c.args.rows.now (rows_of c.lent-ordered.result) = rw at c.in_ok-lent.ensures.same in
    few-as c.args.form (map kind_of_emit c.args.kinds.now) c.args.rows.now (rows_of c.lent-ordered.result) same c.requires.few

pub returns-clause-bag : goal.returns-clause-bag
returns-clause-bag c =
    let at : rows_of c.lent-ordered.result ≡ rows_in c.in_ok-lent.lent.items = c.lent-ordered.ensures ∙ ap rows_in c.deref-2.ensures.value in
    let same : SameBag c.args.rows.now (rows_of c.lent-ordered.result) = rw at c.in_ok-lent.ensures.same in
    bag-as c.args.form (map kind_of_emit c.args.kinds.now) c.args.rows.now (rows_of c.lent-ordered.result) same c.rows_of_runs.result c.rows_of_runs.ensures.rows

pub returns-clause-fits : goal.returns-clause-fits
returns-clause-fits c =
    let at : rows_of c.lent-ordered.result ≡ rows_in c.in_ok-lent.lent.items = c.lent-ordered.ensures ∙ ap rows_in c.deref-2.ensures.value in
    let same : SameBag c.args.rows.now (rows_of c.lent-ordered.result) = rw at c.in_ok-lent.ensures.same in
    fits-as c.args.form (map kind_of_emit c.args.kinds.now) c.args.rows.now (rows_of c.lent-ordered.result) same c.rows_of_runs.result c.rows_of_runs.ensures.fits

pub returns-clause-fault : goal.returns-clause-fault
returns-clause-fault c =
    let at : rows_of c.lent-ordered.result ≡ rows_in c.in_ok-lent.lent.items = c.lent-ordered.ensures ∙ ap rows_in c.deref-2.ensures.value in
    let same : SameBag c.args.rows.now (rows_of c.lent-ordered.result) = rw at c.in_ok-lent.ensures.same in
    fault-as c.args.form (map kind_of_emit c.args.kinds.now) c.args.rows.now (rows_of c.lent-ordered.result) same c.rows_of_runs.result c.rows_of_runs.ensures.fault
