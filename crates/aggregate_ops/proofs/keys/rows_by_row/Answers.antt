use Rattle.std.proofs.Common.{◌≡◌, map, is_lt, sym, ◌∙◌, ap, subst}
use Rattle.std.specs.Prelude.{IsPermutation}
use Rattle.std.proofs.lemmas.Result.{IfOk-weaker}
use Rattle.std.proofs.lemmas.List.Sorted.{IsPermutation-map, All-permutation}
use Rattle.std.specs.List.Sorted.{IsSortedBy}
use Rattle.rel_base.specs.Values.{row_order}
use Rattle.rel_base.proofs.SortLemmas.{IsSortedBy-part}
use Rattle.bag_laws.proofs.ColumnLemmas.{map-through}
use Rattle.myrial_ast.specs.Combinations.{Rows}
use Rattle.aggregate_ops.specs.Columns.{key_at}
use Rattle.aggregate_ops.specs.Keyed.{keyed_order}
use Rattle.aggregate_ops.proofs.keys.rows_by_row.Goals as goal

pub returns-clause-same : goal.returns-clause-same
returns-clause-same c =
    let moved = IsPermutation-map (λ e. e.row.now) _ _ c.sort_unstable.ensures.permutation in
    let same : IsPermutation c.args.rows.now (map (λ e. e.row.now) c.sort_unstable.new.self.items) = rw c.in_ok-keyed.ensures.rows at moved in
    IfOk-weaker c.bare_rows.result _ _
    (λ made is. subst (λ (rows : Rows). IsPermutation c.args.rows.now rows) (sym (is ∙ ap (map (λ e. e.row.now)) c.deref.ensures.value)) same)
    c.bare_rows.ensures

pub returns-clause-ascending : goal.returns-clause-ascending
returns-clause-ascending c =
    let places = c.args.places.now in
    let items = c.sort_unstable.new.self.items in
    let good = All-permutation (λ e. e.places.now ≡ places) _ _ c.sort_unstable.ensures.permutation c.in_ok-keyed.ensures.places in
    let sorted =
    IsSortedBy-part (λ e. e.places.now ≡ places) (λ e. key_at places e.row.now) (λ r s. is_lt (row_order r s)) (λ p q. is_lt (keyed_order p q))
    (λ p q one other e. rw (one, other) at e) items good c.sort_unstable.ensures.sorted in
    IfOk-weaker c.bare_rows.result _ _
    (λ made is. subst (λ (rows : Rows). IsSortedBy (λ r s. is_lt (row_order r s)) rows)
    (sym (ap (map (key_at places)) (is ∙ ap (map (λ e. e.row.now)) c.deref.ensures.value) ∙ map-through (key_at places) (λ e. e.row.now) items)) sorted)
    c.bare_rows.ensures
