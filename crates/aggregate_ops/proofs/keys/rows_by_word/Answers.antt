use Rattle.std.proofs.Common.{◌∙◌, map, ap, sym, subst}
use Rattle.std.specs.Prelude.{IsPermutation}
use Rattle.std.proofs.lemmas.Result.{IfOk-weaker}
use Rattle.std.proofs.lemmas.List.Sorted.{IsPermutation-map}
use Rattle.myrial_ast.specs.Combinations.{Rows}
use Rattle.aggregate_ops.proofs.keys.rows_by_word.Goals as goal

pub returns : goal.returns
returns c =
    let moved = IsPermutation-map (λ e. e.1.now) _ _ c.sort_unstable_by_key.ensures.permutation in
    let same : IsPermutation c.args.rows.now (map (λ e. e.1.now) c.sort_unstable_by_key.new.self.items) = rw c.in_ok-worded.ensures at moved in
    IfOk-weaker c.without_words.result _ _
    (λ made is. subst (λ (rows : Rows). IsPermutation c.args.rows.now rows) (sym (is ∙ ap (map (λ e. e.1.now)) c.deref.ensures.value)) same)
    c.without_words.ensures
