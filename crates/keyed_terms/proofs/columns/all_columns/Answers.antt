use Rattle.std.proofs.Common.{◌++◌, ◌∷◌, [], length, sym, ap, ◌∙◌, ℕ, List, arith}
use Rattle.std.proofs.lemmas.List.FromFn.{length-range_with_len}
use Rattle.keyed_terms.proofs.MakingLemmas.{more-numbers}
use Rattle.keyed_terms.proofs.columns.all_columns.Goals as goal

pub push-requires : goal.push-requires
push-requires c = omega (arith, ap length c.loop-column.invariant, length-range_with_len 0 c.loop-column.column, c.loop-column-test.true, c.ranges.width.fits)

pub loop-column-preserved : goal.loop-column-preserved
loop-column-preserved c =
    c.in_ok-push.ensures.ok ∙ ap (λ (ks : List ℕ). ks ++ c.loop-column.column ∷ []) c.loop-column.invariant ∙ sym (more-numbers c.loop-column.column)
