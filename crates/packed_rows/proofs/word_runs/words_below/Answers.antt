use Rattle.std.proofs.Common.{◌≡◌, true, [], is_lt, arith, below_more, rules, sym, subst, get_or}
use Rattle.std.proofs.lemmas.Grind.{common_steps}
use Rattle.std.proofs.lemmas.List.{get_or-map}
use Rattle.rel_base.specs.Values.{row_order}
use Rattle.myrial_ast.specs.Combinations.{Row}
use Rattle.packed_rows.specs.Unpacked.{unpacked_row}
use Rattle.packed_rows.proofs.word_runs.words_below.Goals as goal

pub loop-count-preserved : goal.loop-count-preserved
loop-count-preserved c =
    let row = unpacked_row c.args.columns.now in
    let words = c.args.words.now in
    let count = c.loop-count.count in
    let less : is_lt (row_order (row (get_or words count 0)) (row c.args.word)) ≡ true = search rules in (
      omega arith,
      below_more _ _ c.loop-count.invariant.1
          (subst (λ (one : Row). is_lt (row_order one (row c.args.word)) ≡ true) (sym (get_or-map row words count 0 [] (omega arith))) less),
    )

pub returns-else-is_lt : goal.returns-else-is_lt
returns-else-is_lt c = grind (arith, common_steps)
