use Rattle.std.proofs.Common.{◌≡◌, ◌∙◌, [], sym, arith, below_more, rules, get_or, true}
use Rattle.std.proofs.lemmas.Grind.{common_steps}
use Rattle.std.proofs.lemmas.List.{get_or-map}
use Rattle.myrial_ast.specs.Bags.{same_row}
use Rattle.bag_laws.proofs.PartialLemmas.{tied}
use Rattle.packed_rows.specs.Unpacked.{unpacked_row}
use Rattle.packed_rows.proofs.word_runs.repeats.Goals as goal

pub loop-count-preserved : goal.loop-count-preserved
loop-count-preserved c =
    let row = unpacked_row c.args.columns.now in
    let words = c.args.words.now in
    let count = c.loop-count.count in
    let same : same_row (row (get_or words 0 0)) (row (get_or words count 0)) ≡ true = search rules in (
      omega arith,
      omega arith,
      below_more _ _ c.loop-count.invariant.2
          (get_or-map row words count 0 [] (omega arith) ∙ sym (tied (row (get_or words 0 0)) (row (get_or words count 0)) same)
          ∙ sym (get_or-map row words 0 0 [] c.requires)),
    )

pub returns-else-is_eq : goal.returns-else-is_eq
returns-else-is_eq c = grind (arith, common_steps)
