-- the text so far and the rows that are left make the whole
use Rattle.std.proofs.Common.{◌≡◌, ◌++◌}
use Rattle.std.specs.List.{flat_map}
use Rattle.relation_csv.specs.RecordTexts.{row_record}
use Rattle.output_texts.specs.OutputText.{relation_lines}
use Rattle.output_texts.proofs.blocks.Block.add_relation.Given as goal

abbrev pub invariant-loop-row : goal.invariant-loop-row
invariant-loop-row l =
    (goal.iterator-loop-row).can_next l.row-iterator × (goal.iterator-loop-row).is_finite l.row-iterator
    × (l.self ++ flat_map row_record l.row-iterator ≡ l.fn.self ++ relation_lines (l.fn.key, l.fn.relation))
