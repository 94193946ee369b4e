-- the text so far has the rows so far
use Rattle.std.proofs.Common.{◌≡◌, ◌++◌, take}
use Rattle.std.specs.List.{flat_map}
use Rattle.relation_csv.specs.RecordTexts.{row_record}
use Rattle.output_texts.proofs.blocks.Block.add_rows.Given as goal

abbrev pub invariant-loop-row : goal.invariant-loop-row
invariant-loop-row l =
    l.self ≡ l.fn.self ++ flat_map (λ row. row_record row.now) (take l.row-index l.rows)
