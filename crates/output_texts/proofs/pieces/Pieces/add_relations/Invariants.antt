-- the text so far has the relations so far
use Rattle.std.proofs.Common.{◌≡◌, ◌++◌, take}
use Rattle.std.specs.List.{flat_map}
use Rattle.output_texts.specs.OutputText.{relation_lines}
use Rattle.output_texts.proofs.pieces.Pieces.add_relations.Given as goal

abbrev pub invariant-loop-key : goal.invariant-loop-key
invariant-loop-key l = l.self ≡ l.fn.self ++ flat_map relation_lines (take l.key-index l.key-items)
