-- the text so far has the stores so far
use Rattle.std.proofs.Common.{◌≡◌, ◌++◌, map, take}
use Rattle.output_texts.specs.OutputText.{output_text}
use Rattle.output_texts.specs.Stores.{whole_store}
use Rattle.output_texts.proofs.pieces.Pieces.add_stored.Given as goal

abbrev pub invariant-loop-store : goal.invariant-loop-store
invariant-loop-store g l = l.self ≡ l.fn.self ++ output_text (map whole_store (take l.store-index l.store-items))
