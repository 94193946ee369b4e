-- references to the rows of the parts so far
use Rattle.std.proofs.Common.{◌≡◌, ◌++◌, map, take}
use Rattle.std.specs.List.{flat_map}
use Rattle.output_texts.proofs.counting.add_rows_of_store.Given as goal

abbrev pub invariant-loop-part : goal.invariant-loop-part
invariant-loop-part l =
    map (λ row. row.now) l.all.items ≡ map (λ row. row.now) l.fn.all.items ++ flat_map (λ part. part) (take l.part-index l.part-items)
