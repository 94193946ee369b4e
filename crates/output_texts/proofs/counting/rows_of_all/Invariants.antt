-- references to the rows of the stores so far
use Rattle.std.proofs.Common.{◌≡◌, ◌++◌, [], map, take}
use Rattle.std.specs.List.{flat_map}
use Rattle.rel_base.specs.Picks.{joined}
use Rattle.output_texts.proofs.counting.rows_of_all.Given as goal

abbrev pub invariant-loop-store : goal.invariant-loop-store
invariant-loop-store l =
    map (λ row. row.now) l.all.items ≡ [] ++ flat_map (λ store. joined store.parts) (take l.store-index l.store-items)
