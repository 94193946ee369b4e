-- the values of the columns so far stand behind the list
use Rattle.std.proofs.Common.{◌≡◌, ◌++◌, take}
use Rattle.packed_rows.specs.Unpacked.{unpacked_row}
use Rattle.packed_rows.proofs.packed_bags.WordRowRowSource.put_values.Given as goal

abbrev pub invariant-loop-column : goal.invariant-loop-column
invariant-loop-column l = l.into.items ≡ l.fn.into.items ++ unpacked_row (take l.column-index l.self-inside.columns.now) l.self-inside.word
