-- the numbers so far stand behind the list
use Rattle.std.proofs.Common.{◌≡◌, ◌++◌, map, take}
use Rattle.rel_base.specs.declared.values.Value.TheVariants as value
use Rattle.relation_csv.proofs.int_rows.IntRowRowSource.put_values.Given as goal

abbrev pub invariant-loop-number : goal.invariant-loop-number
invariant-loop-number l = l.into.items ≡ l.fn.into.items ++ map value.Int (take l.number-index l.number-items)
