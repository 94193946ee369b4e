use Rattle.std.proofs.Common.{arith}
use Rattle.std.proofs.lemmas.Grind.{common_steps}
use Rattle.packed_rows.proofs.distinct_rows.PackedRows.unpacked.Goals as goal

pub returns-in-len1 : goal.returns-in-len1
returns-in-len1 c = grind (arith, common_steps)

pub returns-in-len2 : goal.returns-in-len2
returns-in-len2 c = grind (arith, common_steps)

pub returns-in-len3 : goal.returns-in-len3
returns-in-len3 c = grind (arith, common_steps)

pub rows_of-requires-clause-columns : goal.rows_of-requires-clause-columns
rows_of-requires-clause-columns c = grind (arith, common_steps)

pub rows_of-requires-clause-few : goal.rows_of-requires-clause-few
rows_of-requires-clause-few c = grind (arith, common_steps)

pub rows_of-requires-in-len2-clause-columns : goal.rows_of-requires-in-len2-clause-columns
rows_of-requires-in-len2-clause-columns c = grind (arith, common_steps)

pub rows_of-requires-in-len2-clause-few : goal.rows_of-requires-in-len2-clause-few
rows_of-requires-in-len2-clause-few c = grind (arith, common_steps)

pub rows_of-requires-in-len3-clause-columns : goal.rows_of-requires-in-len3-clause-columns
rows_of-requires-in-len3-clause-columns c = grind (arith, common_steps)

pub rows_of-requires-in-len3-clause-few : goal.rows_of-requires-in-len3-clause-few
rows_of-requires-in-len3-clause-few c = grind (arith, common_steps)
