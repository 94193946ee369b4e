-- the values so far are those that the fields so far write under their columns
use Rattle.std.proofs.Common.{◌≡◌, Ok, length, take, zip}
use Rattle.csv.specs.Records.{fields_of}
use Rattle.relation_csv.specs.Files.{value_under}
use Rattle.relation_csv.specs.Numbered.{each_numbered}
use Rattle.relation_csv.proofs.fields.row_of.Given as goal

abbrev pub invariant-loop-column : goal.invariant-loop-column
invariant-loop-column l =
    each_numbered (value_under l.nth) 1 (take (length l.yielded) (zip l.schema (fields_of l.fields))) ≡ Ok l.row
