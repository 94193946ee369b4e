-- the columns so far are those that the fields so far name
use Rattle.std.proofs.Common.{◌≡◌, Ok, length, take}
use Rattle.csv.specs.Records.{fields_of}
use Rattle.relation_csv.specs.Fields.{column_of_field}
use Rattle.relation_csv.specs.Numbered.{each_numbered}
use Rattle.relation_csv.proofs.fields.schema_of.Given as goal

abbrev pub invariant-loop-field : goal.invariant-loop-field
invariant-loop-field l =
    each_numbered column_of_field 1 (take (length l.yielded) (fields_of l.header)) ≡ Ok l.schema
