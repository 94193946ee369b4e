-- the bytes so far are the fields so far, a comma before each
use Rattle.std.proofs.Common.{◌≡◌, ◌++◌, map, take}
use Rattle.csv.specs.Writing.{default_writer, fields_text}
use Rattle.relation_csv.proofs.texts.push_fields.Given as goal

abbrev pub invariant-loop-field : goal.invariant-loop-field
invariant-loop-field g l = l.into.items ≡ l.initial.into.items ++ fields_text default_writer
    (map g.F.Field.bytes (take l.field-index l.rest))
