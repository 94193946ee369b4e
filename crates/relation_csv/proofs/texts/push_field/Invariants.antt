-- the bytes so far are the escaped bytes of the field so far
use Rattle.std.proofs.Common.{◌≡◌, ◌++◌, take}
use Rattle.csv.specs.Writing.{default_writer, escaped}
use Rattle.relation_csv.proofs.texts.push_field.Given as goal

abbrev pub invariant-loop-byte : goal.invariant-loop-byte
invariant-loop-byte l = l.into.items ≡ l.initial.into.items ++ escaped default_writer (take l.byte-index l.field)
