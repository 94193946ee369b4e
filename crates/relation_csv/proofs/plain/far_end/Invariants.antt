-- none of the bytes so far means something
use Rattle.std.proofs.Common.{◌≡◌, false, take}
use Rattle.std.specs.List.{list_any}
use Rattle.csv.specs.Writing.{default_writer, needs_byte}
use Rattle.relation_csv.proofs.plain.far_end.Given as goal

abbrev pub invariant-loop-i : goal.invariant-loop-i
invariant-loop-i l = list_any (needs_byte default_writer) (take l.i l.bytes) ≡ false
