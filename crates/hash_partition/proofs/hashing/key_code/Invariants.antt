use Rattle.std.proofs.Common.{◌≡◌, take, map}
use Rattle.std.specs.List.{fold}
use Rattle.hash_partition.specs.Hashing.{key_of}
use Rattle.rel_base.specs.Codes.{mixed_with, code_of}
use Rattle.hash_partition.proofs.hashing.key_code.Given as goal

abbrev pub invariant-loop-column : goal.invariant-loop-column
invariant-loop-column l = l.mixed ≡ fold mixed_with 0 (take l.column-index (map code_of (key_of l.row l.column-items)))
