-- what was appended is what the reader gave, and with what is left to read it is `most` bytes
use Rattle.std.proofs.Common.{◌≡◌, ◌+◌, ◌++◌, List, ℕ, length}
use Rattle.std.specs.Io.KnownBytes.{Consumes}
use Rattle.rel_io.proofs.folder_shelf.read_first.Given as goal

abbrev pub invariant-loop-left : goal.invariant-loop-left
invariant-loop-left g l = (given : List ℕ) × (l.into.items ≡ l.fn.into.items ++ given) × (length given + l.left ≡ l.fn.most) × Consumes (g.F.Read.remaining l.fn.file) (g.F.Read.remaining l.file) given

abbrev pub decreases-loop-left : goal.decreases-loop-left
decreases-loop-left g l = l.left
