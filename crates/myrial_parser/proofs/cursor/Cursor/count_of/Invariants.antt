-- the symbols so far and those ahead are all
use Rattle.std.proofs.Common.{◌≡◌, ◌+◌, drop}
use Rattle.myrial_parser.specs.inner.Descent.{count_ahead}
use Rattle.myrial_parser.proofs.cursor.Cursor.count_of.Given as goal

abbrev pub invariant-loop-count : goal.invariant-loop-count
invariant-loop-count l = (l.count + count_ahead l.symbol l.self ≡ count_ahead l.symbol l.fn.self) × (l.self ≡ drop l.count l.fn.self)
