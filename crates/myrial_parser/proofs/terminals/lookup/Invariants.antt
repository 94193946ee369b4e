-- the rows behind have the word's symbol
use Rattle.std.proofs.Common.{◌≡◌, length, map}
use Rattle.myrial_parser.specs.Terminals.{lookup}
use Rattle.myrial_parser.proofs.terminals.lookup.Given as goal

abbrev pub invariant-loop-table : goal.invariant-loop-table
invariant-loop-table l = lookup (map (λ row. (row.0.now, row.1)) l.table) l.word ≡ lookup (map (λ row. (row.0.now, row.1)) l.initial.table) l.word

abbrev pub decreases-loop-table : goal.decreases-loop-table
decreases-loop-table l = length l.table
