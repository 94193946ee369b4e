-- the column stands among the items that are left
use Rattle.std.proofs.Common.{◌≡◌, ◌<◌, length, drop}
use Rattle.myrial_scopes.specs.Scopes.{column_at}
use Rattle.myrial_scopes.specs.inner.Places.{scope_from}
use Rattle.myrial_scopes.proofs.scopes.Scope.column.Given as goal

abbrev pub invariant-loop-number : goal.invariant-loop-number
invariant-loop-number l = record {
  column : column_at (scope_from l.number (drop l.number l.item-items)) l.own ≡ column_at l.self l.place;
  low : l.own < length (scope_from l.number (drop l.number l.item-items));
}
