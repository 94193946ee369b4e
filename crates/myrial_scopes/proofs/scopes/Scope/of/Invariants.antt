-- the items so far, and the number of their columns
use Rattle.std.proofs.Common.{◌≡◌, ◌<◌, ◌^◌, length, take}
use Rattle.myrial_scopes.specs.Scopes.{scope_of}
use Rattle.myrial_scopes.proofs.scopes.Scope.of.Given as goal

abbrev pub invariant-loop-item : goal.invariant-loop-item
invariant-loop-item l = record {
  kept : l.kept.items ≡ take l.item-index l.items;
  few : l.len < 2 ^ 32;
  len : l.len ≡ length (scope_of (take l.item-index l.items));
}
