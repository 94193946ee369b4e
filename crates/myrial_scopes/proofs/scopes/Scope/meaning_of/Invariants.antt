-- the items that are left, behind those so far
use Rattle.std.proofs.Common.{◌≡◌, ◌+◌, length, drop}
use Rattle.myrial_scopes.specs.Meanings.{meaning_of}
use Rattle.myrial_scopes.specs.Scopes.{may_mean}
use Rattle.myrial_scopes.specs.inner.Places.{places_from, scope_from, with_places}
use Rattle.myrial_scopes.proofs.scopes.Scope.meaning_of.Given as goal

abbrev pub invariant-loop-item : goal.invariant-loop-item
invariant-loop-item l = record {
  meaning : with_places l.meaning (places_from l.first (may_mean l.reference) (scope_from l.item-index
      (drop l.item-index l.item-items)))
      ≡ meaning_of l.self l.reference;
  first : l.first + length (scope_from l.item-index (drop l.item-index l.item-items)) ≡ length l.self;
}
