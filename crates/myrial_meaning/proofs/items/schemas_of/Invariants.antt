use Rattle.std.proofs.Common.{◌≡◌, take}
use Rattle.std.specs.Prelude.{All}
use Rattle.myrial_meaning.specs.Meaning.{items_of}
use Rattle.myrial_meaning.specs.inner.ItemRows.{HasTypedRows}
use Rattle.myrial_meaning.proofs.items.schemas_of.Given as goal

abbrev pub invariant-loop-item : goal.invariant-loop-item
invariant-loop-item l = record {
  schemas : l.schemas.items ≡ items_of (take l.item-index l.items);
  typed : All HasTypedRows (take l.item-index l.items);
}
