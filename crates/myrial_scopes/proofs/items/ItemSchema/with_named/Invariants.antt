-- the columns that are left, behind those so far
use Rattle.std.proofs.Common.{◌≡◌, ◌+◌, drop}
use Rattle.myrial_scopes.specs.inner.Places.{named_from, with_places}
use Rattle.myrial_scopes.proofs.items.ItemSchema.with_named.Given as goal

abbrev pub invariant-loop-i : goal.invariant-loop-i
invariant-loop-i l =
    with_places l.meaning (named_from (l.first + l.i) l.name (drop l.i l.self-inside.schema.now))
    ≡ with_places l.initial.meaning (named_from l.first l.name l.self-inside.schema.now)
