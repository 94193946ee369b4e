-- the stores behind this one are of other keys
use Rattle.std.proofs.Common.{◌≡◌, find, reverse, take}
use Rattle.rel_base.specs.Keys.{same_key}
use Rattle.rel_base.specs.declared.names.Key.{Key}
use Rattle.myrial_types.specs.Resolving.{Meant}
use Rattle.myrial_types.proofs.names.Names.stored_under.Given as goal

abbrev pub invariant-loop-i : goal.invariant-loop-i
invariant-loop-i l =
    find (λ (p : Key × Meant). same_key p.0 l.key) (reverse l.self-inside.stored.items)
    ≡ find (λ (p : Key × Meant). same_key p.0 l.key) (reverse (take l.i l.self-inside.stored.items))
