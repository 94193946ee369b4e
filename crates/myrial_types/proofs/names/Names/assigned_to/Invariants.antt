-- the assignments behind this one are of other names
use Rattle.std.proofs.Common.{◌≡◌, find, reverse, take}
use Rattle.myrial_ast.specs.Trees.{Name}
use Rattle.myrial_scopes.specs.Scopes.{same_name}
use Rattle.myrial_types.specs.Resolving.{Meant}
use Rattle.myrial_types.proofs.names.Names.assigned_to.Given as goal

abbrev pub invariant-loop-i : goal.invariant-loop-i
invariant-loop-i l =
    find (λ (p : Name × Meant). same_name p.0 l.name) (reverse l.self-inside.assigned.items)
    ≡ find (λ (p : Name × Meant). same_name p.0 l.name) (reverse (take l.i l.self-inside.assigned.items))
