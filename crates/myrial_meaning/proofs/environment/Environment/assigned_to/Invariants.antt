use Rattle.std.proofs.Common.{◌≡◌, find, map, reverse, take}
use Rattle.myrial_ast.specs.Trees.{Name}
use Rattle.rel_base.specs.Relations.{RelationState}
use Rattle.myrial_scopes.specs.Scopes.{same_name}
use Rattle.myrial_meaning.specs.inner.Assignments.{assignment_of}
use Rattle.myrial_meaning.proofs.environment.Environment.assigned_to.Given as goal

abbrev pub invariant-loop-i : goal.invariant-loop-i
invariant-loop-i l =
    find (λ (p : Name × RelationState). same_name p.0 l.name) (reverse (map assignment_of l.self-inside.assigned.items))
    ≡ find (λ (p : Name × RelationState). same_name p.0 l.name) (reverse (map assignment_of (take l.i l.self-inside.assigned.items)))
