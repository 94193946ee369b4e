-- What a statement's evaluation comes to.
--
--   fault_over number sources condition emits    the fault of a comprehension over these items
--   IsFault fault given                          the fault is the given one, or memory was refused
use Rattle.std.specs.Prelude.{◌≡◌, ⊤, ℕ, List, Option, Some, option_and_then}
use Rattle.rel_base.specs.declared.faults.RunFault.{RunFault}
use Rattle.rel_base.specs.declared.faults.RunFault.TheVariants as fault
use Rattle.myrial_ast.specs.Trees.{Tree, EmitTree}
use Rattle.myrial_ast.specs.CandidateFaults.{joins_alone, comprehension_fault}
use Rattle.myrial_scopes.specs.Scopes.{scope_of}
use Rattle.myrial_scopes.specs.Emits.{Resolved, resolved}
use Rattle.myrial_meaning.specs.Meaning.{ItemRelation, items_of, tables_of}
use Rattle.myrial_meaning.specs.Faults.{widths_of}

-- the fault of a comprehension over these items, in a statement of this number
abbrev pub fault_over : ℕ → List ItemRelation → Option Tree → List EmitTree → Option RunFault
fault_over number sources condition emits =
    option_and_then (λ (b : Resolved). comprehension_fault joins_alone number
    (widths_of sources) b.comprehension (tables_of sources))
    (resolved (scope_of (items_of sources)) condition emits)

-- the fault is the given one; memory may be refused at any time
abbrev pub IsFault : RunFault → Option RunFault → Type 0
IsFault (fault.TooManyRows number) given = given ≡ Some (fault.TooManyRows number)
IsFault (fault.Overflow number) given = given ≡ Some (fault.Overflow number)
IsFault (fault.AggregateOverflow number) given = given ≡ Some (fault.AggregateOverflow number)
IsFault fault.Memory given = ⊤
