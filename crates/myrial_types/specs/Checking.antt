-- What a script comes to: its steps and stores, or its first fault.
--
--   names_after files number names s   what names and keys stand for after a statement of this number
--   checked_of files script            the script with its names resolved, or the first statement that isn't typed and its first
--                                      kind of fault
--   IsFault fault given                the fault is the given one, or memory was refused
use Rattle.std.specs.Prelude.{◌≡◌, ⊤, ℕ, ◌+◌, List, [], ◌∷◌, ◌++◌, Option, Some, None, option_map, Result, Ok, Err}
use Rattle.std.specs.Option.{option_map_or, option_to_list}
use Rattle.rel_base.specs.Keys.{File}
use Rattle.rel_base.specs.declared.names.Key.{Key}
use Rattle.myrial_ast.specs.Trees.{Name, StatementTree}
use Rattle.myrial_ast.specs.Trees as tree
use Rattle.myrial_meaning.specs.Environments.{nothing_yet, assigned_to, with_name, with_key}
use Rattle.algebra.specs.declared.terms.Source.TheVariants as source
use Rattle.algebra.specs.declared.terms.StoreStep.{StoreStep}
use Rattle.algebra.specs.Trees.{StepTree, CheckedTree}
use Rattle.myrial_types.specs.declared.faults.TypeFault.{TypeFault}
use Rattle.myrial_types.specs.declared.faults.TypeFault.TheVariants as refusal
use Rattle.myrial_types.specs.declared.faults.TypeKind.{TypeKind}
use Rattle.myrial_meaning.specs.Fetches.{Load, loads_in}
use Rattle.myrial_types.specs.Resolving.{Meant, Names, Typed, term_of}
use Rattle.myrial_types.specs.Kinds.{first_kind}

-- the name of a statement of this number stands for its result
abbrev pub with_result : ℕ → Names → Name → Typed → Names
with_result number names name t =
    with_name names name (record { source = source.Result number; schema = t.schema })

-- what names and keys stand for after a statement of this number
abbrev pub names_after : List File → ℕ → Names → StatementTree → Names
names_after files number names tree.Nothing = names
names_after files number names (tree.Assign name r) =
    option_map_or (with_result number names name) (term_of files names r) names
names_after files number names (tree.Store name key) =
    option_map_or (with_key names key) (assigned_to names name) names

-- the step of a statement that assigns
abbrev pub step_of : ℕ → Typed → StepTree
step_of number t = record { statement = number; schema = t.schema; term = t.term }

-- the store of a statement that stores under a key
abbrev pub store_of : ℕ → Key → Meant → StoreStep
store_of number key m = record { statement = number; key = key; source = m.source }

-- a statement with its names resolved, before the rest
abbrev pub with_statement : List File → ℕ → Names → StatementTree → CheckedTree → CheckedTree
with_statement files number names tree.Nothing rest = rest
with_statement files number names (tree.Assign name r) rest =
    record {
      steps = option_to_list (option_map (step_of number) (term_of files names r))
          ++ rest.steps;
      stores = rest.stores;
    }
with_statement files number names (tree.Store name key) rest =
    record {
      steps = rest.steps;
      stores = option_to_list (option_map (store_of number key) (assigned_to names name))
          ++ rest.stores;
    }

-- a fault of a statement, or else the statement before the rest
abbrev pub before : ℕ → Option TypeKind → (CheckedTree → CheckedTree) → Result CheckedTree TypeFault
    → Result CheckedTree TypeFault
before number (Some kind) put rest = Err (refusal.At number kind)
before number None put (Ok rest) = Ok (put rest)
before number None put (Err fault) = Err fault

-- what statements come to, of which the first has this number, behind these loads, where names and keys stand for these
abbrev pub checked_from : List File → ℕ → Names → List Load → List StatementTree
    → Result CheckedTree TypeFault
checked_from files number names earlier [] = Ok (record { steps = []; stores = [] })
checked_from files number names earlier (s ∷ rest) =
    before number (first_kind files names earlier s) (with_statement files number names s)
    (checked_from files (number + 1) (names_after files number names s) (earlier ++ loads_in s) rest)

-- what a script comes to: its steps and stores, or the first statement that isn't typed and its first kind of fault
abbrev pub checked_of : List File → List StatementTree → Result CheckedTree TypeFault
checked_of files script = checked_from files 1 nothing_yet [] script

-- the fault is the given one; memory may be refused at any time
abbrev pub IsFault : TypeFault → Result CheckedTree TypeFault → Type 0
IsFault (refusal.At number kind) given = given ≡ Err (refusal.At number kind)
IsFault refusal.Memory given = ⊤
