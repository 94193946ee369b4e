-- The laws that tie steps to scripts.
--
--   TypedStatementsResolve   a statement without a kind of fault resolves: an assignment has a term,
--                            and a stored name stands for something
--   TypedScriptsHaveMeaning  a typed script has a meaning over its files
--   StepsMeanTheScript       the steps of a typed script store what the script stores
--   StepsHaveTheFault        and the fault of their run is the script's
--   StepsAreOfTheFiles       and they meet the conditions of what takes steps
--   LimitIsOfNumbers         behind the other kinds, a limit is passed exactly where a number is too
--                            large, or nothing is there
use Rattle.std.specs.Prelude.{◌≡◌, ◌==◌, ◌||◌, ℕ, Bool, IsSome, IsTrue, List, None, Ok, Some, false}
use Rattle.std.specs.Prelude.{if◌then◌else◌, length, nat_lt}
use Rattle.std.specs.List.{list_any}
use Rattle.std.specs.Option.{option_map_or}
use Rattle.rel_base.specs.Limits.{most_columns, most_items, most_variables}
use Rattle.rel_base.specs.Keys.{File}
use Rattle.rel_base.specs.declared.names.Key.{Key}
use Rattle.myrial_ast.specs.CandidateFaults.{FaultRule}
use Rattle.myrial_ast.specs.Operands.{operands_of}
use Rattle.myrial_ast.specs.Trees.{Name, RelTree, StatementTree}
use Rattle.myrial_ast.specs.Trees as tree
use Rattle.myrial_meaning.specs.Environments.{assigned_to}
use Rattle.myrial_meaning.specs.Faults.{run_fault}
use Rattle.myrial_meaning.specs.Fetches.{Load}
use Rattle.myrial_meaning.specs.Meaning.{stored_relations}
use Rattle.myrial_meaning.specs.Runnable.{has_meaning}
use Rattle.algebra.specs.Trees.{AtomTree, CheckedTree, Group, Join, Shape, TermTree}
use Rattle.algebra.specs.Conditions.{is_of}
use Rattle.algebra.specs.Meanings.{checked_fault, stored_by}
use Rattle.myrial_types.specs.Fetching.{have_forms}
use Rattle.myrial_types.specs.declared.faults.TypeKind.TheVariants as fault
use Rattle.myrial_types.specs.Resolving.{Names, Typed, term_of}
use Rattle.myrial_types.specs.Kinds.{first_kind, is_unknown, relation_kind, typing_kind}
use Rattle.myrial_types.specs.Checking.{checked_of}

-- a statement without a kind of fault resolves: so the steps of a typed script are those of all its
-- assignments, and its stores are all of its stores
pub record TypedStatementsResolve : Type 0 where
  pub assigned :
      (files : List File) (names : Names) (earlier : List Load) (name : Name) (r : RelTree)
      → first_kind files names earlier (tree.Assign name r) ≡ None
      → IsSome (term_of files names r)
  pub stored :
      (files : List File) (names : Names) (earlier : List Load) (name : Name) (key : Key)
      → first_kind files names earlier (tree.Store name key) ≡ None
      → IsSome (assigned_to names name)

-- a typed script has a meaning over its files, where the loaded ones have the columns of their
-- first loads
abbrev pub TypedScriptsHaveMeaning : Type 0
TypedScriptsHaveMeaning =
    (files : List File) (script : List StatementTree) (c : CheckedTree)
    → IsTrue (have_forms files script) → checked_of files script ≡ Ok c
    → IsTrue (has_meaning files script)

-- the steps of a typed script over its files store what the script stores
abbrev pub StepsMeanTheScript : Type 0
StepsMeanTheScript =
    (files : List File) (script : List StatementTree) (c : CheckedTree)
    → IsTrue (have_forms files script) → checked_of files script ≡ Ok c
    → stored_by files c ≡ stored_relations files script

-- the fault of a run of the steps is that of the script, whatever counts in each statement
abbrev pub StepsHaveTheFault : Type 0
StepsHaveTheFault =
    (rules : ℕ → FaultRule) (files : List File) (script : List StatementTree) (c : CheckedTree)
    → IsTrue (have_forms files script) → checked_of files script ≡ Ok c
    → checked_fault rules files c ≡ run_fault rules files script

-- the steps of a typed script are well formed over its files: their sources are there, their
-- numbers rise, and their terms have the types of their columns
abbrev pub StepsAreOfTheFiles : Type 0
StepsAreOfTheFiles =
    (files : List File) (script : List StatementTree) (c : CheckedTree)
    → IsTrue (have_forms files script) → checked_of files script ≡ Ok c → IsTrue (is_of files c)

-- whether a join has no item or more than 8, an item without a column, or more than 8 join
-- variables
abbrev pub has_parts_past_limit : Shape → Bool
has_parts_past_limit shape =
    length shape.atoms == 0 || nat_lt most_items (length shape.atoms)
    || list_any (λ (a : AtomTree). length a.kinds == 0) shape.atoms
    || nat_lt most_variables (length shape.variables)

-- whether a term joins, and has no item or more than 8, an item without a column, or more than 8
-- join variables
abbrev pub joins_past_limit : TermTree → Bool
joins_past_limit (Join shape sources) = has_parts_past_limit shape
joins_past_limit (Group shape sources kinds) = has_parts_past_limit shape
joins_past_limit _ = false

-- whether a relation has more than 16 columns or none, or its term joins too many parts
abbrev pub has_number_past_limit : Typed → Bool
has_number_past_limit t =
    nat_lt most_columns (length t.schema) || length t.schema == 0 || joins_past_limit t.term

-- where each operand is known and no earlier kind is told, the kind is Limit exactly where one of
-- these numbers is past its limit: nothing else makes a shape that isn't well formed
abbrev pub LimitIsOfNumbers : Type 0
LimitIsOfNumbers =
    (files : List File) (names : Names) (r : RelTree)
    → list_any (is_unknown files names) (operands_of r) ≡ false
    → relation_kind files names r ≡ None
    → typing_kind files names r
    ≡ (if option_map_or has_number_past_limit (term_of files names r) false
    then Some fault.Limit else None)
