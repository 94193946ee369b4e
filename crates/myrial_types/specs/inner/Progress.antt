-- What is known of a script behind some of its statements.
--
--   IsKind number fault kind       the fault is that of the statement of this number and of the given kind, or memory was refused
--   Progress                       what names and keys stand for, the loads, the steps and the stores
--   known_of progress              what the code knows
--   known_after files number p s   what is known behind a statement of this number
use Rattle.std.specs.Prelude.{◌≡◌, ⊤, ℕ, List, [], ◌∷◌, ◌++◌, map, Option, Some, option_map}
use Rattle.std.specs.Option.{option_map_or, option_to_list}
use Rattle.rel_base.specs.Keys.{File}
use Rattle.myrial_ast.specs.Trees.{Name, StatementTree}
use Rattle.myrial_ast.specs.Trees as tree
use Rattle.rel_base.specs.declared.names.Key.{Key}
use Rattle.myrial_meaning.specs.Environments.{nothing_yet, assigned_to, with_key}
use Rattle.myrial_meaning.specs.Fetches.{Load, loads_in}
use Rattle.algebra.specs.declared.terms.StoreStep.{StoreStep}
use Rattle.algebra.specs.CheckedTrees.{step_tree_of}
use Rattle.algebra.specs.Trees.{StepTree}
use Rattle.myrial_types.specs.declared.checking.Progress as code
use Rattle.myrial_types.specs.declared.faults.TypeFault.{TypeFault}
use Rattle.myrial_types.specs.declared.faults.TypeFault.TheVariants as refusal
use Rattle.myrial_types.specs.declared.faults.TypeKind.{TypeKind}
use Rattle.myrial_types.specs.Resolving.{Names, Typed, term_of}
use Rattle.myrial_types.specs.Checking.{with_result, names_after, step_of, store_of}

-- the fault is that of the statement of this number and of the given kind; memory may be refused at any time
abbrev pub IsKind : ℕ → TypeFault → Option TypeKind → Type 0
IsKind number (refusal.At statement kind) given = (statement ≡ number) × (given ≡ Some kind)
IsKind number refusal.Memory given = ⊤

-- what is known of a script behind some of its statements
pub record Progress : Type 0 where
  pub names : Names
  pub loads : List Load
  pub steps : List StepTree
  pub stores : List StoreStep

-- what the code knows
abbrev pub known_of : code.Progress → Progress
known_of p = record {
  names = p.names;
  loads = p.loads.items;
  steps = map step_tree_of p.steps;
  stores = p.stores;
}

-- before the first statement
abbrev pub nothing_known : Progress
nothing_known = record { names = nothing_yet; loads = []; steps = []; stores = [] }

-- a step more, whose statement has this number and assigns to this name
abbrev pub with_step : ℕ → Progress → Name → Typed → Progress
with_step number p name t =
    record {
      names = with_result number p.names name t;
      loads = p.loads;
      steps = p.steps ++ step_of number t ∷ [];
      stores = p.stores;
    }

-- a store more, whose statement has this number and stores what this name stands for
abbrev pub with_store : ℕ → Progress → Name → Key → Progress
with_store number p name key = record {
  names = option_map_or (with_key p.names key) (assigned_to p.names name) p.names;
  loads = p.loads;
  steps = p.steps;
  stores = p.stores ++ option_to_list (option_map (store_of number key) (assigned_to p.names name));
}

-- the steps and the stores of a statement of this number
abbrev pub steps_in : List File → ℕ → Names → StatementTree → List StepTree
steps_in files number names (tree.Assign name r) =
    option_to_list (option_map (step_of number) (term_of files names r))
steps_in files number names _ = []

abbrev pub stores_in : ℕ → Names → StatementTree → List StoreStep
stores_in number names (tree.Store name key) =
    option_to_list (option_map (store_of number key) (assigned_to names name))
stores_in number names _ = []

-- behind a statement of this number
abbrev pub known_after : List File → ℕ → Progress → StatementTree → Progress
known_after files number p s = record {
  names = names_after files number p.names s;
  loads = p.loads ++ loads_in s;
  steps = p.steps ++ steps_in files number p.names s;
  stores = p.stores ++ stores_in number p.names s;
}
