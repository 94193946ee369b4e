-- What the names and the stored keys of a script stand for, be that relations, their columns, or where they come from.
--
--   Environment X                what the names that were assigned and the keys that were stored stand for
--   assigned_to env name         what the latest assignment of the name assigned
--   kept_under files env key     what the latest store of the key stored, or else its file
--   loaded_from files name       the loaded file of the name
use Rattle.std.specs.Prelude.{List, [], ◌∷◌, ◌++◌, find, Option, option_map}
use Rattle.rel_base.specs.Keys.{same_key}
use Rattle.rel_base.specs.declared.names.Key.{Key}
use Rattle.myrial_ast.specs.declared.relations.Operand.{Operand}
use Rattle.myrial_ast.specs.declared.relations.Operand.TheVariants as operand
use Rattle.myrial_ast.specs.Loads.{is_load_key}
use Rattle.myrial_ast.specs.Trees.{Name}
use Rattle.myrial_scopes.specs.Scopes.{same_name}

-- what the names and the stored keys stand for, the latest first
pub record Environment (X : Type 0) : Type 0 where
  pub assigned : List (Name × X)
  pub stored : List (Key × X)

module _ {X : Type 0} where
  -- no name is assigned, and no key stored
  abbrev pub nothing_yet : Environment X
  nothing_yet = record { assigned = []; stored = [] }

  -- what the latest assignment of this name assigned
  abbrev pub assigned_to : Environment X → Name → Option X
  assigned_to env name =
      option_map (λ (p : Name × X). p.1) (find (λ (p : Name × X). same_name p.0 name) env.assigned)

  -- what the latest store of this key stored, or else its file
  abbrev pub kept_under : List (Key × X) → Environment X → Key → Option X
  kept_under files env key =
      option_map (λ (p : Key × X). p.1)
      (find (λ (p : Key × X). same_key p.0 key) (env.stored ++ files))

  -- the loaded file of this name, whatever was stored
  abbrev pub loaded_from : List (Key × X) → Name → Option X
  loaded_from files name =
      option_map (λ (p : Key × X). p.1) (find (λ (p : Key × X). is_load_key name p.0) files)

  -- what an operand stands for
  abbrev pub operand_of : List (Key × X) → Environment X → Operand → Option X
  operand_of files env (operand.Named name) = assigned_to env name
  operand_of files env (operand.Scan key) = kept_under files env key
  operand_of files env (operand.Load name schema skip) = loaded_from files name

  -- the environment with one name more, and with one stored key more
  abbrev pub with_name : Environment X → Name → X → Environment X
  with_name env name x = record { assigned = (name, x) ∷ env.assigned; stored = env.stored }

  abbrev pub with_key : Environment X → Key → X → Environment X
  with_key env key x = record { assigned = env.assigned; stored = (key, x) ∷ env.stored }
