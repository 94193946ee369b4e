-- The files that a script needs.
--
--   loads_in s               the loads of a statement, in order: the file's name, and how it is read
--   fetched_keys script      the keys whose files a script needs, each once, by first scan or load
--   form_in script key       how the first load of this key's file reads it, where it is loaded
--   fetches script           these keys, each with that form
use Rattle.std.specs.Prelude.{Bool, not, if◌then◌else◌, List, [], ◌∷◌, ◌++◌, map, filter, find, Option, option_map}
use Rattle.std.specs.List.{list_any, flat_map}
use Rattle.rel_base.specs.Keys.{same_key}
use Rattle.rel_base.specs.declared.names.Key.{Key}
use Rattle.myrial_ast.specs.declared.relations.LoadForm.{LoadForm}
use Rattle.myrial_ast.specs.declared.relations.Operand.{Operand}
use Rattle.myrial_ast.specs.declared.relations.Operand.TheVariants as operand
use Rattle.myrial_ast.specs.Loads.{load_key, is_load_key}
use Rattle.myrial_ast.specs.Operands.{operands_of}
use Rattle.myrial_ast.specs.Trees.{Name, StatementTree}
use Rattle.myrial_ast.specs.Trees as tree
use Rattle.myrial_meaning.specs.declared.needed_files.Fetch.{Fetch}

-- ---- which files

-- whether the key is among these
abbrev pub has_key : List Key → Key → Bool
has_key keys key = list_any (λ other. same_key other key) keys

-- the operands of a statement, in order
abbrev pub operands_in : StatementTree → List Operand
operands_in (tree.Assign name r) = operands_of r
operands_in _ = []

-- the key of the file that an operand needs where these keys were stored: a load needs its own whatever was stored
abbrev pub keys_needed : List Key → Operand → List Key
keys_needed stored (operand.Named name) = []
keys_needed stored (operand.Scan key) = if has_key stored key then [] else key ∷ []
keys_needed stored (operand.Load name schema skip) = load_key name ∷ []

-- the key of every scan and load that needs a file, in order
abbrev pub needed_from : List Key → List StatementTree → List Key
needed_from stored [] = []
needed_from stored (tree.Store name key ∷ rest) = needed_from (stored ++ key ∷ []) rest
needed_from stored (s ∷ rest) =
    flat_map (keys_needed stored) (operands_in s) ++ needed_from stored rest

-- each key where it stands first
abbrev pub each_once : List Key → List Key
each_once [] = []
each_once (key ∷ keys) = key ∷ filter (λ other. not (same_key key other)) (each_once keys)

-- the keys whose files a script needs, in the order of their first scans and loads
abbrev pub fetched_keys : List StatementTree → List Key
fetched_keys script = each_once (needed_from [] script)

-- ---- how loaded files are read

-- a load: the file's name, and how it is read
abbrev pub Load : Type 0
Load = Name × LoadForm

abbrev pub loads_of : Operand → List Load
loads_of (operand.Load name schema skip) = (name, record { schema = schema; skip = skip }) ∷ []
loads_of _ = []

-- the loads of a statement, in order
abbrev pub loads_in : StatementTree → List Load
loads_in s = flat_map loads_of (operands_in s)

-- how the first of these loads of this key's file reads it, where one loads it
abbrev pub form_among : List Load → Key → Option LoadForm
form_among loads key =
    option_map (λ (l : Load). l.1) (find (λ (l : Load). is_load_key l.0 key) loads)

-- how the first load of this key's file reads it, where the script loads it
abbrev pub form_in : List StatementTree → Key → Option LoadForm
form_in script key = form_among (flat_map loads_in script) key

-- ---- both

-- the files that a script needs, each with the form of its first load
abbrev pub fetches : List StatementTree → List Fetch
fetches script = map (λ key. record { key = key; form = form_in script key }) (fetched_keys script)
