-- The keys of loaded files.
--
--   load_key name          the key of a file that is loaded: no user, no program and its name
--   is_load_key name key   whether a key is that one
use Rattle.std.specs.Prelude.{ℕ, Bool, ◌&&◌, ◌==◌, List, [], length}
use Rattle.std.specs.Str.{bytes_eq}
use Rattle.rel_base.specs.declared.names.Key.{Key}

-- no scan and no store of a script has such a key
abbrev pub load_key : List ℕ → Key
load_key name = record { user = []; program = []; name = name }

-- whether a key is that of the loaded file of a name
abbrev pub is_load_key : List ℕ → Key → Bool
is_load_key name key = length key.user == 0 && length key.program == 0 && bytes_eq key.name name
