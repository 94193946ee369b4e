-- The names of the files that a script needs.
--
--   is_loaded key          the key is that of a loaded file, which has no user and no program
--   file_name_of key       the name under which its file is fetched
--   key_words key          the key as a line on standard error tells it
use Rattle.std.specs.Prelude.{ℕ, Bool, ◌&&◌, ◌==◌, if◌then◌else◌, List, length}
use Rattle.rel_base.specs.Keys.{key_text, shelf_name_of}
use Rattle.rel_base.specs.declared.names.Key.{Key}

-- whether the key is that of a loaded file; no scanned key is
abbrev pub is_loaded : Key → Bool
is_loaded key = length key.user == 0 && length key.program == 0

-- the name under which the file of a key is fetched: a loaded file has the name that the script writes
abbrev pub file_name_of : Key → List ℕ
file_name_of key = if is_loaded key then key.name else shelf_name_of key

-- the key as a line tells it
abbrev pub key_words : Key → List ℕ
key_words key = if is_loaded key then key.name else key_text key
