-- What a run stores, as relations.
--
--   whole_store stored    what is stored, as a file: all workers' rows, one worker's after another's
--   all_rows files        the rows of all files, one file's after another's
use Rattle.std.specs.Prelude.{List}
use Rattle.std.specs.List.{flat_map}
use Rattle.rel_base.specs.Keys.{File}
use Rattle.rel_base.specs.Picks.{joined}
use Rattle.rel_base.specs.declared.values.Value.{Value}
use Rattle.placement.specs.declared.stores.SpreadStore.{SpreadStore}

-- what is stored, as a file: its key, its columns, and all workers' rows
abbrev pub whole_store : SpreadStore → File
whole_store stored = (stored.key, record { schema = stored.schema; rows = joined stored.parts })

-- the rows of all files, one file's after another's
abbrev pub all_rows : List File → List (List Value)
all_rows files = flat_map (λ file. file.1.rows) files
