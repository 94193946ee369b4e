-- What is printed of stored relations.
--
--   store_line key rows      the line over a stored relation
--   relation_lines stored    a stored relation: its line, its header, and its rows as they stand
--   relation_text stored     the same, its rows in ascending order
--   output_text all          every stored relation, in order
use Rattle.std.specs.Prelude.{ℕ, List, ◌++◌, length, codes}
use Rattle.std.specs.List.{flat_map}
use Rattle.std.specs.Fmt.{decimal}
use Rattle.rel_base.specs.Bags.{sorted}
use Rattle.rel_base.specs.Keys.{File, key_text}
use Rattle.rel_base.specs.declared.names.Key.{Key}
use Rattle.relation_csv.specs.RecordTexts.{header_record, row_record}

-- the line over a stored relation: its key, and its number of rows
abbrev pub store_line : Key → ℕ → List ℕ
store_line key rows =
    codes "-- store " ++ key_text key ++ codes " " ++ decimal rows ++ codes " rows\n"

-- a stored relation: its line, its header, and its rows as they stand
abbrev pub relation_lines : File → List ℕ
relation_lines file =
    store_line file.0 (length file.1.rows) ++ header_record file.1.schema
    ++ flat_map row_record file.1.rows

-- a stored relation: its line, its header, and its rows in ascending order
abbrev pub relation_text : File → List ℕ
relation_text file =
    store_line file.0 (length file.1.rows) ++ header_record file.1.schema
    ++ flat_map row_record (sorted file.1.rows)

-- every stored relation, in the order of the stores
abbrev pub output_text : List File → List ℕ
output_text stored = flat_map relation_text stored
