-- Files as the evaluator gives them.
--
--   sorted_file file     the file with the rows of its relation in ascending order
use Rattle.rel_base.specs.Bags.{sorted}
use Rattle.rel_base.specs.Keys.{File}

-- the file with the rows of its relation in ascending order
abbrev pub sorted_file : File → File
sorted_file file = (file.0, record { schema = file.1.schema; rows = sorted file.1.rows })
