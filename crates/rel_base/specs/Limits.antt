-- The limits of the engine, each a number of its own. The code's constants are these numbers.
--
--   most_rows             rows of a relation, and candidates of a comprehension
--   most_columns          columns of a relation
--   most_items            items of a comprehension
--   most_variables        join variables of a comprehension
--   most_script_bytes     bytes of a script
--   most_relation_bytes   bytes of a relation's file
--   most_pieces           pieces of a script, cut at its semicolons
--   most_tokens           tokens of a piece
--   most_nesting          parentheses that are open at one place
--   most_workers          workers
--   most_capacity         messages that wait in a channel
--   most_batch            rows of a message
--   taps                  taps of a run: one for what each worker sends, and one for what it receives and lists
use Rattle.std.specs.Prelude.{ℕ}

abbrev pub most_rows : ℕ
most_rows = 4194304

abbrev pub most_columns : ℕ
most_columns = 16

abbrev pub most_items : ℕ
most_items = 8

abbrev pub most_variables : ℕ
most_variables = 8

abbrev pub most_script_bytes : ℕ
most_script_bytes = 65536

abbrev pub most_relation_bytes : ℕ
most_relation_bytes = 67108864

abbrev pub most_pieces : ℕ
most_pieces = 256

abbrev pub most_tokens : ℕ
most_tokens = 1024

abbrev pub most_nesting : ℕ
most_nesting = 64

abbrev pub most_workers : ℕ
most_workers = 64

abbrev pub most_capacity : ℕ
most_capacity = 1024

abbrev pub most_batch : ℕ
most_batch = 4096

abbrev pub taps : ℕ
taps = 128
