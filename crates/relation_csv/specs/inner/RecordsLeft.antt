-- A reader as the list of records that it has left.
--
--   records_left r        the records that reader r has not read yet
--   IsSteady r            reader r is set up as `records_of_bytes` says, and has not failed
--   IsNext next rs ..     what a read finds is the first of the records left
--   schema_ahead rs       the columns of the header, the first of the records left
use Rattle.std.specs.Prelude.{◌≡◌, ℕ, ◌+◌, true, false, Option, Some, IsSome, Result, Err, List, [], ◌∷◌, length}
use Rattle.std.specs.Borrow.{Bor}
use Rattle.std.specs.Option.{option_map_or}
use Rattle.csv.specs.Reading.{Ready, default_config, is_flexible, reader_config, reader_state, reader_trim, records_from, source_of}
use Rattle.csv.specs.declared.parser.State.{State}
use Rattle.csv.specs.declared.reader.Reader.{Reader}
use Rattle.csv.specs.declared.reader.Trim.TheVariants as trim
use Rattle.relation_csv.specs.declared.records.Next.{Next}
use Rattle.relation_csv.specs.declared.records.Next.TheVariants as next
use Rattle.rel_base.specs.declared.relations.Column.{Column}
use Rattle.relation_csv.specs.declared.faults.RelFault.{RelFault}
use Rattle.relation_csv.specs.declared.faults.RelFault.TheVariants as fault
use Rattle.relation_csv.specs.Files.{Record, is_text, schema_of_record}

-- the bytes that a slice has left are its own
abbrev pub bytes_in : Bor (List ℕ) → Option (List ℕ)
bytes_in slice = Some slice.now

-- the records of the bytes that follow where the reader stands
abbrev pub records_after : State → List ℕ → List Record
records_after state bytes = records_from default_config (length bytes + 1) state bytes

-- the records that a reader has not read yet
unfoldable pub records_left : Reader (Bor (List ℕ)) → List Record
records_left reader =
    option_map_or (records_after (reader_state reader)) (source_of bytes_in reader) []

-- the reader reads by default settings, sets no header apart, takes records of any length, and has not failed
pub record IsSteady (reader : Reader (Bor (List ℕ))) : Type 0 where
  pub config : reader_config reader ≡ default_config
  pub untrimmed : reader_trim reader ≡ trim.None
  pub flexible : is_flexible reader ≡ true
  pub ready : Ready reader
  pub source_known : IsSome (source_of bytes_in reader)

-- there is a next record, and it is not text
abbrev pub StartsWithNoText : List Record → Type 0
StartsWithNoText left =
    (fields : Record) × (rest : List Record) × (left ≡ fields ∷ rest) × (is_text fields ≡ false)

-- what was found is the first of the records left, with its fields and those behind it, or that none is left
abbrev pub IsNext : Next → List Record → Record → List Record → Type 0
IsNext next.Record left fields rest = (left ≡ fields ∷ rest) × (is_text fields ≡ true)
IsNext next.NotText left fields rest = StartsWithNoText left
IsNext next.End left fields rest = left ≡ []

-- the columns of the header, the first of the records left
abbrev pub schema_ahead : List Record → Result (List Column) RelFault
schema_ahead [] = Err fault.NoHeader
schema_ahead (header ∷ others) = schema_of_record header
