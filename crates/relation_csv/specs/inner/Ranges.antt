-- Texts that are cut behind line feeds, and the rows of what they are cut into.
--
--   IsPlain text                   no byte of the text is a quote or a carriage return
--   EndsLine text                  the text is empty, or its last byte is a line feed
--   AreRanges text ranges          the ranges are the text, one after another, and each but the last ends a line
--   ReadsRange schema range found  the rows that were found are those of the range, which is plain
--   ArePutTogether parts rows      each part was found, and they are the rows, one after another
use Rattle.std.specs.Prelude.{◌≡◌, ◌⊎◌, ◌≤◌, ℕ, Bool, false, ◌==◌, ◌||◌, Option, Some, Result, Ok, List, [], ◌∷◌, ◌++◌, length, map, All}
use Rattle.std.specs.List.{list_any}
use Rattle.csv.specs.Machine.{line_feed}
use Rattle.csv.specs.declared.parser.State.TheVariants as state
use Rattle.rel_base.specs.declared.failure.Memory.{Memory}
use Rattle.rel_base.specs.declared.values.Value.{Value}
use Rattle.rel_base.specs.declared.relations.Column.{Column}
use Rattle.rel_base.specs.Limits.{most_rows}
use Rattle.rel_base.specs.Picks.{joined}
use Rattle.relation_csv.specs.Files.{rows_of_records}
use Rattle.relation_csv.specs.inner.RecordsLeft.{records_after}

-- whether a record may go on behind a line feed because of this byte, or end before one
abbrev pub is_quote_or_return : ℕ → Bool
is_quote_or_return b = (b == 34) || (b == 13)

-- no byte is a quote or a carriage return
abbrev pub IsPlain : List ℕ → Type 0
IsPlain text = list_any is_quote_or_return text ≡ false

-- the text is empty, or its last byte is a line feed
abbrev pub EndsLine : List ℕ → Type 0
EndsLine text = (text ≡ []) ⊎ ((front : List ℕ) × (text ≡ front ++ line_feed ∷ []))

-- the ranges are the text, one after another, and each but the last ends a line
pub record AreRanges (text : List ℕ) (ranges : List (List ℕ)) : Type 0 where
  pub front : List (List ℕ)
  pub last : List ℕ
  pub all : ranges ≡ front ++ last ∷ []
  pub ends : All EndsLine front
  pub whole : joined front ++ last ≡ text

-- the rows are those of the records of the range, which is plain
abbrev pub HasPlainRows : List Column → List ℕ → List (List Value) → Type 0
HasPlainRows schema range rows =
    IsPlain range × (rows_of_records schema (records_after state.StartRecord range) ≡ Ok rows)

-- what was found of a range are its rows
abbrev pub ReadsRange : List Column → List ℕ → Result (Option (List (List Value))) Memory → Type 0
ReadsRange schema range (Ok (Some rows)) = HasPlainRows schema range rows
ReadsRange schema range other = Unit {0}

-- a part that was found
abbrev pub found_part : List (List Value) → Result (Option (List (List Value))) Memory
found_part rows = Ok (Some rows)

-- each part was found, and they are the rows, one after another
pub record ArePutTogether (parts : List (Result (Option (List (List Value))) Memory))
    (rows : List (List Value)) : Type 0 where
  pub found : List (List (List Value))
  pub all : parts ≡ map found_part found
  pub whole : rows ≡ joined found
  pub few : length rows ≤ most_rows
