-- What an answer unfolds to compute this crate's words on a literal.
use Rattle.std.specs.Prelude.{⊤}
use Rattle.std.specs.Char.{encode_utf8}
use Rattle.std.specs.Str.{chars, is_utf8}
use Rattle.std.specs.Fmt.{digits}
use Rattle.csv.specs.Machine.{next_record}
use Rattle.csv.specs.Reading.{records_from, strip_bom}
use Rattle.csv.specs.Writing.{escaped, fields_text, is_blank}
use Rattle.relation_csv.specs.Files.{relation_of_bytes, relation_with}
use Rattle.relation_csv.specs.RecordTexts.{header_record, row_record}

unfoldable pub files_on_literals : ⊤
unfolding next_record records_from strip_bom encode_utf8 chars is_utf8 escaped fields_text is_blank digits relation_of_bytes relation_with header_record row_record
files_on_literals = tt
