-- The text of ranges of rows.
--
--   ranges_text ranges      a line for each row, one range's lines after another's
--   IsTextOf ranges made    what was made, if there was memory for it, is the text of the ranges
use Rattle.std.specs.Prelude.{◌≡◌, ℕ, List, Result, IfOk}
use Rattle.std.specs.List.{flat_map}
use Rattle.rel_base.specs.declared.failure.Memory.{Memory}
use Rattle.rel_base.specs.declared.values.Value.{Value}
use Rattle.rel_base.specs.Picks.{joined}
use Rattle.relation_csv.specs.RecordTexts.{row_record}

-- a line for each row, one range's lines after another's
abbrev pub ranges_text : List (List (List Value)) → List ℕ
ranges_text ranges = flat_map row_record (joined ranges)

-- what was made is the text of the ranges
abbrev pub IsTextOf : List (List (List Value)) → Result (List ℕ) Memory → Type 0
IsTextOf ranges made = IfOk made (λ text. text ≡ ranges_text ranges)
