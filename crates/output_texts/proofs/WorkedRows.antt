-- Worked texts, proved by computing.
use Rattle.std.proofs.Common.{◌≡◌, ℕ, pos, List, [], ◌∷◌, codes, refl}
use Rattle.std.specs.Fmt.{digits}
use Rattle.rel_base.specs.Keys.{File}
use Rattle.rel_base.specs.declared.relations.Column.{Column}
use Rattle.rel_base.specs.declared.values.ColType.TheVariants as kind
use Rattle.rel_base.specs.declared.values.Value.{Value}
use Rattle.rel_base.specs.declared.values.Value.TheVariants as variant
use Rattle.relation_csv.proofs.OnLiterals.{files_on_literals}
use Rattle.output_texts.specs.OutputText.{output_text, relation_lines}
use Rattle.output_texts.specs.TrialText.{trial_text}
use Rattle.output_texts.specs.inner.Ranges.{ranges_text}

abbrev row : ℕ → List Value
row n = variant.Int (pos n) ∷ []

abbrev column : Column
column = record { name = codes "n"; kind = kind.Int }

-- two rows that descend
abbrev file : File
file = (
  record { user = codes "u"; program = codes "p"; name = codes "R" },
  record { schema = column ∷ []; rows = row 10 ∷ row 9 ∷ [] },
)

-- in ascending order, and as they stand
in_order : output_text (file ∷ []) ≡ codes "-- store u:p:R 2 rows\nn:int\n9\n10\n"
unfolding files_on_literals digits
in_order = refl

as_they_stand : relation_lines file ≡ codes "-- store u:p:R 2 rows\nn:int\n10\n9\n"
unfolding files_on_literals digits
as_they_stand = refl

-- two ranges, one behind the other
two_ranges : ranges_text ((row 9 ∷ []) ∷ (row 10 ∷ row 11 ∷ []) ∷ []) ≡ codes "9\n10\n11\n"
unfolding files_on_literals digits
two_ranges = refl

-- no store
no_store : output_text [] ≡ []
no_store = refl

-- a trial with one row, and one with a row twice
one_row : trial_text 1 (row 0 ∷ []) ≡ codes "-- trial size 1\n-- rows 1\n-- distinct 1\n"
unfolding digits
one_row = refl

equal_rows : trial_text 2 (row 0 ∷ row 3 ∷ row 0 ∷ [])
    ≡ codes "-- trial size 2\n-- rows 3\n-- distinct 2\n"
unfolding digits
equal_rows = refl
