-- Rows that are cut before a row, and rows that are packed, computed from the definitions.
use Rattle.std.proofs.Common.{◌≡◌, ℕ, ◌+◌, ◌*◌, ◌^◌, pos, negsuc, true, false, List, [], ◌∷◌, refl, arith, lit<}
use Rattle.std.proofs.lemmas.Int.{ints}
use Rattle.std.proofs.lemmas.List.Elements.{All-nil, All-cons}
use Rattle.rel_base.specs.declared.values.Value.{Value}
use Rattle.rel_base.specs.declared.values.Value.TheVariants as variant
use Rattle.collector.specs.declared.fields.Field.{Field}
use Rattle.collector.specs.inner.Cuts.{stands_before, IsCutAt}
use Rattle.collector.specs.inner.Packing.{IsPacked, row_told}

abbrev row : ℕ → List Value
row n = variant.Int (pos n) ∷ []

pub less-stands_before : stands_before (row 2) (row 1) ≡ true
less-stands_before = refl

-- a row that is the splitter stands behind
pub same-stands_behind : stands_before (row 2) (row 2) ≡ false
same-stands_behind = refl

-- a row that stands twice isn't torn apart
abbrev IsBefore : List Value → List Value → Type 0
IsBefore splitter r = stands_before splitter r ≡ true

abbrev IsBehind : List Value → List Value → Type 0
IsBehind splitter r = stands_before splitter r ≡ false

pub cut-at_two : IsCutAt (row 2) (row 1 ∷ row 2 ∷ row 2 ∷ row 3 ∷ []) (row 1 ∷ []) (row 2 ∷ row 2 ∷ row 3 ∷ [])
cut-at_two = record {
  all = refl;
  before = All-cons (IsBefore (row 2)) (row 1) [] refl (All-nil (IsBefore (row 2)));
  behind =
      All-cons (IsBehind (row 2)) (row 2) (row 2 ∷ row 3 ∷ []) refl
      (All-cons (IsBehind (row 2)) (row 2) (row 3 ∷ []) refl
      (All-cons (IsBehind (row 2)) (row 3) [] refl (All-nil (IsBehind (row 2)))));
}

-- the row 9,4, with two digits for what the first int is more than 7 and three for what the second one is more than -2,
-- is 2 in front of 6
abbrev fields : List Field
fields = record { least = pos 7; digits = 2; few = lit< tt } ∷ record { least = negsuc 1; digits = 3; few = lit< tt } ∷ []

abbrev pair : ℕ → ℕ → List Value
pair n m = variant.Int (pos n) ∷ variant.Int (pos m) ∷ []

pub nine_four-packed : IsPacked fields (pair 9 4) (2 * 2 ^ 3 + 6)
nine_four-packed = (
  record { is_int = refl; above = omega (arith, ints); below = lit< tt },
  refl,
  (record { is_int = refl; above = omega (arith, ints); below = lit< tt }, refl, refl),
)

-- with two digits for its place behind it, it tells the third row
pub third_row-told : row_told (pair 8 1 ∷ pair 9 5 ∷ pair 9 4 ∷ []) 2 (22 * 2 ^ 2 + 2) ≡ pair 9 4
third_row-told = refl
