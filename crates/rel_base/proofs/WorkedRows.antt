-- Worked cases of this crate's words, each proved by computing.
use Rattle.std.proofs.Common.{◌≡◌, ℕ, ℤ, pos, negsuc, false, List, [], ◌∷◌, refl, codes}
use Rattle.std.specs.declared.cmp.Ordering.TheVariants.{Less, Greater}
use Rattle.std.specs.Fmt.{digits}
use Rattle.rel_base.specs.declared.values.Value.{Value}
use Rattle.rel_base.specs.declared.values.Value.TheVariants as variant
use Rattle.rel_base.specs.declared.faults.RunFault.TheVariants as fault
use Rattle.rel_base.specs.Bags.{sorted}
use Rattle.rel_base.specs.Faults.{fault_text}
use Rattle.rel_base.specs.Keys.{shelf_name_of}
use Rattle.rel_base.specs.Picks.{items_at, every_nth}
use Rattle.rel_base.specs.Values.{value_order, row_order}
use Rattle.rel_base.specs.inner.Flat.{row_from, rows_from}

-- a row of two numbers
abbrev pair : ℤ → ℤ → List Value
pair a b = variant.Int a ∷ variant.Int b ∷ []

-- an int comes before a string and a string before a boolean
pub int_before_string : value_order (variant.Int (pos 9)) (variant.Str []) ≡ Less
int_before_string = refl

pub boolean_after_string : value_order (variant.Bool false) (variant.Str (codes "z")) ≡ Greater
boolean_after_string = refl

-- by number and by bytes: -1 before 10, and "10" before "9"
pub negative_before_ten : value_order (variant.Int (negsuc 0)) (variant.Int (pos 10)) ≡ Less
negative_before_ten = refl

pub text_ten_before_nine : value_order (variant.Str (codes "10")) (variant.Str (codes "9")) ≡ Less
text_ten_before_nine = refl

-- a row comes before each longer row that begins with it
pub shorter_first : row_order (variant.Int (pos 1) ∷ []) (pair (pos 1) (negsuc 4)) ≡ Less
shorter_first = refl

-- the rows 3,1 and 1,2 and 2,5 in order; a row that stands twice stays twice
pub three_rows_sorted : sorted (pair (pos 3) (pos 1) ∷ pair (pos 1) (pos 2) ∷ pair (pos 2) (pos 5) ∷ []) ≡ pair (pos 1) (pos 2) ∷ pair (pos 2) (pos 5) ∷ pair (pos 3) (pos 1) ∷ []
three_rows_sorted = refl

pub doubled_row_kept : sorted (pair (pos 7) (pos 7) ∷ pair (pos 1) (pos 2) ∷ pair (pos 7) (pos 7) ∷ []) ≡ pair (pos 1) (pos 2) ∷ pair (pos 7) (pos 7) ∷ pair (pos 7) (pos 7) ∷ []
doubled_row_kept = refl

pub shelf_name-adhoc : shelf_name_of (record { user = codes "public"; program = codes "adhoc"; name = codes "R" }) ≡ codes "public:adhoc:R.csv"
shelf_name-adhoc = refl

pub fault_text-rows : fault_text (fault.TooManyRows 3) ≡ codes "statement 3: too many rows"
unfolding digits
fault_text-rows = refl

pub fault_text-sum : fault_text (fault.AggregateOverflow 256) ≡ codes "statement 256: aggregate overflow"
unfolding digits
fault_text-sum = refl

-- the items 10, 11, 12, 13, 14 by twos from place 1 on, and at the places 3, 0, 3; a place behind the end gives none
pub every_second : every_nth {X = ℕ} (10 ∷ 11 ∷ 12 ∷ 13 ∷ 14 ∷ []) 2 1 ≡ 11 ∷ 13 ∷ []
every_second = refl

pub places_picked : items_at {X = ℕ} (10 ∷ 11 ∷ 12 ∷ 13 ∷ 14 ∷ []) (3 ∷ 0 ∷ 3 ∷ 5 ∷ []) ≡ 13 ∷ 10 ∷ 13 ∷ []
places_picked = refl

-- of six values the two from the fourth on, and the rows of two that begin with the first and the fifth
pub row_of_two : row_from {X = ℕ} 2 (20 ∷ 21 ∷ 22 ∷ 23 ∷ 24 ∷ 25 ∷ []) 3 ≡ 23 ∷ 24 ∷ []
row_of_two = refl

pub rows_of_two : rows_from {X = ℕ} 2 (20 ∷ 21 ∷ 22 ∷ 23 ∷ 24 ∷ 25 ∷ []) (0 ∷ 4 ∷ []) ≡ (20 ∷ 21 ∷ []) ∷ (24 ∷ 25 ∷ []) ∷ []
rows_of_two = refl
