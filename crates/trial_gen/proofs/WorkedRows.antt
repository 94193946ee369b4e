-- Worked relations, proved by computing.
use Rattle.std.proofs.Common.{◌≡◌, ◌/◌, ◌^◌, ◌+◌, pos, List, [], ◌∷◌, replicate, refl}
use Rattle.rel_base.specs.declared.values.Value.{Value}
use Rattle.rel_base.specs.declared.values.Value.TheVariants as value
use Rattle.trial_gen.specs.Trials.{next_state, number_of, trial_row, trial_rows}

-- the first state of relation 1 of size 2000, and its number
first_state : next_state 8001 ≡ 7882978600717336252
first_state = refl

high_bits : 7882978600717336252 / 2 ^ 33 ≡ 917699490
high_bits = refl

first_number : number_of 251 7882978600717336252 ≡ 67
first_number = refl

abbrev row_of_zeros : List Value
row_of_zeros = value.Int (pos 0) ∷ value.Int (pos 0) ∷ []

-- the first row of relation 1 of size 2000
first_row : trial_row 2000 1 0 ≡ value.Int (pos 67) ∷ value.Int (pos 58) ∷ []
first_row = refl

-- the second row goes on behind the first
second_row : trial_row 2000 1 1 ≡ value.Int (pos 215) ∷ value.Int (pos 154) ∷ []
second_row = refl

-- up to size 7 all numbers are 0
seven_rows : trial_rows 7 2 ≡ replicate 7 row_of_zeros
seven_rows = refl

one_row : trial_rows 1 3 ≡ row_of_zeros ∷ []
one_row = refl

-- at size 8 the numbers reach 1
eighth_more : 8 / 8 + 1 ≡ 2
eighth_more = refl
