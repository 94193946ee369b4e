-- Worked cases of this crate's words, each proved by computing.
use Rattle.std.proofs.Common.{◌≡◌, ◌+◌, ◌*◌, zero, suc, false, pos, [], ◌∷◌, refl, arith}
use Rattle.std.proofs.lemmas.Bool.{false≢true}
use Rattle.rel_base.specs.declared.values.Value.TheVariants as value
use Rattle.myrial_ast.specs.declared.scalars.Scalar.TheVariants as pick
use Rattle.packed_rows.specs.declared.columns.PackedColumn.{PackedColumn}
use Rattle.packed_rows.specs.Unpacked.{unpacked_row}
use Rattle.packed_rows.specs.Runs.{AreRising}
use Rattle.packed_rows.specs.inner.Twins.{IsTold}

-- numbers from 10 on, in the three digits behind the lowest three
abbrev tens : PackedColumn
tens = record { shift = 3; mask = 7; least = pos 10; is_truth = false; below = omega arith; short = omega arith }

-- numbers from 0 on, in the lowest three digits
abbrev ones : PackedColumn
ones = record { shift = 0; mask = 7; least = pos 0; is_truth = false; below = omega arith; short = omega arith }

-- the word 4 * 8 + 5 tells 14 and 5
pub two_values_told : unpacked_row (tens ∷ ones ∷ []) (4 * 8 + 5) ≡ value.Int (pos 14) ∷ value.Int (pos 5) ∷ []
two_values_told = refl

-- the second of two columns tells its twin, behind whichever column that stands
pub second_tells : IsTold (tens ∷ ones ∷ []) (pick.At 2 ∷ pick.At 0 ∷ []) ones (pick.At 0)
second_tells = record { place = 1; there = omega arith; column_is = λ word d. refl; pick_is = λ d. refl }

-- 1 and then 2 rise
pub two_rise : AreRising ((value.Int (pos 1) ∷ []) ∷ (value.Int (pos 2) ∷ []) ∷ [])
two_rise zero h = refl
two_rise (suc k) h = absurd (omega (arith, h))

-- one row twice doesn't
pub twice_falls : AreRising ((value.Int (pos 1) ∷ []) ∷ (value.Int (pos 1) ∷ []) ∷ []) → ⊥
twice_falls rise = false≢true (rise 0 (omega arith))
