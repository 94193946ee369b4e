-- Scalar expressions: expressions whose columns are places in one row, and their exact values.
--
--   Scalar                  an expression whose columns are places, without aggregates
--   exact_value e row       the value on a row; numbers have no bounds
--   fits e row              every number that a part of it makes lies in 64 bits
--   holds e row             the value is true
--   is_plain e              no part of it computes a number
--   conjuncts e             the parts that top-level `and` joins
--   columns_of e            the places that it reads
use Rattle.std.specs.Prelude.{ℕ, pos, ◌+ℤ◌, ◌-ℤ◌, ◌*ℤ◌, neg_ℤ, Bool, true, false, ◌&&◌, ◌||◌, not, List, [], ◌∷◌, ◌++◌, filter, slice_index_or}
use Rattle.std.specs.Ordering.{is_eq, is_lt, is_gt}
use Rattle.rel_base.specs.declared.values.Value.{Value}
use Rattle.rel_base.specs.declared.values.Value.TheVariants as value
use Rattle.rel_base.specs.Values.{value_order, number_of, truth_of, in_64_bits}
use Rattle.myrial_ast.specs.declared.operators.BinOp.{BinOp}
use Rattle.myrial_ast.specs.declared.operators.BinOp.TheVariants as op

-- a value, the column at a place of the row, and operators
pub data Scalar : Type 0 where
  Lit : (value : Value) → Scalar
  At : (place : ℕ) → Scalar
  Not : (operand : Scalar) → Scalar
  Neg : (operand : Scalar) → Scalar
  Bin : (operator : BinOp) (left right : Scalar) → Scalar

-- the value at a place of a row; past its end 0
abbrev pub value_at : List Value → ℕ → Value
value_at row place = slice_index_or row place (value.Int (pos 0))

-- what an operator makes of two values: a number counts as 0 and a truth as false where the value is of another type
abbrev pub applied : BinOp → Value → Value → Value
applied op.Or a b = value.Bool (truth_of a || truth_of b)
applied op.And a b = value.Bool (truth_of a && truth_of b)
applied op.Eq a b = value.Bool (is_eq (value_order a b))
applied op.Ne a b = value.Bool (not (is_eq (value_order a b)))
applied op.Lt a b = value.Bool (is_lt (value_order a b))
applied op.Le a b = value.Bool (not (is_gt (value_order a b)))
applied op.Gt a b = value.Bool (is_gt (value_order a b))
applied op.Ge a b = value.Bool (not (is_lt (value_order a b)))
applied op.Add a b = value.Int (number_of a +ℤ number_of b)
applied op.Sub a b = value.Int (number_of a -ℤ number_of b)
applied op.Mul a b = value.Int (number_of a *ℤ number_of b)

-- the exact value on a row: every part has one, also under `and` and `or`
abbrev pub exact_value : Scalar → List Value → Value
exact_value (Lit v) row = v
exact_value (At place) row = value_at row place
exact_value (Not e) row = value.Bool (not (truth_of (exact_value e row)))
exact_value (Neg e) row = value.Int (neg_ℤ (number_of (exact_value e row)))
exact_value (Bin operator l r) row = applied operator (exact_value l row) (exact_value r row)

-- whether the value is true
abbrev pub holds : Scalar → List Value → Bool
holds e row = truth_of (exact_value e row)

-- whether every number that a part makes lies in 64 bits; a value that is no number counts as 0
abbrev pub fits : Scalar → List Value → Bool
fits (Lit v) row = in_64_bits (number_of v)
fits (At place) row = in_64_bits (number_of (value_at row place))
fits (Not e) row = fits e row
fits (Neg e) row = fits e row && in_64_bits (number_of (exact_value (Neg e) row))
fits (Bin operator l r) row =
    fits l row && fits r row && in_64_bits (number_of (exact_value (Bin operator l r) row))

-- whether an operator computes a number
abbrev pub is_arithmetic : BinOp → Bool
is_arithmetic op.Add = true
is_arithmetic op.Sub = true
is_arithmetic op.Mul = true
is_arithmetic _ = false

-- whether no part computes a number
abbrev pub is_plain : Scalar → Bool
is_plain (Lit v) = true
is_plain (At place) = true
is_plain (Not e) = is_plain e
is_plain (Neg e) = false
is_plain (Bin operator l r) = not (is_arithmetic operator) && is_plain l && is_plain r

-- the parts that top-level `and` joins, in order
abbrev pub conjuncts : Scalar → List Scalar
conjuncts (Bin op.And l r) = conjuncts l ++ conjuncts r
conjuncts e = e ∷ []

-- those that compute no number, and the others
abbrev pub plain_of : List Scalar → List Scalar
plain_of = filter is_plain

abbrev pub arithmetic_of : List Scalar → List Scalar
arithmetic_of = filter (λ e. not (is_plain e))

-- the places that it reads, from left to right
abbrev pub columns_of : Scalar → List ℕ
columns_of (Lit v) = []
columns_of (At place) = place ∷ []
columns_of (Not e) = columns_of e
columns_of (Neg e) = columns_of e
columns_of (Bin operator l r) = columns_of l ++ columns_of r
