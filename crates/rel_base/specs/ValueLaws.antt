-- The laws of the order of values and of rows: both are total, and only equal ones tie.
use Rattle.std.specs.Prelude.{◌≡◌, true, false, refl}
use Rattle.std.specs.declared.cmp.Ordering.{Ordering}
use Rattle.std.specs.declared.cmp.Ordering.TheVariants.{Equal}
use Rattle.std.specs.Cmp.{IsTotalOrder, then_total, on_total, nat_cmp_total, int_cmp_total, bool_cmp_total}
use Rattle.std.specs.Cmp.Lexicographic.{lists_total, nat_list_cmp_total}
use Rattle.std.specs.FinMap.{IsAntisymmetric, int_cmp-IsAntisymmetric, nat_cmp-IsAntisymmetric, slice_cmp-IsAntisymmetric}
use Rattle.std.specs.Ordering.{bool_cmp, ordering_then}
use Rattle.std.proofs.Common.{ap}
use Rattle.rel_base.specs.declared.values.Value.TheVariants as variant
use Rattle.rel_base.specs.Values.{value_order, row_order, rows_order, type_rank, number_of, bytes_of, truth_of}

pub value_order_total : IsTotalOrder value_order
value_order_total =
    then_total (on_total type_rank nat_cmp_total)
    (then_total (on_total number_of int_cmp_total)
    (then_total (on_total bytes_of nat_list_cmp_total) (on_total truth_of bool_cmp_total)))

pub row_order_total : IsTotalOrder row_order
row_order_total = lists_total value_order_total

pub rows_order_total : IsTotalOrder rows_order
rows_order_total = lists_total row_order_total

bool_cmp-IsAntisymmetric : IsAntisymmetric bool_cmp
bool_cmp-IsAntisymmetric true true e = refl
bool_cmp-IsAntisymmetric true false e = cc
bool_cmp-IsAntisymmetric false true e = cc
bool_cmp-IsAntisymmetric false false e = refl

-- an order that answers `Equal` first by a and then by b does so by both
then_Equal : (r : Ordering) → ordering_then r Equal ≡ Equal → r ≡ Equal
then_Equal Equal e = refl
then_Equal _ e = e

-- values that tie are equal
pub value_order-IsAntisymmetric : IsAntisymmetric value_order
value_order-IsAntisymmetric (variant.Int a) (variant.Int b) e =
    ap variant.Int (int_cmp-IsAntisymmetric a b (then_Equal _ e))
value_order-IsAntisymmetric (variant.Str a) (variant.Str b) e =
    ap variant.Str (slice_cmp-IsAntisymmetric nat_cmp-IsAntisymmetric a b (then_Equal _ e))
value_order-IsAntisymmetric (variant.Bool a) (variant.Bool b) e =
    ap variant.Bool (bool_cmp-IsAntisymmetric a b e)
value_order-IsAntisymmetric (variant.Int a) (variant.Str b) e = cc
value_order-IsAntisymmetric (variant.Int a) (variant.Bool b) e = cc
value_order-IsAntisymmetric (variant.Str a) (variant.Int b) e = cc
value_order-IsAntisymmetric (variant.Str a) (variant.Bool b) e = cc
value_order-IsAntisymmetric (variant.Bool a) (variant.Int b) e = cc
value_order-IsAntisymmetric (variant.Bool a) (variant.Str b) e = cc

-- rows that tie are equal
pub row_order-IsAntisymmetric : IsAntisymmetric row_order
row_order-IsAntisymmetric = slice_cmp-IsAntisymmetric value_order-IsAntisymmetric
