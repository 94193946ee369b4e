-- the columns so far are told
use Rattle.std.proofs.Common.{◌≡◌, ℕ, ◌<◌, length, get_or}
use Rattle.myrial_ast.specs.declared.scalars.Scalar.{Scalar}
use Rattle.packed_rows.specs.declared.columns.PackedColumn.{PackedColumn}
use Rattle.packed_rows.specs.inner.Twins.{IsTold}
use Rattle.packed_rows.proofs.twin_columns.Singles.of.Given as goal

abbrev pub invariant-loop-place : goal.invariant-loop-place
invariant-loop-place l = record {
  long : length l.singles.picks.items ≡ length l.singles.columns.items;
  each : (k : ℕ) (d : PackedColumn) (e : Scalar) → k < l.place → IsTold l.singles.columns.items l.singles.picks.items (get_or l.columns k d) (get_or l.picks k e);
}
