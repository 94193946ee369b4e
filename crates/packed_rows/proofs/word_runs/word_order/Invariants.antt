-- the columns so far are alike, so those behind them decide
use Rattle.std.proofs.Common.{◌≡◌, drop}
use Rattle.rel_base.specs.Values.{row_order}
use Rattle.packed_rows.specs.Unpacked.{unpacked_row}
use Rattle.packed_rows.proofs.word_runs.word_order.Given as goal

abbrev pub invariant-loop-column : goal.invariant-loop-column
invariant-loop-column l =
    row_order (unpacked_row l.columns l.word) (unpacked_row l.columns l.other)
    ≡ row_order (unpacked_row (drop l.column-index l.columns) l.word) (unpacked_row (drop l.column-index l.columns) l.other)
