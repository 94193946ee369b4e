-- What is given once the rows of an exchange are made.
use Rattle.std.specs.Prelude.{◌≡◌, ℕ, List, [], ◌∷◌}
use Rattle.rel_io.specs.declared.taps.Totals.{Totals}
use Rattle.exchange_channels.specs.Wirings.{ReceiptState}
use Rattle.myrial_ast.specs.Combinations.{Rows}
use Rattle.algebra.specs.declared.notes.Exchange.{Exchange}
use Rattle.algebra.specs.declared.notes.Traffic.{Traffic}
use Rattle.routed_joins.specs.declared.moved.Moved.{Moved}
use Rattle.routed_joins.specs.Readings.{IsNoteSince}

-- these rows and receipts, and one note, of what was told since
pub record IsConcluded {T : Type 0} (totals : T → Totals) (statement : ℕ) (exchange : Exchange)
    (since : List Totals)
    (made : List Rows) (receipts : List ReceiptState) (taps : List T) (run : Moved) : Type 0 where
  pub parts_are : run.parts ≡ made
  pub receipts_are : run.receipts ≡ receipts
  pub note : Traffic
  pub traffic_is : run.traffic ≡ note ∷ []
  pub note_is : IsNoteSince totals statement exchange since taps note
