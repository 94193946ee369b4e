-- The rows of two operands that met at the homes of all their columns.
use Rattle.std.specs.Prelude.{ℕ, ◌==◌, List, [], ◌∷◌, filter, All, Result, IfOk}
use Rattle.rel_base.specs.declared.failure.Memory.{Memory}
use Rattle.rel_io.specs.declared.taps.Totals.{Totals}
use Rattle.exchange_channels.specs.Wirings.{ReceiptState}
use Rattle.myrial_ast.specs.Combinations.{Rows}
use Rattle.algebra.specs.declared.notes.Exchange.TheVariants as exchange
use Rattle.algebra.specs.declared.settings.Settings.{Settings}
use Rattle.hash_partition.specs.Hashing.{home_of}
use Rattle.placement.specs.Exchanges.{PlacedExchange, row_exchange}
use Rattle.placement.specs.Layouts.{together}
use Rattle.placement.specs.Runs.{size_of}
use Rattle.routed_joins.specs.PlacedJoins.{placed_rows}
use Rattle.routed_joins.specs.Listings.{IsLow}
use Rattle.routed_joins.specs.TermRuns.{shown_moves, AreShown, AreMoved, AreFair}
use Rattle.keyed_terms.specs.KeyedTerms.{keyed_placing}
use Rattle.keyed_terms.specs.inner.Making.{AreMadeBy}

-- the exchange of both, after which no rows are listed yet
abbrev pub unlisted_exchange : Settings → List Rows → List Rows → PlacedExchange
unlisted_exchange s left right =
    row_exchange (keyed_placing s) exchange.Diff (placed_rows left ∷ placed_rows right ∷ []) []

-- the rows that have their home at a worker
abbrev pub at_home : Settings → List Rows → ℕ → Rows
at_home s parts w = filter (λ row. home_of s.seed row s.workers == w) (together parts)

-- the rows of both are at their homes, and their exchange is told and shown
pub record HaveMet {T : Type 0} (s : Settings) (left right : List Rows) (totals : T → Totals) (tag : T → ℕ)
    (before after : List T) (met others : List Rows) (receipts : List ReceiptState) : Type 0 where
  pub met_are : AreMadeBy s.workers (at_home s left) met
  pub others_are : AreMadeBy s.workers (at_home s right) others
  pub moved : AreMoved totals tag s.workers (unlisted_exchange s left right ∷ []) before after
  pub shown : AreShown (size_of s) (shown_moves (unlisted_exchange s left right)) receipts

-- what bringing them together does, whatever it answers
pub record IsMeeting {T : Type 0} (s : Settings) (left right : List Rows) (totals : T → Totals) (tag : T → ℕ)
    (before after : List T)
    (answer : Result (List Rows × List Rows × List ReceiptState) Memory) : Type 0 where
  pub fair : AreFair totals tag before after
  pub unlisted : All (λ t. IsLow (totals t)) after
  pub ok : IfOk answer (λ made. HaveMet s left right totals tag before after made.0 made.1 made.2)
