-- What a run of a term does, where it failed and where it didn't.
use Rattle.std.proofs.Common.{ℕ, List, Ok, Err}
use Rattle.rel_io.specs.declared.taps.Totals.{Totals}
use Rattle.myrial_ast.specs.Combinations.{Rows}
use Rattle.algebra.specs.declared.settings.Settings.{Settings}
use Rattle.placement.specs.Exchanges.{PlacedExchange}
use Rattle.routed_joins.specs.declared.moved.Moved.{Moved}
use Rattle.routed_joins.specs.TermRuns.{AreMoved, AreFair, IsMoved, IsTermRun}

module _ {T F : Type 0} (s : Settings) (number : ℕ) (expected : List Rows) (exchanges : List PlacedExchange) (totals : T → Totals) (tag : T → ℕ)
    (IsFault : F → Type 0) (before after : List T) where
  pub run-failed : (fault : F) → AreFair totals tag before after → IsFault fault → IsTermRun s number expected exchanges totals tag IsFault before after (Err fault)
  run-failed fault fair is = record { fair = fair; ok = tt; err = is }

  pub run-made : (made : Moved) → AreFair totals tag before after → IsMoved s number expected exchanges made → AreMoved totals tag s.workers exchanges before after
      → IsTermRun s number expected exchanges totals tag IsFault before after (Ok made)
  run-made made fair is moved = record { fair = fair; ok = (is, moved); err = tt }
