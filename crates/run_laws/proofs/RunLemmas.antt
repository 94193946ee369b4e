-- Runs of terms, by exchanges that tell the same.
use Rattle.std.proofs.Common.{ℕ, List, sym, Result, Ok, Err}
use Rattle.std.specs.Prelude.{IfOk}
use Rattle.rel_io.specs.declared.taps.Totals.{Totals}
use Rattle.myrial_ast.specs.Combinations.{Rows}
use Rattle.bag_laws.specs.Permuted.{SameTables}
use Rattle.algebra.specs.declared.settings.Settings.{Settings}
use Rattle.placement.specs.Exchanges.{PlacedExchange}
use Rattle.row_exchange.proofs.TapLemmas.{told-same}
use Rattle.routed_joins.specs.declared.moved.Moved.{Moved}
use Rattle.routed_joins.specs.TermRuns.{all_sent, all_received, all_listed, AreMoved, IsMoved, IsTermRun}
use Rattle.run_laws.specs.SameExchanges.{AreSameExchanges}
use Rattle.run_laws.proofs.MovedLemmas.{counts_are_of_same_exchanges, moved_are_of_same_exchanges}

pub if-ok : {X F : Type 0} (P Q : X → Type 0) → ((x : X) → P x → Q x) → (answer : Result X F) → IfOk answer P → IfOk answer Q
if-ok P Q f (Ok x) h = f x h
if-ok P Q f (Err e) h = h

module _ {T : Type 0} (totals : T → Totals) (tag : T → ℕ) where
  -- taps rise by exchanges as by others that tell the same
  taps-same : (n : ℕ) (es fs : List PlacedExchange) (before after : List T) → AreSameExchanges n fs es
      → AreMoved totals tag n es before after → AreMoved totals tag n fs before after
  taps-same n es fs before after h moved =
      told-same totals tag n (all_sent es) (all_received es) (all_listed es) (all_sent fs) (all_received fs) (all_listed fs) before after
      (λ u low. sym (counts_are_of_same_exchanges n fs es h u low).0)
      (λ w low. sym (counts_are_of_same_exchanges n fs es h w low).1)
      (λ w low. sym (counts_are_of_same_exchanges n fs es h w low).2) moved

  -- a run that comes to some rows by some exchanges comes to the same bags by others that tell the same
  pub run-same : {F : Type 0} (s : Settings) (number : ℕ) (parts others : List Rows) (es fs : List PlacedExchange)
      (IsFault : F → Type 0) (before after : List T) (answer : Result Moved F) → SameTables others parts
      → AreSameExchanges s.workers fs es → IsTermRun s number parts es totals tag IsFault before after answer
      → IsTermRun s number others fs totals tag IsFault before after answer
  run-same s number parts others es fs IsFault before after answer h hs run = record {
    fair = run.fair;
    ok =
        if-ok (λ made. IsMoved s number parts es made × AreMoved totals tag s.workers es before after)
        (λ made. IsMoved s number others fs made × AreMoved totals tag s.workers fs before after)
        (λ made k. (
          moved_are_of_same_exchanges s number parts others es fs made h hs k.0,
          taps-same s.workers es fs before after hs k.1,
        ))
        answer run.ok;
    err = run.err;
  }
