-- From rows that were made behind an exchange to what a run of a term does.
use Rattle.std.proofs.Common.{◌≡◌, ℕ, ◌+◌, ◌*◌, ◌<◌, ◌≤◌, List, [], ◌∷◌, ◌++◌, length, get_or, Result, Ok, Err, refl, sym, ap, ◌∙◌, subst, arith, append-nil}
use Rattle.std.specs.Prelude.{IfOk, IfErr, IsErr}
use Rattle.std.proofs.lemmas.List.{length-map}
use Rattle.std.proofs.lemmas.List.Sorted.{length_permutation}
use Rattle.std.proofs.lemmas.Result.{IfOk-from_err}
use Rattle.rel_base.specs.declared.failure.Memory.{Memory}
use Rattle.rel_io.specs.declared.taps.Totals.{Totals}
use Rattle.exchange_channels.specs.Wirings.{ReceiptState}
use Rattle.myrial_ast.specs.Combinations.{Rows}
use Rattle.bag_laws.specs.Permuted.{SameTables, no_table, a_table}
use Rattle.algebra.specs.declared.settings.Settings.{Settings}
use Rattle.placement.specs.Exchanges.{PlacedExchange, row_counts}
use Rattle.placement.specs.Layouts.{by_worker}
use Rattle.placement.specs.Runs.{size_of}
use Rattle.row_exchange.specs.Moves.{sent, received}
use Rattle.row_exchange.specs.Exchanges.{nothing, AreTold}
use Rattle.routed_joins.specs.Listings.{count_at, IsListedAt}
use Rattle.routed_joins.proofs.RouteLemmas.{same-tables}
use Rattle.std.proofs.lemmas.List.FromFn.{length-map-range_with_len, get_or-map-range_with_len}
use Rattle.rel_base.specs.Bags.{SameBag}
use Rattle.routed_joins.specs.declared.moved.Moved.{Moved}
use Rattle.routed_joins.specs.Readings.{AreSeconds}
use Rattle.routed_joins.specs.TermRuns.{shown_moves, AreShown, AreMoved, AreFair, IsMoved, IsTermRun}
use Rattle.routed_joins.proofs.TapLemmas.{listed-one, listed-fair, fair-both}
use Rattle.routed_joins.proofs.NoteLemmas.{note-is}
use Rattle.routed_joins.proofs.RunLemmas.{run-made, run-failed}
use Rattle.keyed_terms.specs.KeyedTerms.{IsRefused}
use Rattle.keyed_terms.specs.inner.Making.{AreMadeBy}
use Rattle.keyed_terms.specs.inner.Concluding.{IsConcluded}

-- ---- rows at each worker

pub tables-made : (n : ℕ) (f : ℕ → Rows) (made : List Rows) → AreMadeBy n f made → SameTables (by_worker n f) made
tables-made n f made x =
    same-tables (by_worker n f) made (length-map-range_with_len f 0 n ∙ sym x.count)
    (λ w below. let inside : w < n = omega (arith, below, length-map-range_with_len f 0 n) in
    subst (λ (rows : Rows). SameBag rows (get_or made w [])) (sym (get_or-map-range_with_len f 0 n w w [] inside (omega arith))) (x.rows_are w inside))

pub same-counts : (ts us : List Rows) → SameTables ts us → row_counts ts ≡ row_counts us
same-counts _ _ no_table = refl
same-counts _ _ (a_table t u ts us same rest) = λ i. sym (length_permutation t u same) i ∷ same-counts ts us rest i

-- ---- what a run does

any-fault : {X : Type 0} (answer : Result X Memory) → IfErr answer (λ fault. IsRefused fault)
any-fault (Ok x) = tt
any-fault (Err fault) = tt

-- where memory was refused
pub run-refused : {T : Type 0} (s : Settings) (number : ℕ) (expected : List Rows) (exchanges : List PlacedExchange) (totals : T → Totals) (tag : T → ℕ)
    (before after : List T) (answer : Result Moved Memory) → IsErr answer → AreFair totals tag before after
    → IsTermRun s number expected exchanges totals tag IsRefused before after answer
run-refused s number expected exchanges totals tag before after answer err fair = record {
  fair = fair;
  ok = IfOk-from_err answer (λ made. IsMoved s number expected exchanges made × AreMoved totals tag s.workers exchanges before after) err;
  err = any-fault answer;
}

module _ {T : Type 0} (s : Settings) (number : ℕ) (expected : List Rows) (e : PlacedExchange) (totals : T → Totals) (tag : T → ℕ) (before middle after : List T)
    (sent_by got_by : ℕ → ℕ) (since : List Totals) (made : List Rows) (receipts : List ReceiptState)
    (room : 2 * s.workers ≤ length before) (read : AreSeconds totals s.workers before since)
    (told : AreTold totals tag s.workers sent_by got_by nothing before middle)
    (same_sent : (u : ℕ) → u < s.workers → sent_by u ≡ sent e.moves u) (same_got : (w : ℕ) → w < s.workers → got_by w ≡ received e.moves w)
    (is_listed : e.listed ≡ row_counts expected) (long : length made ≡ s.workers) (tables : SameTables expected made)
    (shown : AreShown (size_of s) (shown_moves e) receipts) (listed : IsListedAt totals tag (length made) (count_at made) middle after) where
  counts : e.listed ≡ row_counts made
  counts = is_listed ∙ same-counts expected made tables

  pub moved-once : AreMoved totals tag s.workers (e ∷ []) before after
  moved-once = listed-one totals tag s.workers e sent_by got_by made before middle after told listed long same_sent same_got counts

  pub concluded-ok : (run : Moved) → IsConcluded totals number e.kind since made receipts after run → IsMoved s number expected (e ∷ []) run
  concluded-ok run x = record {
    parts = subst (SameTables expected) (sym x.parts_are) tables;
    traffic =
        x.traffic_is
        ∙ (λ i. note-is totals tag s.workers number e before after since x.note room (ap length counts ∙ length-map made (λ (rows : Rows). length rows) ∙ long) moved-once read x.note_is i ∷ []);
    receipts =
        subst (AreShown (size_of s) (shown_moves e ++ [])) (sym x.receipts_are)
        (subst (λ (ms : List _). AreShown (size_of s) ms receipts) (sym (append-nil (shown_moves e))) shown);
  }

  pub concluded : (fair : AreFair totals tag before middle) (answer : Result Moved Memory) → IfOk answer (IsConcluded totals number e.kind since made receipts after)
      → IsTermRun s number expected (e ∷ []) totals tag IsRefused before after answer
  concluded fair (Ok run) x =
      run-made s number expected (e ∷ []) totals tag IsRefused before after run
      (fair-both totals tag before middle after fair (listed-fair totals tag (length made) (count_at made) middle after listed)) (concluded-ok run x) moved-once
  concluded fair (Err fault) x =
      run-failed s number expected (e ∷ []) totals tag IsRefused before after fault
      (fair-both totals tag before middle after fair (listed-fair totals tag (length made) (count_at made) middle after listed)) tt

-- where a run has a fault, whatever is answered for it
pub run-faulty : {T F : Type 0} (s : Settings) (number : ℕ) (expected : List Rows) (exchanges : List PlacedExchange) (totals : T → Totals) (tag : T → ℕ)
    (IsFault : F → Type 0) (before after : List T) (answer : Result Moved F) (fault : F) → answer ≡ Err fault → AreFair totals tag before after → IsFault fault
    → IsTermRun s number expected exchanges totals tag IsFault before after answer
run-faulty s number expected exchanges totals tag IsFault before after answer fault is fair wrong =
    subst (IsTermRun s number expected exchanges totals tag IsFault before after) (sym is) (run-failed s number expected exchanges totals tag IsFault before after fault fair wrong)
