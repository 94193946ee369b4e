-- Two operands that meet at the homes of all their columns.
use Rattle.std.proofs.Common.{◌≡◌, ℕ, ◌+◌, List, [], ◌∷◌, All, Result, refl, sym, subst, arith}
use Rattle.std.specs.Prelude.{IsErr}
use Rattle.std.proofs.lemmas.Result.{IfOk-from_err}
use Rattle.rel_base.specs.Bags.{SameBag}
use Rattle.rel_base.specs.Limits.{most_items}
use Rattle.rel_base.specs.declared.failure.Memory.{Memory}
use Rattle.rel_io.specs.declared.taps.Totals.{Totals}
use Rattle.exchange_channels.specs.Wirings.{ReceiptState}
use Rattle.myrial_ast.specs.Combinations.{Row, Rows}
use Rattle.algebra.specs.declared.settings.Settings.{Settings}
use Rattle.hash_partition.specs.Hashing.{home_of}
use Rattle.placement.specs.Exchanges.{PlacedExchange}
use Rattle.placement.specs.Runs.{size_of}
use Rattle.row_exchange.specs.Moves.{Move, sent, received}
use Rattle.row_exchange.specs.Exchanges.{nothing, AreTold, Shows}
use Rattle.routed_joins.specs.Listings.{IsLow}
use Rattle.routed_joins.specs.TermRuns.{moves_alone, AreShown, no_receipt, a_receipt, all_sent, all_received, all_listed, AreMoved, AreFair}
use Rattle.row_exchange.proofs.TapLemmas.{told-same, told-both}
use Rattle.keyed_terms.specs.inner.Meeting.{unlisted_exchange, HaveMet, IsMeeting}
use Rattle.keyed_terms.proofs.MoveLemmas.{first-alone, second-alone, sent-two, received-two}
use Rattle.keyed_terms.proofs.SpreadLemmas.{IsSpreadAs}

module _ {T : Type 0} (s : Settings) (left right : List Rows) (totals : T → Totals) (tag : T → ℕ) where
  abbrev home : Row → ℕ
  home row = home_of s.seed row s.workers

  abbrev e : PlacedExchange
  e = unlisted_exchange s left right

  pub meeting-failed : (before after : List T) (answer : Result (List Rows × List Rows × List ReceiptState) Memory) → IsErr answer → AreFair totals tag before after
      → All (λ t. IsLow (totals t)) after → IsMeeting s left right totals tag before after answer
  meeting-failed before after answer err fair low = record {
    fair = fair;
    unlisted = low;
    ok = IfOk-from_err answer (λ made. HaveMet s left right totals tag before after made.0 made.1 made.2) err;
  }

  pub have-met : (before middle after : List T) (sent_first got_first sent_second got_second : ℕ → ℕ) (met others : List Rows) (first second : ReceiptState) (receipts : List ReceiptState)
      → AreTold totals tag s.workers sent_first got_first nothing before middle → AreTold totals tag s.workers sent_second got_second nothing middle after
      → IsSpreadAs home left (size_of s) sent_first got_first met first → IsSpreadAs home right (size_of s) sent_second got_second others second
      → receipts ≡ first ∷ second ∷ [] → HaveMet s left right totals tag before after met others receipts
  have-met before middle after sent_first got_first sent_second got_second met others first second receipts told more one two are = record {
    met_are = one.rows;
    others_are = two.rows;
    moved =
        told-same totals tag s.workers (λ u. sent_first u + sent_second u) (λ w. got_first w + got_second w) (λ w. 0 + 0)
        (all_sent (e ∷ [])) (all_received (e ∷ [])) (all_listed (e ∷ [])) before after
        (λ u below. omega (arith, one.sent_are u below, two.sent_are u below, sent-two home left right u))
        (λ w below. omega (arith, one.got_are w below, two.got_are w below, received-two home left right w))
        (λ w below. refl)
        (told-both totals tag s.workers sent_first got_first nothing sent_second got_second nothing before middle after told more);
    shown =
        subst (AreShown (size_of s) (moves_alone 0 e.moves ∷ moves_alone 1 e.moves ∷ [])) (sym are)
        (a_receipt (moves_alone 0 e.moves) first (moves_alone 1 e.moves ∷ []) (second ∷ [])
        (subst (λ (ms : List Move). Shows SameBag most_items (size_of s) ms first) (sym (first-alone home left right)) one.shows)
        (a_receipt (moves_alone 1 e.moves) second [] []
        (subst (λ (ms : List Move). Shows SameBag most_items (size_of s) ms second) (sym (second-alone home left right)) two.shows) no_receipt));
  }

  -- what was told of both, as of one exchange
  pub met-added : (before after : List T) → AreMoved totals tag s.workers (e ∷ []) before after
      → AreTold totals tag s.workers (sent e.moves) (received e.moves) nothing before after
  met-added before after moved =
      told-same totals tag s.workers (all_sent (e ∷ [])) (all_received (e ∷ [])) (all_listed (e ∷ [])) (sent e.moves) (received e.moves) nothing before after
      (λ u below. omega arith) (λ w below. omega arith) (λ w below. refl) moved
