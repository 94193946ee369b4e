-- Exchanges that tell the same: their moves are known as bags.
--
--   IsSameExchange n e f            two exchanges of one kind, with the same numbers, that move the same rows
--   AreSameExchanges n es fs        one after another
--   MovedAreOfSameExchanges         what is moved by the one is moved by the other
--   CountsAreOfSameExchanges        they send, receive and list as many rows at each worker
use Rattle.std.specs.Prelude.{◌≡◌, ℕ, ◌<◌, List, [], ◌∷◌}
use Rattle.rel_base.specs.Bags.{SameBag}
use Rattle.myrial_ast.specs.Combinations.{Rows}
use Rattle.bag_laws.specs.Permuted.{SameTables}
use Rattle.algebra.specs.declared.settings.Settings.{Settings}
use Rattle.row_exchange.specs.Moves.{sent, received, rows_between}
use Rattle.placement.specs.Exchanges.{PlacedExchange}
use Rattle.routed_joins.specs.declared.moved.Moved.{Moved}
use Rattle.routed_joins.specs.TermRuns.{IsMoved, all_sent, all_received, all_listed}

-- two exchanges of one kind after which as many rows are listed; as many rows go from each worker and to each, and between two
-- workers the same rows go in any order
pub record IsSameExchange (n : ℕ) (e f : PlacedExchange) : Type 0 where
  pub kind : e.kind ≡ f.kind
  pub listed : e.listed ≡ f.listed
  pub sent : (u : ℕ) → u < n → sent e.moves u ≡ sent f.moves u
  pub received : (w : ℕ) → w < n → received e.moves w ≡ received f.moves w
  pub between : (atom u w : ℕ) → u < n → w < n
      → SameBag (rows_between e.moves atom u w) (rows_between f.moves atom u w)

-- one after another
pub data AreSameExchanges (n : ℕ) : List PlacedExchange → List PlacedExchange → Type 0 where
  no_exchange : AreSameExchanges n [] []
  an_exchange : (e f : PlacedExchange) (es fs : List PlacedExchange) → IsSameExchange n e f
      → AreSameExchanges n es fs → AreSameExchanges n (e ∷ es) (f ∷ fs)

-- what is moved to these rows by these exchanges is moved to the same bags by exchanges that tell the same
abbrev pub MovedAreOfSameExchanges : Type 0
MovedAreOfSameExchanges =
    (s : Settings) (number : ℕ) (parts others : List Rows) (es fs : List PlacedExchange) (made : Moved)
    → SameTables others parts → AreSameExchanges s.workers fs es → IsMoved s number parts es made
    → IsMoved s number others fs made

-- they send, receive and list as many rows at each worker
abbrev pub CountsAreOfSameExchanges : Type 0
CountsAreOfSameExchanges =
    (n : ℕ) (es fs : List PlacedExchange) → AreSameExchanges n es fs → (w : ℕ) → w < n
    → (all_sent es w ≡ all_sent fs w) × (all_received es w ≡ all_received fs w)
    × (all_listed es w ≡ all_listed fs w)
