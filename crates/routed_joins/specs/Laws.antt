-- The laws by which what exchanges tell is put together.
--
--   MovesAreJoined          taps that rose by some exchanges and then by others rose by all of them
--   FairnessIsKept          taps that stay even step by step stay even, and so they do where they are
--                           told of as many rows sent as received
--   ToldIsMoved             what the taps are told of an exchange, and of rows listed behind it, is what it moves
--   NotesTellMoves          the numbers that are read off the taps are those of the exchange
--   RunsAreJoined           receipts and runs, one after another
use Rattle.std.specs.Prelude.{◌≡◌, ℕ, ◌*◌, ◌<◌, ◌≤◌, List, [], ◌∷◌, ◌++◌, length}
use Rattle.rel_io.specs.declared.taps.Totals.{Totals}
use Rattle.exchange_channels.specs.Wirings.{ReceiptState}
use Rattle.myrial_ast.specs.Combinations.{Rows}
use Rattle.algebra.specs.declared.notes.Traffic.{Traffic}
use Rattle.algebra.specs.declared.settings.Settings.{Settings}
use Rattle.placement.specs.Exchanges.{PlacedExchange, row_counts, traffic_note}
use Rattle.row_exchange.specs.Moves.{Move, sent, received}
use Rattle.row_exchange.specs.declared.routes.Size.{Size}
use Rattle.row_exchange.specs.Exchanges.{nothing, of_all, AreTold}
use Rattle.routed_joins.specs.Listings.{count_at, IsListedAt}
use Rattle.routed_joins.specs.declared.moved.Moved.{Moved}
use Rattle.routed_joins.specs.Readings.{AreSeconds, HaveRisen, IsNoteSince}
use Rattle.routed_joins.specs.TermRuns.{AreShown, all_sent, all_received, all_listed, AreMoved, AreFair, IsMoved}

module _ {T : Type 0} (totals : T → Totals) (tag : T → ℕ) where
  -- taps rise by no exchange where nothing is done, and by all exchanges where by some and then by others
  pub record MovesAreJoined : Type 0 where
    pub none : (n : ℕ) (taps : List T) → AreMoved totals tag n [] taps taps
    pub joined : (n : ℕ) (es fs : List PlacedExchange) (before middle after : List T)
        → AreMoved totals tag n es before middle → AreMoved totals tag n fs middle after
        → AreMoved totals tag n (es ++ fs) before after

  -- taps stay even where nothing is done, where they do in each of two steps, where they are told
  -- of as many rows sent as received, and where rows are listed
  pub record FairnessIsKept : Type 0 where
    pub none : (taps : List T) → AreFair totals tag taps taps
    pub joined : (before middle after : List T) → AreFair totals tag before middle
        → AreFair totals tag middle after
        → AreFair totals tag before after
    pub told : (n : ℕ) (sent got listed : ℕ → ℕ) (before after : List T) → of_all n sent ≡ of_all n got
        → AreTold totals tag n sent got listed before after → AreFair totals tag before after
    pub listed : (n : ℕ) (listed : ℕ → ℕ) (before after : List T)
        → IsListedAt totals tag n listed before after
        → AreFair totals tag before after

  -- what the taps are told of an exchange and then of listed rows is what it moves, and so is what they are told of the joins of
  -- some exchanges
  pub record ToldIsMoved : Type 0 where
    pub told : (n : ℕ) (e : PlacedExchange) (sent_by got_by : ℕ → ℕ) (parts : List Rows)
        (before middle after : List T)
        → AreTold totals tag n sent_by got_by nothing before middle
        → IsListedAt totals tag (length parts) (count_at parts) middle after → length parts ≡ n
        → ((u : ℕ) → u < n → sent_by u ≡ sent e.moves u)
        → ((w : ℕ) → w < n → got_by w ≡ received e.moves w)
        → e.listed ≡ row_counts parts
        → AreMoved totals tag n (e ∷ []) before after
    pub counted : (n : ℕ) (es : List PlacedExchange) (sent_by got_by listed_by : ℕ → ℕ)
        (before after : List T)
        → AreTold totals tag n sent_by got_by listed_by before after
        → ((u : ℕ) → u < n → sent_by u ≡ all_sent es u)
        → ((w : ℕ) → w < n → got_by w ≡ all_received es w)
        → ((w : ℕ) → w < n → listed_by w ≡ all_listed es w)
        → AreMoved totals tag n es before after

  -- where the taps rose by exchanges, sums of second taps that were read before have risen; and the numbers that are read off since
  -- one exchange are those of its note
  pub record NotesTellMoves : Type 0 where
    pub risen : (n : ℕ) (es : List PlacedExchange) (before after : List T) (since : List Totals)
        → AreSeconds totals n before since → AreMoved totals tag n es before after
        → HaveRisen totals since after
    pub note : (n number : ℕ) (e : PlacedExchange) (before after : List T) (since : List Totals)
        (note : Traffic)
        → 2 * n ≤ length before → length e.listed ≡ n → AreMoved totals tag n (e ∷ []) before after
        → AreSeconds totals n before since → IsNoteSince totals number e.kind since after note
        → note ≡ traffic_note n (number, e)

-- receipts, and runs, one after another
pub record RunsAreJoined : Type 0 where
  pub receipts : (size : Size) (moves others : List (List Move)) (receipts more : List ReceiptState)
      → AreShown size moves receipts → AreShown size others more
      → AreShown size (moves ++ others) (receipts ++ more)
  pub runs : (s : Settings) (number : ℕ) (middle expected : List Rows) (es fs : List PlacedExchange)
      (first second made : Moved)
      → IsMoved s number middle es first → IsMoved s number expected fs second
      → made.parts ≡ second.parts → made.traffic ≡ first.traffic ++ second.traffic
      → made.receipts ≡ first.receipts ++ second.receipts
      → IsMoved s number expected (es ++ fs) made
