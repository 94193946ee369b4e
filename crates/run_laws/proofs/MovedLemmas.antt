-- What is moved by exchanges is moved by exchanges that tell the same.
use Rattle.std.proofs.Common.{◌≡◌, ℕ, zero, suc, ◌+◌, ◌<◌, ◌==◌, Bool, true, false, cond, List, [], ◌∷◌, ◌++◌, map, refl, sym, ◌∙◌, ap, subst, arith}
use Rattle.std.specs.Prelude.{filter, slice_index_or, ◌&&◌}
use Rattle.std.specs.List.{flat_map, range_with_len}
use Rattle.std.proofs.lemmas.List.Sums.{sum_by-cons}
use Rattle.std.proofs.lemmas.List.Sorted.{IsPermutation-refl, IsPermutation-trans}
use Rattle.rel_base.specs.declared.values.Value.{Value}
use Rattle.rel_base.specs.Bags.{SameBag}
use Rattle.exchange_channels.specs.Messages.{rows_of_atom}
use Rattle.exchange_channels.specs.Wirings.{ReceiptState}
use Rattle.myrial_ast.specs.Combinations.{Rows}
use Rattle.algebra.specs.declared.notes.Exchange.{Exchange}
use Rattle.algebra.specs.declared.notes.Exchange.TheVariants as exchange
use Rattle.algebra.specs.declared.notes.Traffic.{Traffic}
use Rattle.placement.specs.Exchanges.{PlacedExchange, traffic_note}
use Rattle.row_exchange.specs.Moves.{Move, sent, received, rows_between}
use Rattle.placement.specs.Layouts.{by_worker}
use Rattle.placement.specs.Runs.{size_of}
use Rattle.row_exchange.specs.declared.routes.Size.{Size}
use Rattle.row_exchange.specs.Exchanges.{batches_between}
use Rattle.routed_joins.specs.TermRuns.{moves_alone, shown_moves, AreShown, no_receipt, a_receipt}
use Rattle.run_laws.specs.SameExchanges.{IsSameExchange, AreSameExchanges, no_exchange, an_exchange, MovedAreOfSameExchanges, CountsAreOfSameExchanges}
use Rattle.run_laws.proofs.TableLemmas.{tables-trans}

-- ---- counts

pub counts_are_of_same_exchanges : CountsAreOfSameExchanges
counts_are_of_same_exchanges n _ _ no_exchange w low = (refl, refl, refl)
counts_are_of_same_exchanges n _ _ (an_exchange e f es fs h hs) w low =
    let rest = counts_are_of_same_exchanges n es fs hs w low in (
      sum_by-cons (λ (x : PlacedExchange). sent x.moves w) e es ∙ (λ i. h.sent w low i + rest.0 i)
          ∙ sym (sum_by-cons (λ (x : PlacedExchange). sent x.moves w) f fs),
      sum_by-cons (λ (x : PlacedExchange). received x.moves w) e es ∙ (λ i. h.received w low i + rest.1 i)
          ∙ sym (sum_by-cons (λ (x : PlacedExchange). received x.moves w) f fs),
      sum_by-cons (λ (x : PlacedExchange). slice_index_or x.listed w 0) e es ∙ (λ i. slice_index_or (h.listed i) w 0 + rest.2 i)
          ∙ sym (sum_by-cons (λ (x : PlacedExchange). slice_index_or x.listed w 0) f fs),
    )

-- ---- traffic

range-agree : {X : Type 0} (f g : ℕ → X) (a n : ℕ) → ((w : ℕ) → w < a + n → f w ≡ g w)
    → map f (range_with_len a n) ≡ map g (range_with_len a n)
range-agree f g a zero h = refl
range-agree f g a (suc n) h =
    let here = h a (omega arith) in
    let rest = range-agree f g (a + 1) n (λ w low. h w (omega (arith, low))) in
    λ i. here i ∷ rest i

note-same : (n number : ℕ) (e f : PlacedExchange) → IsSameExchange n e f → traffic_note n (number, e) ≡ traffic_note n (number, f)
note-same n number e f h =
    let got : by_worker n (received e.moves) ≡ by_worker n (received f.moves) =
    range-agree (received e.moves) (received f.moves) 0 n (λ w low. h.received w (omega (arith, low))) in
    λ i. record { statement = number; exchange = h.kind i; received = got i; listed = h.listed i }

notes-same : (n number : ℕ) (es fs : List PlacedExchange) → AreSameExchanges n es fs
    → map {B = Traffic} (λ (e : PlacedExchange). traffic_note n (number, e)) es
    ≡ map (λ (e : PlacedExchange). traffic_note n (number, e)) fs
notes-same n number _ _ no_exchange = refl
notes-same n number _ _ (an_exchange e f es fs h hs) =
    let here = note-same n number e f h in
    let rest = notes-same n number es fs hs in
    λ i. here i ∷ rest i

-- ---- receipts

-- the rows of one atom's moves are those of the atom
alone-between : (a atom u w : ℕ) (moves : List Move)
    → rows_between (moves_alone a moves) atom u w ≡ cond (0 == atom) (rows_between moves a u w) []
alone-between a atom u w [] = by (0 == atom)
  where
    by : (z : Bool) → ◌≡◌ {A = Rows} [] (cond z [] [])
    by true = refl
    by false = refl
alone-between a atom u w (m ∷ moves) =
    pull (m.atom == a) ∙ by (m.atom == a) (m.from == u) (m.to == w) (0 == atom) (alone-between a atom u w moves)
  where
    test : Move → Bool
    test x = (x.atom == atom) && (x.from == u) && (x.to == w)

    first : Move → Move
    first x = record x { atom = 0 }

    row : Move → List Value
    row x = x.row

    own : List Move
    own = filter (λ (x : Move). x.atom == a) moves

    there : List Move
    there = filter test (map first own)

    all : List Move
    all = filter (λ (x : Move). (x.atom == a) && (x.from == u) && (x.to == w)) moves

    pull : (p : Bool) → map row (filter test (map first (cond p (m ∷ own) own)))
        ≡ cond p (map row (cond ((0 == atom) && (m.from == u) && (m.to == w)) (first m ∷ there) there)) (map row there)
    pull true = refl
    pull false = refl

    by : (p q r z : Bool) → map row there ≡ cond z (map row all) []
        → cond p (map row (cond (z && q && r) (first m ∷ there) there)) (map row there)
        ≡ cond z (map row (cond (p && q && r) (m ∷ all) all)) []
    by true true true true e = ap (λ rows. m.row ∷ rows) e
    by true true false true e = e
    by true false r true e = e
    by true q r false e = e
    by false q r true e = e
    by false q r false e = e

-- lists of moves with the same rows between any two of n workers
data AreSameMoves (n : ℕ) : List (List Move) → List (List Move) → Type 0 where
  no_moves : AreSameMoves n [] []
  more_moves : (a b : List Move) (as_many others : List (List Move))
      → ((atom u w : ℕ) → u < n → w < n → SameBag (rows_between a atom u w) (rows_between b atom u w))
      → AreSameMoves n as_many others → AreSameMoves n (a ∷ as_many) (b ∷ others)

alone-same : (n a : ℕ) (x y : List Move)
    → ((atom u w : ℕ) → u < n → w < n → SameBag (rows_between x atom u w) (rows_between y atom u w))
    → (atom u w : ℕ) → u < n → w < n → SameBag (rows_between (moves_alone a x) atom u w) (rows_between (moves_alone a y) atom u w)
alone-same n a x y h atom u w low lower =
    subst (λ rows. SameBag rows (rows_between (moves_alone a y) atom u w)) (sym (alone-between a atom u w x))
    (subst (SameBag (cond (0 == atom) (rows_between x a u w) [])) (sym (alone-between a atom u w y)) (by (0 == atom)))
  where
    by : (z : Bool) → SameBag (cond z (rows_between x a u w) []) (cond z (rows_between y a u w) [])
    by true = h a u w low lower
    by false = IsPermutation-refl []

shown-more : (n : ℕ) (kind : Exchange) (x y : List Move) (counts more : List ℕ) (xs ys : List (List Move))
    → ((atom u w : ℕ) → u < n → w < n → SameBag (rows_between x atom u w) (rows_between y atom u w)) → AreSameMoves n xs ys
    → AreSameMoves n (shown_moves (record { kind = kind; moves = x; listed = counts }) ++ xs)
    (shown_moves (record { kind = kind; moves = y; listed = more }) ++ ys)
shown-more n exchange.Diff x y counts more xs ys h hs =
    more_moves (moves_alone 0 x) (moves_alone 0 y) (moves_alone 1 x ∷ xs) (moves_alone 1 y ∷ ys) (alone-same n 0 x y h)
    (more_moves (moves_alone 1 x) (moves_alone 1 y) xs ys (alone-same n 1 x y h) hs)
shown-more n kind x y counts more xs ys h hs = more_moves x y xs ys h hs

shown-same : (n : ℕ) (es fs : List PlacedExchange) → AreSameExchanges n es fs
    → AreSameMoves n (flat_map shown_moves es) (flat_map shown_moves fs)
shown-same n _ _ no_exchange = no_moves
shown-same n _ _ (an_exchange e f es fs h hs) =
    subst (λ kind. AreSameMoves n (shown_moves e ++ flat_map shown_moves es)
    (shown_moves (record { kind = kind; moves = f.moves; listed = f.listed }) ++ flat_map shown_moves fs)) h.kind
    (shown-more n e.kind e.moves f.moves e.listed f.listed (flat_map shown_moves es) (flat_map shown_moves fs) h.between
    (shown-same n es fs hs))

receipts-same : (size : Size) (xs ys : List (List Move)) (receipts : List ReceiptState) → AreSameMoves size.workers xs ys
    → AreShown size ys receipts → AreShown size xs receipts
receipts-same size _ _ _ no_moves no_receipt = no_receipt
receipts-same size _ _ _ (more_moves x y xs ys h hs) (a_receipt _ receipt _ receipts shows more) =
    a_receipt x receipt xs receipts (record {
      capacity = shows.capacity;
      cells = shows.cells;
      senders = shows.senders;
      sized = shows.sized;
      rows_are = λ u w atom low lower.
          IsPermutation-trans (rows_between x atom u w) (rows_between y atom u w) (rows_of_atom atom (batches_between receipt u w))
          (h atom u w low lower)
          (shows.rows_are u w atom low lower);
    }) (receipts-same size xs ys receipts hs more)

pub moved_are_of_same_exchanges : MovedAreOfSameExchanges
moved_are_of_same_exchanges s number parts others es fs made h hs moved = record {
  parts = tables-trans others parts made.parts h moved.parts;
  traffic = moved.traffic ∙ sym (notes-same s.workers number fs es hs);
  receipts =
      receipts-same (size_of s) (flat_map shown_moves fs) (flat_map shown_moves es) made.receipts (shown-same s.workers fs es hs)
      moved.receipts;
}
