-- A spread by key, as what goes to the homes of rows that are known as bags.
use Rattle.std.proofs.Common.{◌≡◌, ℕ, ◌<◌, ◌==◌, Bool, cond, List, [], ◌∷◌, length, get_or, refl, sym, ap, ◌∙◌, subst, arith}
use Rattle.std.specs.Prelude.{All, IsPermutation, filter}
use Rattle.std.specs.List.{range_with_len}
use Rattle.std.proofs.lemmas.List.FromFn.{get_or-map-range_with_len, fill_by_all, length-range_with_len, get_or-range_with_len}
use Rattle.std.proofs.lemmas.List.Elements.{All-head, All-tail, All-weaker}
use Rattle.std.proofs.lemmas.List.Sorted.{IsPermutation-refl, IsPermutation-trans, IsPermutation-sym}
use Rattle.std.specs.Prelude.{pos}
use Rattle.rel_base.specs.Bags.{SameBag}
use Rattle.rel_base.specs.Limits.{most_items}
use Rattle.rel_base.specs.declared.values.Value.TheVariants as variant
use Rattle.exchange_channels.specs.Wirings.{ReceiptState}
use Rattle.myrial_ast.specs.Combinations.{Row, Rows}
use Rattle.bag_laws.specs.Permuted.{SameTables}
use Rattle.bag_laws.proofs.RowPermutations.{filter_rows-same}
use Rattle.hash_partition.specs.Hashing.{key_of, home_of}
use Rattle.placement.specs.Layouts.{together}
use Rattle.row_exchange.specs.Moves.{Move, moves_of, sent, received}
use Rattle.regular_shuffle.specs.KeySpreads.{HasColumns, key_home, moves_by_key, IsSpread}
use Rattle.row_exchange.specs.declared.routes.Size.{Size}
use Rattle.row_exchange.specs.Exchanges.{Shows}
use Rattle.row_exchange.proofs.ReceiptLemmas.{bags-shown}
use Rattle.row_exchange.proofs.MoveLemmas.{All-flat_map}
use Rattle.routed_joins.proofs.RouteLemmas.{same-tables}
use Rattle.keyed_terms.specs.KeyedTerms.{AreOfWidth}
use Rattle.keyed_terms.specs.inner.Making.{AreMadeBy}
use Rattle.placement.proofs.TogetherLemmas.{together-same}
use Rattle.keyed_terms.proofs.MoveLemmas.{home_sending, home_moves, moves-one, moves-agree, moves-same, sent-same, received-same, shown-same}

-- rows of these parts came to their homes, the receipt shows their moves, and the numbers are those of the moves
pub record IsSpreadAs (home : Row → ℕ) (expected : List Rows) (size : Size) (sent_by got_by : ℕ → ℕ) (made : List Rows) (receipt : ReceiptState) : Type 0 where
  pub rows : AreMadeBy size.workers (λ w. filter (λ row. home row == w) (together expected)) made
  pub shows : Shows SameBag most_items size (moves_of (home_sending home expected ∷ [])) receipt
  pub sent_are : (u : ℕ) → u < size.workers → sent_by u ≡ sent (moves_of (home_sending home expected ∷ [])) u
  pub got_are : (w : ℕ) → w < size.workers → got_by w ≡ received (moves_of (home_sending home expected ∷ [])) w

pub filter-agree : (p q : Row → Bool) (rows : Rows) → All (λ row. p row ≡ q row) rows → filter p rows ≡ filter q rows
filter-agree p q [] all = refl
filter-agree p q (row ∷ rows) all =
    let here = All-head (λ (row : Row). p row ≡ q row) row rows all in
    let rest = filter-agree p q rows (All-tail (λ (row : Row). p row ≡ q row) row rows all) in
    λ i. cond (here i) (row ∷ rest i) (rest i)

module _ (seed : ℕ) (columns : List ℕ) (home : Row → ℕ) (expected given : List Rows) (size : Size) (sent_by got_by : ℕ → ℕ) (made : List Rows) (receipt : ReceiptState)
    (same : SameTables expected given) (agree : All (All (λ row. home row ≡ key_home seed size.workers columns row)) given)
    (x : IsSpread seed columns given size sent_by got_by made receipt) where
  abbrev key : Row → ℕ
  key = key_home seed size.workers columns

  abbrev own : List Move
  own = moves_of (home_sending home expected ∷ [])

  moves-are : IsPermutation (moves_by_key seed size.workers columns given) own
  moves-are =
      subst (λ (ms : List Move). IsPermutation ms own) (sym (moves-one key given ∙ sym (moves-agree 0 0 home key given agree)))
      (subst (λ (ms : List Move). IsPermutation (home_moves 0 0 home given) ms) (sym (moves-one home expected))
      (IsPermutation-sym (home_moves 0 0 home expected) (home_moves 0 0 home given) (moves-same 0 0 home expected given same)))

  at-home : (w : ℕ) → w < size.workers → SameBag (filter (λ row. home row == w) (together expected)) (get_or made w [])
  at-home w below =
      let agreed : All (λ row. home row ≡ key row) (together given) = All-flat_map (λ (row : Row). home row ≡ key row) (λ (rows : Rows). rows) given agree in
      let filtered : filter (λ row. key row == w) (together given) ≡ filter (λ row. home row == w) (together given) =
      sym (filter-agree (λ row. home row == w) (λ row. key row == w) (together given)
      (All-weaker (λ (row : Row). home row ≡ key row) (λ (row : Row). (home row == w) ≡ (key row == w)) (λ row e. ap (λ (h : ℕ). h == w) e) (together given) agreed)) in
      IsPermutation-trans (filter (λ row. home row == w) (together expected)) (filter (λ row. home row == w) (together given)) (get_or made w [])
      (filter_rows-same (λ row. home row == w) (together expected) (together given) (together-same expected given same))
      (subst (λ (rows : Rows). SameBag rows (get_or made w []))
      (get_or-map-range_with_len (λ w. filter (λ row. key row == w) (together given)) 0 size.workers w w [] below (omega arith) ∙ filtered)
      (x.rows_are w below))

  pub spread-as : IsSpreadAs home expected size sent_by got_by made receipt
  spread-as = record {
    rows = record { count = x.each_worker; rows_are = at-home };
    shows =
        shown-same (moves_by_key seed size.workers columns given) own moves-are size receipt
        (bags-shown 1 most_items size (moves_by_key seed size.workers columns given) receipt (omega arith) x.receipt_shows);
    sent_are = λ u below. x.sent_are u below ∙ sent-same (moves_by_key seed size.workers columns given) own moves-are u;
    got_are = λ w below. x.got_are w below ∙ received-same (moves_by_key seed size.workers columns given) own moves-are w;
  }

-- ---- rows as they are, with a key of all columns

pub tables-refl : (ts : List Rows) → SameTables ts ts
tables-refl ts = same-tables ts ts refl (λ k below. IsPermutation-refl (get_or ts k []))

whole-key : (width : ℕ) (row : Row) → length row ≡ width → key_of row (range_with_len 0 width) ≡ row
whole-key width row long = sym (fill_by_all (λ column. get_or row column (variant.Int (pos 0))) row width (variant.Int (pos 0)) long (λ k below. refl))

pub whole-home : (seed n width : ℕ) (parts : List Rows) → AreOfWidth width parts
    → All (All (λ row. home_of seed row n ≡ key_home seed n (range_with_len 0 width) row)) parts
whole-home seed n width parts all =
    All-weaker (All (λ (row : Row). length row ≡ width)) (All (λ (row : Row). home_of seed row n ≡ key_home seed n (range_with_len 0 width) row))
    (λ rows each. All-weaker (λ (row : Row). length row ≡ width) (λ (row : Row). home_of seed row n ≡ key_home seed n (range_with_len 0 width) row)
    (λ row long. ap (λ (key : Row). home_of seed key n) (sym (whole-key width row long))) rows each) parts all

pub whole-columns : (width : ℕ) (parts : List Rows) → AreOfWidth width parts → All (All (HasColumns (range_with_len 0 width))) parts
whole-columns width parts all =
    All-weaker (All (λ (row : Row). length row ≡ width)) (All (HasColumns (range_with_len 0 width)))
    (λ rows each. All-weaker (λ (row : Row). length row ≡ width) (HasColumns (range_with_len 0 width))
    (λ row long k d below. let inside : k < width = omega (arith, below, length-range_with_len 0 width) in
    omega (arith, get_or-range_with_len 0 width k d inside, inside, long)) rows each) parts all
