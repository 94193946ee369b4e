-- Joins that are alike: what lists and what moves alike, of two shapes over two lists of items.
use Rattle.std.proofs.Common.{◌≡◌, ℕ, zero, suc, ◌+◌, ◌-◌, ◌^◌, ◌<◌, ◌≤◌, ◌==◌, Bool, true, false, List, [], ◌∷◌, map, length, refl, sym, ◌∙◌, ap, subst, arith}
use Rattle.std.specs.Prelude.{filter, find, unwrap_or, slice_index_or, set, option_map, nat_lt, if◌then◌else◌, sum_by, ◌||◌, ◌&&◌}
use Rattle.std.specs.List.{range_with_len, enumerate_from, list_any, zip}
use Rattle.std.proofs.lemmas.List.{length-map}
use Rattle.std.proofs.lemmas.List.Sorted.{IsPermutation-refl, length_permutation, list_any-IsPermutation}
use Rattle.rel_base.specs.Bags.{SameBag}
use Rattle.rel_base.specs.Limits.{most_rows}
use Rattle.hash_partition.specs.Cells.{cell_number}
use Rattle.hash_partition.specs.Hashing.{home_of}
use Rattle.myrial_ast.specs.Combinations.{Row, Rows, listed_from}
use Rattle.myrial_ast.specs.CandidateFaults.{PrefixRule, Counted, Uncounted, too_many, overflows_on}
use Rattle.myrial_ast.specs.KeptRows.{span_of_item, span_of_prefix, put_at, lies_in}
use Rattle.bag_laws.specs.Permuted.{SameTables, no_table, a_table}
use Rattle.bag_laws.proofs.RowPermutations.{listed_from-same}
use Rattle.algebra.specs.declared.notes.Exchange.TheVariants as exchange
use Rattle.algebra.specs.Trees.{AtomTree, Shape}
use Rattle.algebra.specs.Shapes.{widths_of, candidates_of, kept_of, listed_of, prefix_of}
use Rattle.algebra.specs.Meanings.{has_long_prefix}
use Rattle.placement.specs.Destinations.{first_in, coordinate_in, cells, agrees, destinations, meeting_cell}
use Rattle.placement.specs.Exchanges.{kept_parts, row_counts, prefix_parts, by_cells, by_broadcast, by_keys, cells_exchange, broadcast_exchange, key_exchange, shuffle_exchanges}
use Rattle.placement.specs.Layouts.{PlacedRelation, Shuffle, ByCells, ByKeys, Broadcast, placed_nothing, parts_by_home, values_in, prefix_key, item_key, is_most, staying_atom, rows_of, last_atom, join_parts}
use Rattle.row_exchange.specs.Moves.{Sending}
use Rattle.placement.specs.Plans.{ShuffleRule, LeastLoad, Fixed, fitting_shuffle, kept_sizes, ruled_shuffle, uses_of}
use Rattle.share_chooser.specs.Best.{best_shares}
use Rattle.run_laws.specs.SameExchanges.{IsSameExchange, AreSameExchanges, no_exchange, an_exchange}
use Rattle.run_laws.proofs.TableLemmas.{tables-counts, tables-map, homes-same}
use Rattle.run_laws.proofs.SendLemmas.{AreSameSendings, no_sending, a_sending, sendings-tell}

-- ---- what depends on widths and variables alone

abbrev shared_by : List ℕ → List (List ℕ) → ℕ → List (List ℕ)
shared_by widths variables i =
    filter (λ v. list_any (lies_in (span_of_prefix widths i)) v && list_any (lies_in (span_of_item widths i)) v) variables

abbrev prefix_key_by : List ℕ → List (List ℕ) → ℕ → Row → Row
prefix_key_by widths variables i row = values_in (span_of_prefix widths i) (shared_by widths variables i) row

abbrev item_key_by : List ℕ → List (List ℕ) → ℕ → Row → Row
item_key_by widths variables i row =
    values_in (span_of_item widths i) (shared_by widths variables i) (put_at (span_of_item widths i).from row)

abbrev destinations_by : ℕ → List ℕ → List ℕ → List (List ℕ) → ℕ → Row → List ℕ
destinations_by seed shares widths variables j row =
    let span = span_of_item widths j in
    map (cell_number shares)
    (filter (agrees (map (λ d. option_map (coordinate_in seed d (put_at span.from row)) (first_in span d.1.1))
    (enumerate_from 0 (zip shares variables)))) (cells shares))

abbrev meeting_by : ℕ → List ℕ → List (List ℕ) → Row → ℕ
meeting_by seed shares variables row =
    cell_number shares (map (λ d. coordinate_in seed d row (unwrap_or (find (λ c. true) d.1.1) 0))
    (enumerate_from 0 (zip shares variables)))

abbrev bits_by : List ℕ → List (List ℕ) → ℕ → ℕ
bits_by widths variables j =
    sum_by (λ (e : ℕ × List ℕ). if list_any (lies_in (span_of_item widths j)) e.1 then 2 ^ e.0 else 0) (enumerate_from 0 variables)

-- what is made of the numbers of items depends on how many there are
numbers-same : {X Y : Type 0} (f : ℕ → Y) (i : ℕ) (xs ys : List X) → length xs ≡ length ys
    → map (λ (e : ℕ × X). f e.0) (enumerate_from i xs) ≡ map (λ (e : ℕ × X). f e.0) (enumerate_from i ys)
numbers-same f i [] [] e = refl
numbers-same f i [] (y ∷ ys) e = absurd (omega (arith, e))
numbers-same f i (x ∷ xs) [] e = absurd (omega (arith, e))
numbers-same f i (x ∷ xs) (y ∷ ys) e = ap (λ zs. f i ∷ zs) (numbers-same f (i + 1) xs ys (omega (arith, e)))

range-any : (p q : ℕ → Bool) (a m : ℕ) → ((i : ℕ) → a ≤ i → i < a + m → p i ≡ q i)
    → list_any p (range_with_len a m) ≡ list_any q (range_with_len a m)
range-any p q a zero h = refl
range-any p q a (suc m) h =
    let here = h a (omega arith) (omega arith) in
    let rest = range-any p q (a + 1) m (λ i l r. h i (omega (arith, l)) (omega (arith, r))) in
    λ k. here k || rest k

-- ---- joins that are alike

-- the kept rows of each item lie alike
pub data AreKeptAlike (s t : Shape) : ℕ → List PlacedRelation → List PlacedRelation → Type 0 where
  no_item : (i : ℕ) → AreKeptAlike s t i [] []
  an_item : (i : ℕ) (p q : PlacedRelation) (ps qs : List PlacedRelation) → SameTables (kept_parts s i p) (kept_parts t i q)
      → AreKeptAlike s t (i + 1) ps qs → AreKeptAlike s t i (p ∷ ps) (q ∷ qs)

-- a join of some items has the bags of another of other ones: candidates, those of prefixes, kept rows where they lie, and what
-- is listed of the rows at a worker
pub record AreAlike (n : ℕ) (s t : Shape) (given others : List PlacedRelation) : Type 0 where
  pub widths : widths_of s ≡ widths_of t
  pub variables : s.variables ≡ t.variables
  pub arith : s.arith ≡ t.arith
  pub emits : s.emits ≡ t.emits
  pub atoms : length s.atoms ≡ length t.atoms
  pub long : length given ≡ length others
  pub kept : AreKeptAlike s t 0 given others
  pub sizes : kept_sizes s (rows_of given) ≡ kept_sizes t (rows_of others)
  pub candidates : SameBag (candidates_of s (rows_of given)) (candidates_of t (rows_of others))
  pub prefixes : (i : ℕ) → 1 ≤ i → i ≤ length given → SameBag (prefix_of s i (rows_of given)) (prefix_of t i (rows_of others))
  pub staying : (j : ℕ)
      → SameTables (map (λ own. listed_of s (set (rows_of given) j own)) (slice_index_or given j (placed_nothing n)).parts)
      (map (λ own. listed_of t (set (rows_of others) j own)) (slice_index_or others j (placed_nothing n)).parts)

kept-nothing : (s t : Shape) (i a n : ℕ) → SameTables (map (kept_of s i) (map (λ (w : ℕ). []) (range_with_len a n)))
    (map (kept_of t i) (map (λ (w : ℕ). []) (range_with_len a n)))
kept-nothing s t i a zero = no_table
kept-nothing s t i a (suc n) =
    a_table [] [] (map (kept_of s i) (map (λ (w : ℕ). []) (range_with_len (a + 1) n)))
    (map (kept_of t i) (map (λ (w : ℕ). []) (range_with_len (a + 1) n)))
    (IsPermutation-refl []) (kept-nothing s t i (a + 1) n)

pub kept-at : (n : ℕ) (s t : Shape) (i k : ℕ) (given others : List PlacedRelation) → AreKeptAlike s t i given others
    → SameTables (kept_parts s (i + k) (slice_index_or given k (placed_nothing n)))
    (kept_parts t (i + k) (slice_index_or others k (placed_nothing n)))
kept-at n s t _ k _ _ (no_item i) = kept-nothing s t (i + k) 0 n
kept-at n s t _ zero _ _ (an_item i p q ps qs h hs) =
    subst (λ j. SameTables (kept_parts s j p) (kept_parts t j q)) (plus-none i) h
  where
    plus-none : (i : ℕ) → i ≡ i + 0
    plus-none i = omega arith
kept-at n s t _ (suc k) _ _ (an_item i p q ps qs h hs) =
    subst (λ j. SameTables (kept_parts s j (slice_index_or ps k (placed_nothing n)))
    (kept_parts t j (slice_index_or qs k (placed_nothing n)))) (plus-one i k)
    (kept-at n s t (i + 1) k ps qs hs)
  where
    plus-one : (i k : ℕ) → (i + 1) + k ≡ i + suc k
    plus-one i k = omega arith

module _ (n seed : ℕ) (s t : Shape) (given others : List PlacedRelation) (h : AreAlike n s t given others) where
  -- ---- keys and destinations

  prefix-key : (i : ℕ) → prefix_key s i ≡ prefix_key t i
  prefix-key i = λ k. prefix_key_by (h.widths k) (h.variables k) i

  item-key : (i : ℕ) → item_key s i ≡ item_key t i
  item-key i = λ k. item_key_by (h.widths k) (h.variables k) i

  destinations-same : (shares : List ℕ) (j : ℕ) → destinations seed shares s j ≡ destinations seed shares t j
  destinations-same shares j = λ k. destinations_by seed shares (h.widths k) (h.variables k) j

  meeting-same : (shares : List ℕ) → meeting_cell seed shares s ≡ meeting_cell seed shares t
  meeting-same shares = λ k. meeting_by seed shares (h.variables k)

  pub staying-same : staying_atom s (rows_of given) ≡ staying_atom t (rows_of others)
  staying-same =
      ap (λ sizes. unwrap_or (find (is_most sizes) (range_with_len 0 (length (rows_of given)))) 0) h.sizes
      ∙ ap (λ m. unwrap_or (find (is_most (kept_sizes t (rows_of others))) (range_with_len 0 m)) 0)
      (length-map given (λ (p : PlacedRelation). p.relation.rows) ∙ h.long
      ∙ sym (length-map others (λ (p : PlacedRelation). p.relation.rows)))

  last-same : last_atom s ≡ last_atom t
  last-same = ap (λ m. m - 1) h.atoms

  -- ---- what is listed

  listing : (home at_home : Row → ℕ) → home ≡ at_home
      → SameTables (map (listed_from s.arith s.emits) (parts_by_home n home (candidates_of s (rows_of given))))
      (map (listed_from t.arith t.emits) (parts_by_home n at_home (candidates_of t (rows_of others))))
  listing home at_home e =
      let path : map (listed_from s.arith s.emits) (parts_by_home n home (candidates_of t (rows_of others)))
      ≡ map (listed_from t.arith t.emits) (parts_by_home n at_home (candidates_of t (rows_of others))) =
      λ k. map (listed_from (h.arith k) (h.emits k)) (parts_by_home n (e k) (candidates_of t (rows_of others))) in
      subst (SameTables (map (listed_from s.arith s.emits) (parts_by_home n home (candidates_of s (rows_of given))))) path
      (tables-map (listed_from s.arith s.emits) (listed_from s.arith s.emits) (listed_from-same s.arith s.emits)
      (parts_by_home n home (candidates_of s (rows_of given))) (parts_by_home n home (candidates_of t (rows_of others)))
      (homes-same n home (candidates_of s (rows_of given)) (candidates_of t (rows_of others)) h.candidates))

  pub parts-alike : (shuffle : Shuffle) → SameTables (join_parts n seed shuffle s given) (join_parts n seed shuffle t others)
  parts-alike (ByCells shares) = listing (meeting_cell seed shares s) (meeting_cell seed shares t) (meeting-same shares)
  parts-alike ByKeys =
      listing (λ row. home_of seed (prefix_key s (last_atom s) row) n) (λ row. home_of seed (prefix_key t (last_atom t) row) n)
      (λ k row. home_of seed (prefix_key_by (h.widths k) (h.variables k) (last-same k) row) n)
  parts-alike Broadcast =
      subst (λ j. SameTables (join_parts n seed Broadcast s given)
      (map (λ own. listed_of t (set (rows_of others) j own)) (slice_index_or others j (placed_nothing n)).parts)) staying-same
      (h.staying (staying_atom s (rows_of given)))

  -- ---- what is sent

  cells-alike : (shares : List ℕ) (i : ℕ) (ps qs : List PlacedRelation) → AreKeptAlike s t i ps qs
      → AreSameSendings (map (λ (e : ℕ × PlacedRelation). record {
        parts = kept_parts s e.0 e.1;
        goes_to =
            destinations seed shares s e.0;
      }) (enumerate_from i ps))
      (map (λ (e : ℕ × PlacedRelation). record { parts = kept_parts t e.0 e.1; goes_to = destinations seed shares t e.0 })
      (enumerate_from i qs))
  cells-alike shares _ _ _ (no_item i) = no_sending
  cells-alike shares _ _ _ (an_item i p q ps qs k ks) =
      a_sending (record { parts = kept_parts s i p; goes_to = destinations seed shares s i })
      (record { parts = kept_parts t i q; goes_to = destinations seed shares t i })
      (map (λ (e : ℕ × PlacedRelation). record { parts = kept_parts s e.0 e.1; goes_to = destinations seed shares s e.0 })
      (enumerate_from (i + 1) ps))
      (map (λ (e : ℕ × PlacedRelation). record { parts = kept_parts t e.0 e.1; goes_to = destinations seed shares t e.0 })
      (enumerate_from (i + 1) qs))
      (destinations-same shares i) k (cells-alike shares (i + 1) ps qs ks)

  broadcast-alike : (j l : ℕ) → j ≡ l → (i : ℕ) (ps qs : List PlacedRelation) → AreKeptAlike s t i ps qs
      → AreSameSendings (map (λ (e : ℕ × PlacedRelation). record {
        parts = kept_parts s e.0 e.1;
        goes_to =
            λ row. if e.0 == j then [] else range_with_len 0 n;
      }) (enumerate_from i ps))
      (map (λ (e : ℕ × PlacedRelation). record {
        parts = kept_parts t e.0 e.1;
        goes_to =
            λ row. if e.0 == l then [] else range_with_len 0 n;
      }) (enumerate_from i qs))
  broadcast-alike j l e _ _ _ (no_item i) = no_sending
  broadcast-alike j l e _ _ _ (an_item i p q ps qs k ks) =
      a_sending (record { parts = kept_parts s i p; goes_to = λ row. if i == j then [] else range_with_len 0 n })
      (record { parts = kept_parts t i q; goes_to = λ row. if i == l then [] else range_with_len 0 n })
      (map (λ (e : ℕ × PlacedRelation). record {
        parts = kept_parts s e.0 e.1;
        goes_to =
            λ row. if e.0 == j then [] else range_with_len 0 n;
      }) (enumerate_from (i + 1) ps))
      (map (λ (e : ℕ × PlacedRelation). record {
        parts = kept_parts t e.0 e.1;
        goes_to =
            λ row. if e.0 == l then [] else range_with_len 0 n;
      }) (enumerate_from (i + 1) qs))
      (λ m row. if i == e m then [] else range_with_len 0 n) k (broadcast-alike j l e (i + 1) ps qs ks)

  prefixes-alike : (i : ℕ) → 1 ≤ i → i ≤ length given → SameTables (prefix_parts n seed s given i) (prefix_parts n seed t others i)
  prefixes-alike i some low = by (i == 1)
    where
      moved : SameTables (parts_by_home n (λ row. home_of seed (prefix_key s (i - 1) row) n) (prefix_of s i (rows_of given)))
          (parts_by_home n (λ row. home_of seed (prefix_key t (i - 1) row) n) (prefix_of t i (rows_of others)))
      moved =
          subst (λ (key : Row → Row). SameTables
          (parts_by_home n (λ row. home_of seed (prefix_key s (i - 1) row) n) (prefix_of s i (rows_of given)))
          (parts_by_home n (λ row. home_of seed (key row) n) (prefix_of t i (rows_of others)))) (prefix-key (i - 1))
          (homes-same n (λ row. home_of seed (prefix_key s (i - 1) row) n) (prefix_of s i (rows_of given))
          (prefix_of t i (rows_of others)) (h.prefixes i some low))

      by : (b : Bool)
          → SameTables (if b then kept_parts s 0 (slice_index_or given 0 (placed_nothing n)) else parts_by_home n
          (λ row. home_of seed (prefix_key s (i - 1) row) n) (prefix_of s i (rows_of given)))
          (if b then kept_parts t 0 (slice_index_or others 0 (placed_nothing n)) else parts_by_home n
          (λ row. home_of seed (prefix_key t (i - 1) row) n) (prefix_of t i (rows_of others)))
      by true = kept-at n s t 0 0 given others h.kept
      by false = moved

  keys-alike : (i : ℕ) → 1 ≤ i → i ≤ length given → AreSameSendings (by_keys n seed s given i) (by_keys n seed t others i)
  keys-alike i some low =
      a_sending (record { parts = prefix_parts n seed s given i; goes_to = λ row. home_of seed (prefix_key s i row) n ∷ [] })
      (record { parts = prefix_parts n seed t others i; goes_to = λ row. home_of seed (prefix_key t i row) n ∷ [] })
      (last_of s given) (last_of t others)
      (λ k row. home_of seed (prefix-key i k row) n ∷ []) (prefixes-alike i some low)
      (a_sending (record {
        parts = kept_parts s i (slice_index_or given i (placed_nothing n));
        goes_to =
            λ row. home_of seed (item_key s i row) n ∷ [];
      })
      (record {
        parts = kept_parts t i (slice_index_or others i (placed_nothing n));
        goes_to =
            λ row. home_of seed (item_key t i row) n ∷ [];
      })
      [] [] (λ k row. home_of seed (item-key i k row) n ∷ []) at no_sending)
    where
      last_of : Shape → List PlacedRelation → List Sending
      last_of shape items =
          record {
            parts = kept_parts shape i (slice_index_or items i (placed_nothing n));
            goes_to =
                λ row. home_of seed (item_key shape i row) n ∷ [];
          } ∷ []

      at : SameTables (kept_parts s i (slice_index_or given i (placed_nothing n)))
          (kept_parts t i (slice_index_or others i (placed_nothing n)))
      at = subst (λ m. SameTables (kept_parts s m (slice_index_or given i (placed_nothing n)))
          (kept_parts t m (slice_index_or others i (placed_nothing n)))) (none-plus i)
          (kept-at n s t 0 i given others h.kept)
        where
          none-plus : (i : ℕ) → 0 + i ≡ i
          none-plus i = omega arith

  -- ---- the exchanges

  module _ (parts more : List Rows) (k : SameTables parts more) where
    key-alike : (i : ℕ) → 1 ≤ i → suc i ≤ length given
        → IsSameExchange n (key_exchange n seed s given parts i) (key_exchange n seed t others more i)
    key-alike i some low =
        sendings-tell n (exchange.Rs (suc i)) (by_keys n seed s given i) (by_keys n seed t others i) _ _
        (keys-alike i some (omega (arith, low)))
        (ap (λ m. row_counts (if suc i == m then parts else prefix_parts n seed s given (suc i))) h.long
        ∙ by (suc i == length others))
      where
        by : (b : Bool) → row_counts (if b then parts else prefix_parts n seed s given (suc i))
            ≡ row_counts (if b then more else prefix_parts n seed t others (suc i))
        by true = tables-counts parts more k
        by false =
            tables-counts (prefix_parts n seed s given (suc i)) (prefix_parts n seed t others (suc i))
            (prefixes-alike (suc i) (omega arith) low)

    steps-alike : (a m : ℕ) → ((i : ℕ) → a ≤ i → i < a + m → (1 ≤ i) × (suc i ≤ length given))
        → AreSameExchanges n (map (key_exchange n seed s given parts) (range_with_len a m))
        (map (key_exchange n seed t others more) (range_with_len a m))
    steps-alike a zero low = no_exchange
    steps-alike a (suc m) low =
        let here = low a (omega arith) (omega arith) in
        an_exchange (key_exchange n seed s given parts a) (key_exchange n seed t others more a)
        (map (key_exchange n seed s given parts) (range_with_len (a + 1) m))
        (map (key_exchange n seed t others more) (range_with_len (a + 1) m))
        (key-alike a here.0 here.1) (steps-alike (a + 1) m (λ i l r. low i (omega (arith, l)) (omega (arith, r))))

    pub exchanges-alike : (shuffle : Shuffle)
        → AreSameExchanges n (shuffle_exchanges n seed shuffle s given parts) (shuffle_exchanges n seed shuffle t others more)
    exchanges-alike (ByCells shares) =
        an_exchange (cells_exchange seed shares s given parts) (cells_exchange seed shares t others more) [] []
        (sendings-tell n exchange.Hc (by_cells seed shares s given) (by_cells seed shares t others) (row_counts parts)
        (row_counts more)
        (cells-alike shares 0 given others h.kept) (tables-counts parts more k)) no_exchange
    exchanges-alike Broadcast =
        an_exchange (broadcast_exchange n s given parts) (broadcast_exchange n t others more) [] []
        (sendings-tell n exchange.Br (by_broadcast n s given) (by_broadcast n t others) (row_counts parts) (row_counts more)
        (broadcast-alike (staying_atom s (rows_of given)) (staying_atom t (rows_of others)) staying-same 0 given others h.kept)
        (tables-counts parts more k)) no_exchange
    exchanges-alike ByKeys =
        subst (λ m. AreSameExchanges n (map (key_exchange n seed s given parts) (range_with_len 1 (length given - 1)))
        (map (key_exchange n seed t others more) (range_with_len 1 (m - 1)))) h.long
        (steps-alike 1 (length given - 1) (λ i l r. (l, omega (arith, l, r))))

  -- ---- the shuffle

  uses-same : uses_of s ≡ uses_of t
  uses-same =
      (λ k. map (λ (e : ℕ × AtomTree). bits_by (h.widths k) (h.variables k) e.0) (enumerate_from 0 s.atoms))
      ∙ numbers-same (bits_by (widths_of t) t.variables) 0 s.atoms t.atoms h.atoms

  pub shuffle-alike : (rule : ShuffleRule) → ruled_shuffle rule n s (rows_of given) ≡ ruled_shuffle rule n t (rows_of others)
  shuffle-alike LeastLoad = λ k. ByCells (best_shares (uses-same k) (h.sizes k) (length (h.variables k)) n)
  shuffle-alike (Fixed shuffle) = λ k. fitting_shuffle (length (h.variables k)) n shuffle

  -- ---- faults

  pub many-alike : too_many (candidates_of s (rows_of given)) ≡ too_many (candidates_of t (rows_of others))
  many-alike = ap (λ m. nat_lt most_rows m)
      (sym (length_permutation (candidates_of s (rows_of given)) (candidates_of t (rows_of others)) h.candidates))

  rows-long : length (rows_of given) ≡ length given
  rows-long = length-map given (λ (p : PlacedRelation). p.relation.rows)

  pub long-alike : (rule : PrefixRule) → has_long_prefix rule s (rows_of given) ≡ has_long_prefix rule t (rows_of others)
  long-alike Uncounted = refl
  long-alike Counted =
      range-any (λ i. too_many (prefix_of s i (rows_of given))) (λ i. too_many (prefix_of t i (rows_of others))) 1
      (length (rows_of given) - 1)
      (λ i some low. ap (λ m. nat_lt most_rows m)
      (sym (length_permutation (prefix_of s i (rows_of given)) (prefix_of t i (rows_of others))
      (h.prefixes i some (omega (arith, some, low, rows-long))))))
      ∙ ap (λ m. list_any (λ i. too_many (prefix_of t i (rows_of others))) (range_with_len 1 (m - 1)))
      (rows-long ∙ h.long ∙ sym (length-map others (λ (p : PlacedRelation). p.relation.rows)))

  pub few-alike : (rule : PrefixRule) → (too_many (candidates_of s (rows_of given)) || has_long_prefix rule s (rows_of given))
      ≡ (too_many (candidates_of t (rows_of others)) || has_long_prefix rule t (rows_of others))
  few-alike rule = λ k. many-alike k || long-alike rule k

  pub overflow-alike : list_any (overflows_on s.arith s.emits) (candidates_of s (rows_of given))
      ≡ list_any (overflows_on t.arith t.emits) (candidates_of t (rows_of others))
  overflow-alike =
      list_any-IsPermutation (overflows_on s.arith s.emits) (candidates_of s (rows_of given)) (candidates_of t (rows_of others))
      h.candidates
      ∙ (λ k. list_any (overflows_on (h.arith k) (h.emits k)) (candidates_of t (rows_of others)))

  pub listed-alike : SameBag (listed_of s (rows_of given)) (listed_of t (rows_of others))
  listed-alike =
      subst (SameBag (listed_of s (rows_of given))) (λ k. listed_from (h.arith k) (h.emits k) (candidates_of t (rows_of others)))
      (listed_from-same s.arith s.emits (candidates_of s (rows_of given)) (candidates_of t (rows_of others)) h.candidates)
