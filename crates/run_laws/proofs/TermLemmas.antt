-- A term over the same bags comes to the same bags, by exchanges that tell the same, with the same fault.
use Rattle.std.proofs.Common.{◌≡◌, ℕ, zero, suc, ◌+◌, Bool, true, false, not, List, [], ◌∷◌, ◌++◌, map, length, refl, sym, ◌∙◌, ap, subst, Option, Some, None}
use Rattle.std.specs.Prelude.{slice_index_or, set, take, nat_lt, if◌then◌else◌, ◌||◌, ◌&&◌}
use Rattle.std.specs.List.{list_all, list_any, zip}
use Rattle.std.proofs.lemmas.List.Elements.{All-head, All-tail}
use Rattle.std.proofs.lemmas.List.Sorted.{IsPermutation-map, IsPermutation-append, length_permutation, list_any-IsPermutation}
use Rattle.rel_base.specs.Bags.{SameBag}
use Rattle.rel_base.specs.Limits.{most_rows}
use Rattle.rel_base.specs.declared.faults.RunFault.{RunFault}
use Rattle.rel_base.specs.declared.faults.RunFault.TheVariants as fault
use Rattle.hash_partition.specs.Hashing.{home_of}
use Rattle.myrial_ast.specs.Combinations.{Row, Rows, combinations, combined_row}
use Rattle.myrial_ast.specs.Bags.{union_all, distinct, difference}
use Rattle.myrial_ast.specs.Groups.{Kinds, key_of, groups, sum_fits, sums_fit}
use Rattle.myrial_ast.specs.Partials.{partial_rows, split_sums}
use Rattle.myrial_ast.specs.KeptRows.{passes_within, span_of_item, span_of_prefix, put_at}
use Rattle.myrial_ast.specs.CandidateFaults.{FaultRule}
use Rattle.bag_laws.specs.Permuted.{SameTables, no_table, a_table}
use Rattle.bag_laws.proofs.GroupPermutations.{groups-same}
use Rattle.bag_laws.proofs.RowPermutations.{combinations-same, filter_rows-same, candidates-same, listed_from-same, union_all-same, distinct-same, difference-same}
use Rattle.algebra.specs.declared.notes.Exchange.{Exchange}
use Rattle.algebra.specs.declared.notes.Exchange.TheVariants as exchange
use Rattle.algebra.specs.declared.settings.Settings.{Settings}
use Rattle.algebra.specs.declared.terms.Source.{Source}
use Rattle.algebra.specs.Trees.{Shape, TermTree, Same, Empty, UnionAll, Diff, Distinct, Join, Group}
use Rattle.algebra.specs.Shapes.{widths_of, tests_of, ties_of, tie_test, candidates_of, kept_of, joined_tables, listed_of, prefix_of}
use Rattle.algebra.specs.Meanings.{sources_of, has_long_prefix, shape_fault}
use Rattle.placement.specs.Exchanges.{row_counts, shuffle_exchanges, join_exchanges, to_home, whole_row, row_exchange, partial_sending, group_exchange}
use Rattle.placement.specs.Layouts.{PlacedRelation, placed_nothing, by_worker, part, rows_of, joined_items, join_parts, listed_parts, term_parts}
use Rattle.placement.specs.Laws.{IsSamePlaced, AreSamePlaced, none_placed, one_placed}
use Rattle.placement.specs.Plans.{ShuffleRule, ruled_shuffle, placing_by}
use Rattle.placement.proofs.AlikeLemmas.{rows-same}
use Rattle.placement.proofs.JoinedLemmas.{joined-rows, joined_are_of_bags}
use Rattle.bag_laws.proofs.ColumnLemmas.{map-through}
use Rattle.run_laws.specs.SameExchanges.{AreSameExchanges, no_exchange, an_exchange}
use Rattle.run_laws.specs.BagRuns.{AreSameValues, rows_in, IsSameRun, TermsAreOfBags}
use Rattle.run_laws.proofs.TableLemmas.{tables-itself, tables-counts, tables-at, tables-map, tables-set, tables-take, tables-range, homes-same}
use Rattle.run_laws.proofs.SendLemmas.{AreSameSendings, no_sending, a_sending, sendings-tell, exchanges-before}
use Rattle.run_laws.proofs.BagLemmas.{values-placed}
use Rattle.run_laws.proofs.NoteLemmas.{sizes-same, notes_are_of_bags}
use Rattle.run_laws.proofs.AlikeLemmas.{AreKeptAlike, no_item, an_item, AreAlike, parts-alike, exchanges-alike, shuffle-alike, many-alike, long-alike, overflow-alike, listed-alike}

-- ---- one shape over the same bags

pub placed-long : (ps qs : List PlacedRelation) → AreSamePlaced ps qs → length ps ≡ length qs
placed-long _ _ none_placed = refl
placed-long _ _ (one_placed p q ps qs h hs) = ap suc (placed-long ps qs hs)

parts-same : (n : ℕ) (ps qs : List PlacedRelation) → AreSamePlaced ps qs → (j : ℕ)
    → SameTables (slice_index_or ps j (placed_nothing n)).parts (slice_index_or qs j (placed_nothing n)).parts
parts-same n _ _ none_placed j = tables-itself (placed_nothing n).parts
parts-same n _ _ (one_placed p q ps qs h hs) zero = h.parts
parts-same n _ _ (one_placed p q ps qs h hs) (suc j) = parts-same n ps qs hs j

module _ (shape : Shape) where
  kept-same : (i : ℕ) (a b : Rows) → SameBag a b → SameBag (kept_of shape i a) (kept_of shape i b)
  kept-same i a b h =
      filter_rows-same (λ row. passes_within (tests_of shape) (ties_of shape) (span_of_item (widths_of shape) i)
      (put_at (span_of_item (widths_of shape) i).from row)) a b h

  kept-each : (i : ℕ) (ps qs : List PlacedRelation) → AreSamePlaced ps qs → AreKeptAlike shape shape i ps qs
  kept-each i _ _ none_placed = no_item i
  kept-each i _ _ (one_placed p q ps qs h hs) =
      an_item i p q ps qs (tables-map (kept_of shape i) (kept_of shape i) (kept-same i) p.parts q.parts h.parts)
      (kept-each (i + 1) ps qs hs)

  pub candidates_of-same : (ts us : List Rows) → SameTables ts us → SameBag (candidates_of shape ts) (candidates_of shape us)
  candidates_of-same ts us h = candidates-same (tests_of shape ++ map tie_test (ties_of shape)) ts us h

  pub listed_of-same : (ts us : List Rows) → SameTables ts us → SameBag (listed_of shape ts) (listed_of shape us)
  listed_of-same ts us h = listed_from-same shape.arith shape.emits (candidates_of shape ts) (candidates_of shape us)
      (candidates_of-same ts us h)

  pub prefix_of-same : (i : ℕ) (ts us : List Rows) → SameTables ts us → SameBag (prefix_of shape i ts) (prefix_of shape i us)
  prefix_of-same i ts us h =
      filter_rows-same (passes_within (tests_of shape) (ties_of shape) (span_of_prefix (widths_of shape) i))
      (map combined_row (combinations (take i ts))) (map combined_row (combinations (take i us)))
      (IsPermutation-map combined_row (combinations (take i ts)) (combinations (take i us))
      (combinations-same (take i ts) (take i us) (tables-take i ts us h)))

  pub same-alike : (n : ℕ) (given others : List PlacedRelation) → AreSamePlaced given others → AreAlike n shape shape given others
  same-alike n given others h =
      let rows = rows-same given others h in
      record {
        widths = refl;
        variables = refl;
        arith = refl;
        emits = refl;
        atoms = refl;
        long = placed-long given others h;
        kept = kept-each 0 given others h;
        sizes = sizes-same shape 0 (rows_of given) (rows_of others) rows;
        candidates = candidates_of-same (rows_of given) (rows_of others) rows;
        prefixes = λ i some low. prefix_of-same i (rows_of given) (rows_of others) rows;
        staying = λ j.
            tables-map (λ own. listed_of shape (set (rows_of given) j own)) (λ own. listed_of shape (set (rows_of others) j own))
            (λ a b k. listed_of-same (set (rows_of given) j a) (set (rows_of others) j b)
            (tables-set (rows_of given) (rows_of others) rows j a b k))
            (slice_index_or given j (placed_nothing n)).parts (slice_index_or others j (placed_nothing n)).parts
            (parts-same n given others h j);
      }

-- ---- faults

all-not-any : {X : Type 0} (p : X → Bool) (xs : List X) → list_all p xs ≡ not (list_any (λ x. not (p x)) xs)
all-not-any p [] = refl
all-not-any p (x ∷ xs) = ap (λ b. p x && b) (all-not-any p xs) ∙ by (p x)
  where
    by : (b : Bool) → (b && not (list_any (λ x. not (p x)) xs)) ≡ not (not b || list_any (λ x. not (p x)) xs)
    by true = refl
    by false = refl

pub sums-same : (kinds : Kinds) (a b : Rows) → SameBag a b → sums_fit kinds a ≡ sums_fit kinds b
sums-same kinds a b h =
    let fits : Row → Bool = λ row. list_all (λ p. sum_fits p.0 p.1) (zip kinds row) in
    all-not-any fits (groups kinds a)
    ∙ ap not (list_any-IsPermutation (λ row. not (fits row)) (groups kinds a) (groups kinds b) (groups-same kinds a b h))
    ∙ sym (all-not-any fits (groups kinds b))

-- the fault of a join, by what is wrong with it
abbrev pub fault_by : ℕ → Bool → Bool → Bool → Option RunFault
fault_by number many over sums =
    if many then Some (fault.TooManyRows number)
    else if over then Some (fault.Overflow number)
    else if sums then None
    else Some (fault.AggregateOverflow number)

-- prefixes are counted over what is joined
pub fault-alike : (n seed number : ℕ) (rule : FaultRule) (kinds : Kinds) (s t : Shape) (given others : List PlacedRelation)
    → AreAlike n s t given others
    → AreAlike n s t (joined_items rule.reduce s given) (joined_items rule.reduce t others)
    → shape_fault rule number s kinds (rows_of given) ≡ shape_fault rule number t kinds (rows_of others)
fault-alike n seed number rule kinds s t given others h joined =
    let items = joined_items rule.reduce s given in
    let more = joined_items rule.reduce t others in
    let many = many-alike n seed s t given others h in
    let long : has_long_prefix rule.prefixes s (joined_tables rule.reduce s (rows_of given))
    ≡ has_long_prefix rule.prefixes t (joined_tables rule.reduce t (rows_of others)) =
    ap (has_long_prefix rule.prefixes s) (sym (joined-rows rule.reduce s given))
    ∙ long-alike n seed s t items more joined rule.prefixes
    ∙ ap (has_long_prefix rule.prefixes t) (joined-rows rule.reduce t others) in
    let over = overflow-alike n seed s t given others h in
    let sums = sums-same kinds (listed_of s (rows_of given)) (listed_of t (rows_of others)) (listed-alike n seed s t given others h)
    in
    λ k. fault_by number (many k || long k) (over k) (sums k)

-- ---- joins

values-rows : (v w : Source → PlacedRelation) (sources : List Source) → AreSameValues v w sources
    → SameTables (map (rows_in v) sources) (map (rows_in w) sources)
values-rows v w [] h = no_table
values-rows v w (o ∷ sources) h =
    a_table (rows_in v o) (rows_in w o) (map (rows_in v) sources) (map (rows_in w) sources)
    (All-head (λ o. IsSamePlaced (v o) (w o)) o sources h).rows
    (values-rows v w sources (All-tail (λ o. IsSamePlaced (v o) (w o)) o sources h))

module _ (s : Settings) (rules : ℕ → ShuffleRule) (number : ℕ) (shape : Shape) where
  -- what is listed by the rule of the statement
  abbrev ruled_parts : List PlacedRelation → List Rows
  ruled_parts given = join_parts s.workers s.seed (ruled_shuffle (rules number) s.workers shape (rows_of given)) shape given

  module _ (given others : List PlacedRelation) (h : AreSamePlaced given others) where
    alike : AreAlike s.workers shape shape given others
    alike = same-alike shape s.workers given others h

    shuffles : ruled_shuffle (rules number) s.workers shape (rows_of given) ≡ ruled_shuffle (rules number) s.workers shape (rows_of others)
    shuffles = shuffle-alike s.workers s.seed shape shape given others alike (rules number)

    ruled-parts : SameTables (ruled_parts given) (ruled_parts others)
    ruled-parts =
        subst (λ shuffle. SameTables (ruled_parts given) (join_parts s.workers s.seed shuffle shape others)) shuffles
        (parts-alike s.workers s.seed shape shape given others alike (ruled_shuffle (rules number) s.workers shape (rows_of given)))

    ruled-exchanges : AreSameExchanges s.workers
        (shuffle_exchanges s.workers s.seed (ruled_shuffle (rules number) s.workers shape (rows_of given)) shape given
        (ruled_parts given))
        (shuffle_exchanges s.workers s.seed (ruled_shuffle (rules number) s.workers shape (rows_of others)) shape others
        (ruled_parts others))
    ruled-exchanges =
        subst (λ shuffle. AreSameExchanges s.workers
        (shuffle_exchanges s.workers s.seed (ruled_shuffle (rules number) s.workers shape (rows_of given)) shape given
        (ruled_parts given))
        (shuffle_exchanges s.workers s.seed shuffle shape others (ruled_parts others))) shuffles
        (exchanges-alike s.workers s.seed shape shape given others alike (ruled_parts given) (ruled_parts others) ruled-parts
        (ruled_shuffle (rules number) s.workers shape (rows_of given)))

  joined-same : (given others : List PlacedRelation) → AreSamePlaced given others
      → AreSamePlaced (joined_items s.reduce shape given) (joined_items s.reduce shape others)
  joined-same given others h = joined_are_of_bags s.reduce shape given others h

  listed-same : (given others : List PlacedRelation) → AreSamePlaced given others
      → SameTables (listed_parts (placing_by s rules) number shape given) (listed_parts (placing_by s rules) number shape others)
  listed-same _ _ none_placed =
      ruled-parts (joined_items s.reduce shape []) (joined_items s.reduce shape []) (joined-same [] [] none_placed)
  listed-same _ _ (one_placed p q _ _ h none_placed) =
      tables-map (λ own. listed_of shape (own ∷ [])) (λ own. listed_of shape (own ∷ []))
      (λ a b k. listed_of-same shape (a ∷ []) (b ∷ []) (a_table a b [] [] k no_table))
      p.parts q.parts h.parts
  listed-same _ _ (one_placed p q _ _ h (one_placed r u ps qs k hs)) =
      ruled-parts (joined_items s.reduce shape (p ∷ r ∷ ps)) (joined_items s.reduce shape (q ∷ u ∷ qs))
      (joined-same (p ∷ r ∷ ps) (q ∷ u ∷ qs) (one_placed p q (r ∷ ps) (u ∷ qs) h (one_placed r u ps qs k hs)))

  exchanges-same : (given others : List PlacedRelation) → AreSamePlaced given others
      → AreSameExchanges s.workers (join_exchanges (placing_by s rules) number shape given)
      (join_exchanges (placing_by s rules) number shape others)
  exchanges-same _ _ none_placed =
      ruled-exchanges (joined_items s.reduce shape []) (joined_items s.reduce shape []) (joined-same [] [] none_placed)
  exchanges-same _ _ (one_placed p q _ _ h none_placed) = no_exchange
  exchanges-same _ _ (one_placed p q _ _ h (one_placed r u ps qs k hs)) =
      ruled-exchanges (joined_items s.reduce shape (p ∷ r ∷ ps)) (joined_items s.reduce shape (q ∷ u ∷ qs))
      (joined-same (p ∷ r ∷ ps) (q ∷ u ∷ qs) (one_placed p q (r ∷ ps) (u ∷ qs) h (one_placed r u ps qs k hs)))

-- ---- the other terms

homes-alike : (p q : List PlacedRelation) (s : Settings) (rules : ℕ → ShuffleRule) → AreSamePlaced p q
    → AreSameSendings (map (λ (r : PlacedRelation). to_home (placing_by s rules) whole_row r.parts) p)
    (map (λ (r : PlacedRelation). to_home (placing_by s rules) whole_row r.parts) q)
homes-alike _ _ s rules none_placed = no_sending
homes-alike _ _ s rules (one_placed p q ps qs h hs) =
    a_sending (to_home (placing_by s rules) whole_row p.parts) (to_home (placing_by s rules) whole_row q.parts)
    (map (λ (r : PlacedRelation). to_home (placing_by s rules) whole_row r.parts) ps)
    (map (λ (r : PlacedRelation). to_home (placing_by s rules) whole_row r.parts) qs)
    refl h.parts (homes-alike ps qs s rules hs)

rows-exchanged : (s : Settings) (rules : ℕ → ShuffleRule) (kind : Exchange) (given others : List PlacedRelation) (parts more : List Rows)
    → AreSamePlaced given others → SameTables parts more
    → AreSameExchanges s.workers (row_exchange (placing_by s rules) kind given parts ∷ [])
    (row_exchange (placing_by s rules) kind others more ∷ [])
rows-exchanged s rules kind given others parts more h k =
    an_exchange (row_exchange (placing_by s rules) kind given parts) (row_exchange (placing_by s rules) kind others more) [] []
    (sendings-tell s.workers kind (map (λ (r : PlacedRelation). to_home (placing_by s rules) whole_row r.parts) given)
    (map (λ (r : PlacedRelation). to_home (placing_by s rules) whole_row r.parts) others) (row_counts parts) (row_counts more)
    (homes-alike given others s rules h) (tables-counts parts more k))
    no_exchange

pub partials-exchanged : (s : Settings) (rules : ℕ → ShuffleRule) (kinds : Kinds) (listed others parts more : List Rows) → SameTables listed others
    → SameTables parts more
    → AreSameExchanges s.workers (group_exchange (placing_by s rules) kinds listed parts ∷ [])
    (group_exchange (placing_by s rules) kinds others more ∷ [])
partials-exchanged s rules kinds listed others parts more h k =
    an_exchange (group_exchange (placing_by s rules) kinds listed parts) (group_exchange (placing_by s rules) kinds others more) [] []
    (sendings-tell s.workers exchange.Group (partial_sending (placing_by s rules) kinds listed ∷ [])
    (partial_sending (placing_by s rules) kinds others ∷ []) (row_counts parts) (row_counts more)
    (a_sending (partial_sending (placing_by s rules) kinds listed) (partial_sending (placing_by s rules) kinds others) [] [] refl
    (tables-map (partial_rows kinds) (partial_rows kinds) partials listed others h) no_sending) (tables-counts parts more k))
    no_exchange
  where
    partials : (a b : Rows) → SameBag a b → SameBag (partial_rows kinds a) (partial_rows kinds b)
    partials a b e = IsPermutation-map (split_sums kinds) (groups kinds a) (groups kinds b) (groups-same kinds a b e)

fault-same : (s : Settings) (number : ℕ) (rule : FaultRule) (shape : Shape) (kinds : Kinds) (v w : Source → PlacedRelation)
    (sources : List Source) → AreSameValues v w sources
    → shape_fault rule number shape kinds (map (rows_in v) sources) ≡ shape_fault rule number shape kinds (map (rows_in w) sources)
fault-same s number rule shape kinds v w sources h =
    ap (shape_fault rule number shape kinds) (sym (map-through (λ (p : PlacedRelation). p.relation.rows) v sources))
    ∙ fault-alike s.workers s.seed number rule kinds shape shape (map v sources) (map w sources)
    (same-alike shape s.workers (map v sources) (map w sources) (values-placed v w sources h))
    (same-alike shape s.workers (joined_items rule.reduce shape (map v sources)) (joined_items rule.reduce shape (map w sources))
    (joined_are_of_bags rule.reduce shape (map v sources) (map w sources) (values-placed v w sources h)))
    ∙ ap (shape_fault rule number shape kinds) (map-through (λ (p : PlacedRelation). p.relation.rows) w sources)

pub same-run : (s : Settings) (rules : ℕ → ShuffleRule) (number : ℕ) (v w : Source → PlacedRelation) (t : TermTree) → AreSameValues v w (sources_of t)
    → IsSameRun s rules number v w t
same-run s rules number v w (Same o) h = record {
  parts = (All-head (λ o. IsSamePlaced (v o) (w o)) o [] h).parts;
  exchanges = no_exchange;
  fault = λ rule. refl;
  notes = λ local. refl;
}
same-run s rules number v w Empty h = record {
  parts = tables-itself (by_worker s.workers (λ k. []));
  exchanges = no_exchange;
  fault =
      λ rule. refl;
  notes = λ local. refl;
}
same-run s rules number v w (UnionAll o p) h =
    let one = All-head (λ o. IsSamePlaced (v o) (w o)) o (p ∷ []) h in
    let two = All-head (λ o. IsSamePlaced (v o) (w o)) p [] (All-tail (λ o. IsSamePlaced (v o) (w o)) o (p ∷ []) h) in
    record {
      parts =
          tables-range (λ k. part (v o) k ++ part (v p) k) (λ k. part (w o) k ++ part (w p) k)
          (λ k. IsPermutation-append (part (v o) k) (part (w o) k) (part (v p) k) (part (w p) k)
          (tables-at (v o).parts (w o).parts one.parts k) (tables-at (v p).parts (w p).parts two.parts k))
          0 s.workers;
      exchanges = no_exchange;
      fault = λ rule.
          ap (λ m. if nat_lt most_rows m then Some (fault.TooManyRows number) else None)
          (sym (length_permutation (union_all (rows_in v o) (rows_in v p)) (union_all (rows_in w o) (rows_in w p))
          (union_all-same (rows_in v o) (rows_in w o) (rows_in v p) (rows_in w p) one.rows two.rows)));
      notes = λ local. refl;
    }
same-run s rules number v w (Diff o p) h =
    let one = All-head (λ o. IsSamePlaced (v o) (w o)) o (p ∷ []) h in
    let two = All-head (λ o. IsSamePlaced (v o) (w o)) p [] (All-tail (λ o. IsSamePlaced (v o) (w o)) o (p ∷ []) h) in
    let parts = homes-same s.workers (λ row. home_of s.seed row s.workers) (difference (rows_in v o) (rows_in v p))
    (difference (rows_in w o) (rows_in w p))
    (difference-same (rows_in v o) (rows_in w o) (rows_in v p) (rows_in w p) one.rows two.rows) in
    record {
      parts = parts;
      exchanges =
          rows-exchanged s rules exchange.Diff (v o ∷ v p ∷ []) (w o ∷ w p ∷ []) (term_parts (placing_by s rules) number v (Diff o p))
          (term_parts (placing_by s rules) number w (Diff o p))
          (values-placed v w (o ∷ p ∷ []) h) parts;
      fault = λ rule. refl;
      notes = λ local. refl;
    }
same-run s rules number v w (Distinct o) h =
    let one = All-head (λ o. IsSamePlaced (v o) (w o)) o [] h in
    let parts = homes-same s.workers (λ row. home_of s.seed row s.workers) (distinct (rows_in v o)) (distinct (rows_in w o))
    (distinct-same (rows_in v o) (rows_in w o) one.rows) in
    record {
      parts = parts;
      exchanges =
          rows-exchanged s rules exchange.Distinct (v o ∷ []) (w o ∷ []) (term_parts (placing_by s rules) number v (Distinct o))
          (term_parts (placing_by s rules) number w (Distinct o))
          (values-placed v w (o ∷ []) h) parts;
      fault = λ rule. refl;
      notes = λ local. refl;
    }
same-run s rules number v w (Join shape sources) h =
    let placed = values-placed v w sources h in
    record {
      parts = listed-same s rules number shape (map v sources) (map w sources) placed;
      exchanges = exchanges-same s rules number shape (map v sources) (map w sources) placed;
      fault = λ rule. fault-same s number rule shape [] v w sources h;
      notes = λ local. notes_are_of_bags s rules local number v w (Join shape sources) h;
    }
same-run s rules number v w (Group shape sources kinds) h =
    let placed = values-placed v w sources h in
    let rows = listed_of-same shape (map (rows_in v) sources) (map (rows_in w) sources) (values-rows v w sources h) in
    let parts = homes-same s.workers (λ row. home_of s.seed (key_of kinds row) s.workers)
    (groups kinds (listed_of shape (map (rows_in v) sources)))
    (groups kinds (listed_of shape (map (rows_in w) sources)))
    (groups-same kinds (listed_of shape (map (rows_in v) sources)) (listed_of shape (map (rows_in w) sources)) rows) in
    record {
      parts = parts;
      exchanges =
          exchanges-before s.workers (join_exchanges (placing_by s rules) number shape (map v sources))
          (join_exchanges (placing_by s rules) number shape (map w sources))
          (group_exchange (placing_by s rules) kinds (listed_parts (placing_by s rules) number shape (map v sources))
          (term_parts (placing_by s rules) number v (Group shape sources kinds)) ∷ [])
          (group_exchange (placing_by s rules) kinds (listed_parts (placing_by s rules) number shape (map w sources))
          (term_parts (placing_by s rules) number w (Group shape sources kinds)) ∷ [])
          (exchanges-same s rules number shape (map v sources) (map w sources) placed)
          (partials-exchanged s rules kinds (listed_parts (placing_by s rules) number shape (map v sources))
          (listed_parts (placing_by s rules) number shape (map w sources))
          (term_parts (placing_by s rules) number v (Group shape sources kinds))
          (term_parts (placing_by s rules) number w (Group shape sources kinds))
          (listed-same s rules number shape (map v sources) (map w sources) placed) parts);
      fault = λ rule. fault-same s number rule shape kinds v w sources h;
      notes = λ local. notes_are_of_bags s rules local number v w (Group shape sources kinds) h;
    }

pub terms_are_of_bags : TermsAreOfBags
terms_are_of_bags = same-run
