-- The traffic of a checked script has both numbers of each worker.
use Rattle.std.proofs.Common.{◌≡◌, ◌∙◌, sym, ℕ, suc, ◌-◌, ◌==◌, Bool, true, false, cond, List, [], ◌∷◌, length, map}
use Rattle.std.specs.Prelude.{All, IsTrue, filter, set, slice_index_or, ⊤}
use Rattle.std.specs.List.{range_with_len}
use Rattle.std.proofs.lemmas.List.{length-map}
use Rattle.std.proofs.lemmas.List.Elements.{All-append, All-cons, All-head, All-nil, All-tail}
use Rattle.std.proofs.lemmas.List.FromFn.{length-map-range_with_len}
use Rattle.rel_base.specs.Keys.{File}
use Rattle.myrial_ast.specs.Combinations.{Row, Rows, listed_from}
use Rattle.algebra.specs.declared.notes.Exchange.TheVariants as exchange
use Rattle.algebra.specs.declared.terms.Source.{Source}
use Rattle.algebra.specs.Conditions.{is_of}
use Rattle.algebra.specs.Meanings.{needed_steps}
use Rattle.algebra.specs.Rewriting.{AreTyped}
use Rattle.algebra.specs.Shapes.{candidates_of, kept_of, listed_of, prefix_of}
use Rattle.algebra.specs.Trees.{Shape, TermTree, Same, Empty, UnionAll, Diff, Distinct, Join, Group, StepTree, CheckedTree}
use Rattle.hash_partition.specs.Hashing.{home_of}
use Rattle.placement.specs.Destinations.{meeting_cell}
use Rattle.placement.specs.Exchanges.{PlacedExchange, broadcast_exchange, cells_exchange, exchanges_of, group_exchange, join_exchanges, kept_parts, key_exchange, prefix_parts, row_counts, row_exchange, shuffle_exchanges, term_exchanges, traffic_note, traffic_of}
use Rattle.placement.specs.Laws.{IsPlaced, IsPlacing}
use Rattle.placement.specs.Layouts.{PlacedRelation, placed_nothing, Placing, Shuffle, ByCells, ByKeys, Broadcast, joined_items, join_parts, last_atom, listed_parts, parts_by_home, placed_source, placed_steps, prefix_key, rows_of, staying_atom, term_parts}
use Rattle.row_exchange.specs.Moves.{received}
use Rattle.placement.proofs.CellLemmas.{All-flat_map}
use Rattle.placement.proofs.JoinedLemmas.{joined_are_joined}
use Rattle.placement.proofs.ScriptLemmas.{All-made, found-IsPlaced, get_or-All, nothing_IsPlaced, steps-IsPlaced}
use Rattle.plan_printer.specs.TrafficTexts.{IsWhole}

-- an exchange has a number of listed rows for each worker
abbrev IsLong : ℕ → PlacedExchange → Type 0
IsLong n e = length e.listed ≡ n

counts-long : (n : ℕ) (parts : List Rows) → length parts ≡ n → length (row_counts parts) ≡ n
counts-long n parts long = length-map parts (λ rows. length rows) ∙ long

by_home-long : (n : ℕ) (home : Row → ℕ) (rows : Rows) → length (parts_by_home n home rows) ≡ n
by_home-long n home rows = length-map-range_with_len (λ w. filter (λ row. home row == w) rows) 0 n

placed-long : (n i : ℕ) (given : List PlacedRelation) → All (IsPlaced n) given → length (slice_index_or given i (placed_nothing n)).parts ≡ n
placed-long n i given all = (get_or-All (IsPlaced n) given i (placed_nothing n) (nothing_IsPlaced n) all).each_worker

-- ---- joins

joined-long : (n seed : ℕ) (how : Shuffle) (shape : Shape) (given : List PlacedRelation) → All (IsPlaced n) given
    → length (join_parts n seed how shape given) ≡ n
joined-long n seed (ByCells shares) shape given all =
    length-map (parts_by_home n (meeting_cell seed shares shape) (candidates_of shape (rows_of given))) (listed_from shape.arith shape.emits)
    ∙ by_home-long n (meeting_cell seed shares shape) (candidates_of shape (rows_of given))
joined-long n seed ByKeys shape given all =
    let home : Row → ℕ = λ row. home_of seed (prefix_key shape (last_atom shape) row) n in
    length-map (parts_by_home n home (candidates_of shape (rows_of given))) (listed_from shape.arith shape.emits)
    ∙ by_home-long n home (candidates_of shape (rows_of given))
joined-long n seed Broadcast shape given all =
    let j = staying_atom shape (rows_of given) in
    length-map (slice_index_or given j (placed_nothing n)).parts (λ own. listed_of shape (set (rows_of given) j own))
    ∙ placed-long n j given all

prefix-long : (n seed : ℕ) (shape : Shape) (given : List PlacedRelation) → All (IsPlaced n) given → (i : ℕ)
    → length (prefix_parts n seed shape given i) ≡ n
prefix-long n seed shape given all i = by (i == 1)
  where
    dealt : List Rows
    dealt = parts_by_home n (λ row. home_of seed (prefix_key shape (i - 1) row) n) (prefix_of shape i (rows_of given))

    by : (b : Bool) → length (cond b (kept_parts shape 0 (slice_index_or given 0 (placed_nothing n))) dealt) ≡ n
    by true =
        length-map (slice_index_or given 0 (placed_nothing n)).parts (kept_of shape 0) ∙ placed-long n 0 given all
    by false = by_home-long n (λ row. home_of seed (prefix_key shape (i - 1) row) n) (prefix_of shape i (rows_of given))

key-long : (n seed : ℕ) (shape : Shape) (given : List PlacedRelation) (parts : List Rows) → All (IsPlaced n) given
    → length parts ≡ n → (i : ℕ) → IsLong n (key_exchange n seed shape given parts i)
key-long n seed shape given parts all long i = by (suc i == length given)
  where
    by : (b : Bool) → length (row_counts (cond b parts (prefix_parts n seed shape given (suc i)))) ≡ n
    by true = counts-long n parts long
    by false = counts-long n (prefix_parts n seed shape given (suc i)) (prefix-long n seed shape given all (suc i))

shuffle-long : (n seed : ℕ) (how : Shuffle) (shape : Shape) (given : List PlacedRelation) (parts : List Rows)
    → All (IsPlaced n) given → length parts ≡ n → All (IsLong n) (shuffle_exchanges n seed how shape given parts)
shuffle-long n seed (ByCells shares) shape given parts all long =
    All-cons (IsLong n) (cells_exchange seed shares shape given parts) [] (counts-long n parts long) (All-nil (IsLong n))
shuffle-long n seed Broadcast shape given parts all long =
    All-cons (IsLong n) (broadcast_exchange n shape given parts) [] (counts-long n parts long) (All-nil (IsLong n))
shuffle-long n seed ByKeys shape given parts all long =
    All-made (IsLong n) (key_exchange n seed shape given parts) (key-long n seed shape given parts all long)
    (range_with_len 1 (length given - 1))

module _ (p : Placing) (number : ℕ) (shape : Shape) (good : IsPlacing p) where
  listed-long : (given : List PlacedRelation) → All (IsPlaced p.workers) given → length (listed_parts p number shape given) ≡ p.workers
  listed-long [] all =
      let items = joined_items p.reduce shape [] in
      joined-long p.workers p.seed (p.shuffle number shape (rows_of items)) shape items ((joined_are_joined p.workers p.reduce shape []).placed all)
  listed-long (one ∷ []) all =
      length-map one.parts (λ own. listed_of shape (own ∷ [])) ∙ (All-head (IsPlaced p.workers) one [] all).each_worker
  listed-long (one ∷ two ∷ more) all =
      let items = joined_items p.reduce shape (one ∷ two ∷ more) in
      joined-long p.workers p.seed (p.shuffle number shape (rows_of items)) shape items ((joined_are_joined p.workers p.reduce shape (one ∷ two ∷ more)).placed all)

  join-long : (given : List PlacedRelation) → All (IsPlaced p.workers) given → All (IsLong p.workers) (join_exchanges p number shape given)
  join-long [] all =
      let items = joined_items p.reduce shape [] in
      shuffle-long p.workers p.seed (p.shuffle number shape (rows_of items)) shape items (listed_parts p number shape [])
      ((joined_are_joined p.workers p.reduce shape []).placed all) (listed-long [] all)
  join-long (one ∷ []) all = All-nil (IsLong p.workers)
  join-long (one ∷ two ∷ more) all =
      let given = one ∷ two ∷ more in
      let items = joined_items p.reduce shape given in
      shuffle-long p.workers p.seed (p.shuffle number shape (rows_of items)) shape items (listed_parts p number shape given)
      ((joined_are_joined p.workers p.reduce shape given).placed all) (listed-long given all)

-- ---- scripts

term-long : (p : Placing) (number : ℕ) (value : Source → PlacedRelation) (t : TermTree) → IsPlacing p
    → ((o : Source) → IsPlaced p.workers (value o)) → All (IsLong p.workers) (term_exchanges p number value t)
term-long p number value (Same s) good placed = All-nil (IsLong p.workers)
term-long p number value Empty good placed = All-nil (IsLong p.workers)
term-long p number value (UnionAll s t) good placed = All-nil (IsLong p.workers)
term-long p number value (Diff s t) good placed =
    let parts = term_parts p number value (Diff s t) in
    All-cons (IsLong p.workers) (row_exchange p exchange.Diff (value s ∷ value t ∷ []) parts) []
    (counts-long p.workers parts (by_home-long p.workers _ _)) (All-nil (IsLong p.workers))
term-long p number value (Distinct s) good placed =
    let parts = term_parts p number value (Distinct s) in
    All-cons (IsLong p.workers) (row_exchange p exchange.Distinct (value s ∷ []) parts) []
    (counts-long p.workers parts (by_home-long p.workers _ _)) (All-nil (IsLong p.workers))
term-long p number value (Join shape given) good placed =
    join-long p number shape good (map value given) (All-made (IsPlaced p.workers) value placed given)
term-long p number value (Group shape given kinds) good placed =
    let items = map value given in
    let parts = term_parts p number value (Group shape given kinds) in
    let group = group_exchange p kinds (listed_parts p number shape items) parts in
    All-append (IsLong p.workers) (join_exchanges p number shape items) (group ∷ [])
    (join-long p number shape good items (All-made (IsPlaced p.workers) value placed given))
    (All-cons (IsLong p.workers) group [] (counts-long p.workers parts (by_home-long p.workers _ _)) (All-nil (IsLong p.workers)))

-- what holds of a list's items holds of what is made of them
All-map : {X Y : Type 0} (P : X → Type 0) (Q : Y → Type 0) (f : X → Y) → ((x : X) → P x → Q (f x)) → (xs : List X) → All P xs
    → All Q (map f xs)
All-map P Q f made [] all = All-nil Q
All-map P Q f made (x ∷ xs) all =
    All-cons Q (f x) (map f xs) (made x (All-head P x xs all)) (All-map P Q f made xs (All-tail P x xs all))

abbrev Numbered : Type 0
Numbered = ℕ × PlacedExchange

pub traffic-whole : (p : Placing) (files : List File) (c : CheckedTree) → IsPlacing p → IsTrue (is_of files c) → AreTyped files
    → All IsWhole (traffic_of p files c)
traffic-whole p files c good of_files typed =
    let results = placed_steps p files c.steps in
    let all = steps-IsPlaced p files c good of_files typed in
    let long : All (λ (e : Numbered). IsLong p.workers e.1) (exchanges_of p files c) =
    All-flat_map (λ (e : Numbered). IsLong p.workers e.1)
    (λ (s : StepTree). map (λ e. (s.statement, e)) (term_exchanges p s.statement (placed_source p files results) s.term))
    (λ (s : StepTree). ⊤)
    (λ s any. All-map (IsLong p.workers) (λ (e : Numbered). IsLong p.workers e.1) (λ e. (s.statement, e)) (λ e h. h)
    (term_exchanges p s.statement (placed_source p files results) s.term)
    (term-long p s.statement (placed_source p files results) s.term good (found-IsPlaced p files results good all)))
    (needed_steps c.stores c.steps) (anything (needed_steps c.stores c.steps)) in
    All-map (λ (e : Numbered). IsLong p.workers e.1) IsWhole (traffic_note p.workers)
    (λ e h. length-map-range_with_len (received e.1.moves) 0 p.workers ∙ sym h) (exchanges_of p files c) long
  where
    anything : {X : Type 0} (xs : List X) → All (λ x. ⊤) xs
    anything xs = λ i d l. tt
