-- By broadcast, a worker lists what its own part and what it is given make.
use Rattle.std.proofs.Common.{◌≡◌, ℕ, zero, suc, ◌+◌, ◌<◌, ◌≤◌, ◌==◌, Bool, true, false, cond, List, [], ◌∷◌, ◌++◌, map, length, refl, sym, ◌∙◌, ap, subst, arith}
use Rattle.std.specs.Prelude.{filter, All, slice_index_or, set, ◌||◌, IsTrue}
use Rattle.std.specs.List.{enumerate_from, range_with_len, list_any}
use Rattle.std.proofs.lemmas.Bool.Decides.{nat_tests}
use Rattle.std.proofs.lemmas.List.{length-map, length-set}
use Rattle.std.proofs.lemmas.List.Elements.{All-nil, All-cons, All-head, All-tail}
use Rattle.std.proofs.lemmas.List.FromFn.{length-enumerate_from}
use Rattle.std.proofs.lemmas.List.Sorted.{All-permutation}
use Rattle.rel_base.specs.Bags.{SameBag}
use Rattle.myrial_ast.specs.Combinations.{Row, Rows}
use Rattle.bag_laws.specs.Permuted.{SameTables, no_table, a_table}
use Rattle.bag_laws.proofs.RowPermutations.{candidates-same}
use Rattle.algebra.specs.Trees.{Shape}
use Rattle.algebra.specs.Shapes.{widths_of, tests_of, ties_of, tie_test, candidates_of, kept_of}
use Rattle.algebra.specs.ShapeConditions.{all_different}
use Rattle.placement.specs.Exchanges.{kept_parts, by_broadcast}
use Rattle.placement.specs.Layouts.{PlacedRelation, placed_nothing, part, rows_of, staying_atom, together}
use Rattle.placement.specs.Laws.{IsPlaced, AreWide}
use Rattle.row_exchange.specs.Moves.{Sending}
use Rattle.placement.specs.Receiving.{GoesOnce, sent_to, BroadcastsListWhatTheyAreGiven}
use Rattle.placement.proofs.BalanceLemmas.{all-workers}
use Rattle.placement.proofs.KeptLemmas.{candidates_are_kept}
use Rattle.placement.proofs.ReceivedLemmas.{kept-received, kept_tables, given-items}
use Rattle.placement.proofs.ScriptLemmas.{All-made}
use Rattle.placement.proofs.TogetherLemmas.{same_list}

-- ---- who is among the workers

range-has : (w a n : ℕ) → a ≤ w → w < a + n → list_any (λ c. c == w) (range_with_len a n) ≡ true
range-has w a zero l m = absurd (omega (arith, l, m))
range-has w a (suc n) l m = by (a == w) refl (λ k. range-has w (a + 1) n k (omega (arith, m)))
  where
    by : (b : Bool) → (a == w) ≡ b → (a + 1 ≤ w → list_any (λ c. c == w) (range_with_len (a + 1) n) ≡ true) → (b || list_any (λ c. c == w) (range_with_len (a + 1) n)) ≡ true
    by true e rest = refl
    by false e rest = rest (grind (arith, nat_tests, e, l))

filter-all : (rows : Rows) → filter (λ row. true) rows ≡ rows
filter-all [] = refl
filter-all (row ∷ rows) = ap (λ rs. row ∷ rs) (filter-all rows)

-- ---- item by item

abbrev sending_for : ℕ → Shape → ℕ → ℕ → PlacedRelation → Sending
sending_for n shape j i p = record { parts = kept_parts shape i p; goes_to = λ row. cond (i == j) [] (range_with_len 0 n) }

all-received : (n : ℕ) (shape : Shape) (j i : ℕ) (p : PlacedRelation) (w : ℕ) → w < n → IsPlaced n p → (i == j) ≡ false
    → SameBag (sent_to (sending_for n shape j i p) w) (kept_of shape i p.relation.rows)
all-received n shape j i p w low placed e =
    subst (λ rows. SameBag (sent_to (sending_for n shape j i p) w) rows) all (kept-received n shape i p (λ row. cond (i == j) [] (range_with_len 0 n)) w placed)
  where
    test : list_any (λ c. c == w) (cond (i == j) [] (range_with_len 0 n)) ≡ true
    test = ap (λ b. list_any (λ c. c == w) (cond b [] (range_with_len 0 n))) e ∙ range-has w 0 n (omega arith) (omega (arith, low))

    all : filter (λ row. list_any (λ c. c == w) (cond (i == j) [] (range_with_len 0 n))) (kept_of shape i p.relation.rows) ≡ kept_of shape i p.relation.rows
    all = ap (λ b. filter (λ (row : Row). b) (kept_of shape i p.relation.rows)) test ∙ filter-all (kept_of shape i p.relation.rows)

module _ (n : ℕ) (shape : Shape) (w : ℕ) (low : w < n) where
  abbrev sent_all : ℕ → ℕ → List PlacedRelation → List Rows
  sent_all j i items = map (λ s. sent_to s w) (map (λ (e : ℕ × PlacedRelation). sending_for n shape j e.0 e.1) (enumerate_from i items))

  others-received : (j i : ℕ) (items : List PlacedRelation) → j < i → All (IsPlaced n) items → SameTables (sent_all j i items) (kept_tables shape i (rows_of items))
  others-received j i [] l all = no_table
  others-received j i (p ∷ items) l all =
      a_table (sent_to (sending_for n shape j i p) w) (kept_of shape i p.relation.rows) (sent_all j (i + 1) items) (kept_tables shape (i + 1) (rows_of items))
      (all-received n shape j i p w low (All-head (IsPlaced n) p items all) (differ i j l)) (others-received j (i + 1) items (omega (arith, l)) (All-tail (IsPlaced n) p items all))
    where
      differ : (i j : ℕ) → j < i → (i == j) ≡ false
      differ i j l = grind (arith, nat_tests, l)

  -- with a worker's own part in place of the item that stays
  own-received : (j i k : ℕ) (items : List PlacedRelation) → j ≡ i + k → All (IsPlaced n) items
      → SameTables (set (sent_all j i items) k (kept_of shape j (part (slice_index_or items k (placed_nothing n)) w)))
      (kept_tables shape i (set (rows_of items) k (part (slice_index_or items k (placed_nothing n)) w)))
  own-received j i k [] e all = no_table
  own-received j i zero (p ∷ items) e all =
      a_table (kept_of shape j (part p w)) (kept_of shape i (part p w)) (sent_all j (i + 1) items) (kept_tables shape (i + 1) (rows_of items))
      (same_list (kept_of shape j (part p w)) (kept_of shape i (part p w)) (ap (λ m. kept_of shape m (part p w)) (equal i j e)))
      (others-received j (i + 1) items (omega (arith, e)) (All-tail (IsPlaced n) p items all))
    where
      equal : (i j : ℕ) → j ≡ i + 0 → j ≡ i
      equal i j e = omega (arith, e)
  own-received j i (suc k) (p ∷ items) e all =
      a_table (sent_to (sending_for n shape j i p) w) (kept_of shape i p.relation.rows)
      (set (sent_all j (i + 1) items) k (kept_of shape j (part (slice_index_or items k (placed_nothing n)) w)))
      (kept_tables shape (i + 1) (set (rows_of items) k (part (slice_index_or items k (placed_nothing n)) w)))
      (all-received n shape j i p w low (All-head (IsPlaced n) p items all) (differ i j k e)) (own-received j (i + 1) k items (omega (arith, e)) (All-tail (IsPlaced n) p items all))
    where
      differ : (i j k : ℕ) → j ≡ i + suc k → (i == j) ≡ false
      differ i j k e = grind (arith, nat_tests, e)

-- ---- widths

All-split : (P : Row → Type 0) (xs ys : Rows) → All P (xs ++ ys) → All P xs × All P ys
All-split P [] ys all = (All-nil P, all)
All-split P (x ∷ xs) ys all =
    let rest = All-split P xs ys (All-tail P x (xs ++ ys) all) in
    (All-cons P x xs (All-head P x (xs ++ ys) all) rest.0, rest.1)

part-all : (P : Row → Type 0) (parts : List Rows) (w : ℕ) → All P (together parts) → All P (slice_index_or parts w [])
part-all P [] w all = All-nil P
part-all P (rows ∷ parts) zero all = (All-split P rows (together parts) all).0
part-all P (rows ∷ parts) (suc w) all = part-all P parts w (All-split P rows (together parts) all).1

cut-wide : (n w : ℕ) (widths : List ℕ) (items : List PlacedRelation) (j : ℕ) → All (IsPlaced n) items → AreWide widths (rows_of items)
    → AreWide widths (set (rows_of items) j (part (slice_index_or items j (placed_nothing n)) w))
cut-wide n w widths [] j all h = h
cut-wide n w [] (p ∷ items) j all h = absurd h
cut-wide n w (width ∷ widths) (p ∷ items) zero all h =
    (part-all (λ row. length row ≡ width) p.parts w (All-permutation (λ row. length row ≡ width) p.relation.rows (together p.parts) (All-head (IsPlaced n) p items all).all_rows h.0), h.1)
cut-wide n w (width ∷ widths) (p ∷ items) (suc j) all h = (h.0, cut-wide n w widths items j (All-tail (IsPlaced n) p items all) h.1)

broadcast-once : (n : ℕ) (shape : Shape) (items : List PlacedRelation) → All GoesOnce (by_broadcast n shape items)
broadcast-once n shape items =
    let j = staying_atom shape (rows_of items) in
    All-made GoesOnce (λ (e : ℕ × PlacedRelation). sending_for n shape j e.0 e.1) (λ e row. by (e.0 == j)) (enumerate_from 0 items)
  where
    by : (b : Bool) → IsTrue (all_different (cond b [] (range_with_len 0 n)))
    by true = refl
    by false = (all-workers n).1

pub broadcasts_list_what_they_are_given : BroadcastsListWhatTheyAreGiven
broadcasts_list_what_they_are_given n shape items all wide many w low =
    let j = staying_atom shape (rows_of items) in
    let own = part (slice_index_or items j (placed_nothing n)) w in
    let cut = set (rows_of items) j own in
    let sendings = by_broadcast n shape items in
    let long : length sendings ≡ length items = length-map (enumerate_from 0 items) (λ (e : ℕ × PlacedRelation). sending_for n shape j e.0 e.1) ∙ length-enumerate_from 0 items in
    let has = set (map (λ s. sent_to s w) sendings) j (kept_of shape j own) in
    subst (λ tables. SameBag (candidates_of shape (set tables j (kept_of shape j own))) (candidates_of shape cut)) (sym (given-items sendings (length items) w long (broadcast-once n shape items)))
    (subst (λ rows. SameBag (candidates_of shape has) rows)
    (candidates_are_kept shape cut (cut-wide n w (widths_of shape) items j all wide) (length-set (rows_of items) j own ∙ length-map items (λ (p : PlacedRelation). p.relation.rows) ∙ many))
    (candidates-same (tests_of shape ++ map tie_test (ties_of shape)) has (kept_tables shape 0 cut) (own-received n shape w low j 0 j items (omega arith) all)))
