-- What is listed at each worker doesn't depend on the order of rows.
use Rattle.std.proofs.Common.{◌≡◌, ℕ, zero, suc, ◌+◌, ◌==◌, Bool, List, [], ◌∷◌, ◌++◌, map, length, refl, sym, ◌∙◌, ap, subst}
use Rattle.std.specs.Prelude.{filter, find, unwrap_or, slice_index_or, set}
use Rattle.std.specs.List.{range_with_len, enumerate_from}
use Rattle.std.proofs.lemmas.List.Sorted.{IsPermutation-refl, length_permutation}
use Rattle.rel_base.specs.Bags.{SameBag}
use Rattle.hash_partition.specs.Hashing.{home_of}
use Rattle.myrial_ast.specs.Scalars.{Scalar}
use Rattle.myrial_ast.specs.Combinations.{Row, Rows, listed_from}
use Rattle.myrial_ast.specs.KeptRows.{passes_within, span_of_item, put_at}
use Rattle.bag_laws.specs.Permuted.{SameTables, no_table, a_table}
use Rattle.bag_laws.proofs.RowPermutations.{filter_rows-same, candidates-same, listed_from-same}
use Rattle.algebra.specs.Trees.{Shape}
use Rattle.algebra.specs.Shapes.{widths_of, tests_of, ties_of, tie_test, candidates_of, kept_of, listed_of}
use Rattle.placement.specs.Destinations.{meeting_cell}
use Rattle.placement.specs.Layouts.{PlacedRelation, ByCells, ByKeys, Broadcast, placed_nothing, rows_of, prefix_key, last_atom, is_most, staying_atom, join_parts}
use Rattle.placement.specs.Laws.{AreSamePlaced, none_placed, one_placed, PartsAreBags}

pub rows-same : (ps qs : List PlacedRelation) → AreSamePlaced ps qs → SameTables (rows_of ps) (rows_of qs)
rows-same _ _ none_placed = no_table
rows-same _ _ (one_placed p q ps qs h hs) = a_table p.relation.rows q.relation.rows (rows_of ps) (rows_of qs) h.rows (rows-same ps qs hs)

listed-alike : (arithmetic emits : List Scalar) (home : Row → ℕ) (xs ys : Rows) → SameBag xs ys → (a n : ℕ)
    → SameTables (map (listed_from arithmetic emits) (map (λ w. filter (λ row. home row == w) xs) (range_with_len a n))) (map (listed_from arithmetic emits) (map (λ w. filter (λ row. home row == w) ys) (range_with_len a n)))
listed-alike arithmetic emits home xs ys h a zero = no_table
listed-alike arithmetic emits home xs ys h a (suc n) =
    a_table (listed_from arithmetic emits (filter (λ row. home row == a) xs)) (listed_from arithmetic emits (filter (λ row. home row == a) ys))
    (map (listed_from arithmetic emits) (map (λ w. filter (λ row. home row == w) xs) (range_with_len (a + 1) n))) (map (listed_from arithmetic emits) (map (λ w. filter (λ row. home row == w) ys) (range_with_len (a + 1) n)))
    (listed_from-same arithmetic emits (filter (λ row. home row == a) xs) (filter (λ row. home row == a) ys) (filter_rows-same (λ row. home row == a) xs ys h))
    (listed-alike arithmetic emits home xs ys h (a + 1) n)

sizes-same : (shape : Shape) (i : ℕ) (ts us : List Rows) → SameTables ts us
    → map (λ (e : ℕ × Rows). length (kept_of shape e.0 e.1)) (enumerate_from i ts) ≡ map (λ (e : ℕ × Rows). length (kept_of shape e.0 e.1)) (enumerate_from i us)
sizes-same shape i _ _ no_table = refl
sizes-same shape i _ _ (a_table rows others tables rest h hs) =
    let passes : Row → Bool = λ row. passes_within (tests_of shape) (ties_of shape) (span_of_item (widths_of shape) i) (put_at (span_of_item (widths_of shape) i).from row) in
    let here : length (kept_of shape i others) ≡ length (kept_of shape i rows) = length_permutation (kept_of shape i rows) (kept_of shape i others) (filter_rows-same passes rows others h) in
    ap (λ n. n ∷ map (λ (e : ℕ × Rows). length (kept_of shape e.0 e.1)) (enumerate_from (i + 1) tables)) (sym here)
    ∙ ap (λ ns. length (kept_of shape i others) ∷ ns) (sizes-same shape (i + 1) tables rest hs)

lengths-same : (ts us : List Rows) → SameTables ts us → length ts ≡ length us
lengths-same _ _ no_table = refl
lengths-same _ _ (a_table rows others tables rest h hs) = ap suc (lengths-same tables rest hs)

stays-same : (shape : Shape) (ts us : List Rows) → SameTables ts us → staying_atom shape ts ≡ staying_atom shape us
stays-same shape ts us h =
    ap (λ sizes. unwrap_or (find (is_most sizes) (range_with_len 0 (length ts))) 0) (sizes-same shape 0 ts us h)
    ∙ ap (λ n. unwrap_or (find (is_most (map (λ (e : ℕ × Rows). length (kept_of shape e.0 e.1)) (enumerate_from 0 us))) (range_with_len 0 n)) 0) (lengths-same ts us h)

nothing-same : (n : ℕ) → SameTables (placed_nothing n).parts (placed_nothing n).parts
nothing-same n = itself (placed_nothing n).parts
  where
    itself : (ts : List Rows) → SameTables ts ts
    itself [] = no_table
    itself (rows ∷ ts) = a_table rows rows ts ts (IsPermutation-refl rows) (itself ts)

parts-same : (n : ℕ) (ps qs : List PlacedRelation) → AreSamePlaced ps qs → (j : ℕ) → SameTables (slice_index_or ps j (placed_nothing n)).parts (slice_index_or qs j (placed_nothing n)).parts
parts-same n _ _ none_placed j = nothing-same n
parts-same n _ _ (one_placed p q ps qs h hs) zero = h.parts
parts-same n _ _ (one_placed p q ps qs h hs) (suc j) = parts-same n ps qs hs j

set-same : (ts us : List Rows) → SameTables ts us → (j : ℕ) (a b : Rows) → SameBag a b → SameTables (set ts j a) (set us j b)
set-same _ _ no_table j a b k = no_table
set-same _ _ (a_table rows others tables rest h hs) zero a b k = a_table a b tables rest k hs
set-same _ _ (a_table rows others tables rest h hs) (suc j) a b k = a_table rows others (set tables j a) (set rest j b) h (set-same tables rest hs j a b k)

candidates_of-same : (shape : Shape) (ts us : List Rows) → SameTables ts us → SameBag (candidates_of shape ts) (candidates_of shape us)
candidates_of-same shape ts us h = candidates-same (tests_of shape ++ map tie_test (ties_of shape)) ts us h

cut-same : (shape : Shape) (ts us : List Rows) → SameTables ts us → (j : ℕ) (xs ys : List Rows) → SameTables xs ys
    → SameTables (map (λ own. listed_of shape (set ts j own)) xs) (map (λ own. listed_of shape (set us j own)) ys)
cut-same shape ts us h j _ _ no_table = no_table
cut-same shape ts us h j _ _ (a_table rows others tables rest k ks) =
    a_table (listed_of shape (set ts j rows)) (listed_of shape (set us j others)) (map (λ own. listed_of shape (set ts j own)) tables) (map (λ own. listed_of shape (set us j own)) rest)
    (listed_from-same shape.arith shape.emits (candidates_of shape (set ts j rows)) (candidates_of shape (set us j others))
    (candidates_of-same shape (set ts j rows) (set us j others) (set-same ts us h j rows others k)))
    (cut-same shape ts us h j tables rest ks)

pub parts_are_bags : PartsAreBags
parts_are_bags n seed (ByCells shares) shape given others h =
    listed-alike shape.arith shape.emits (meeting_cell seed shares shape) (candidates_of shape (rows_of given)) (candidates_of shape (rows_of others))
    (candidates_of-same shape (rows_of given) (rows_of others) (rows-same given others h)) 0 n
parts_are_bags n seed ByKeys shape given others h =
    listed-alike shape.arith shape.emits (λ row. home_of seed (prefix_key shape (last_atom shape) row) n) (candidates_of shape (rows_of given)) (candidates_of shape (rows_of others))
    (candidates_of-same shape (rows_of given) (rows_of others) (rows-same given others h)) 0 n
parts_are_bags n seed Broadcast shape given others h =
    let rows = rows-same given others h in
    subst (λ j. SameTables (join_parts n seed Broadcast shape given) (map (λ own. listed_of shape (set (rows_of others) j own)) (slice_index_or others j (placed_nothing n)).parts))
    (stays-same shape (rows_of given) (rows_of others) rows)
    (cut-same shape (rows_of given) (rows_of others) rows (staying_atom shape (rows_of given)) (slice_index_or given (staying_atom shape (rows_of given)) (placed_nothing n)).parts (slice_index_or others (staying_atom shape (rows_of given)) (placed_nothing n)).parts
    (parts-same n given others h (staying_atom shape (rows_of given))))
