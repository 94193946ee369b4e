-- Each step leaves a list for each worker, and all of them together are its rows.
use Rattle.std.proofs.Common.{◌≡◌, ℕ, zero, suc, ◌+◌, ◌%◌, ◌<◌, ◌≤◌, ◌==◌, Bool, List, [], ◌∷◌, ◌++◌, map, length, refl, sym, ◌∙◌, ap, subst, arith}
use Rattle.std.specs.Prelude.{IsPermutation, filter, slice_index_or, set}
use Rattle.std.specs.List.{flat_map, range_with_len, enumerate_from}
use Rattle.std.proofs.lemmas.Nat.{mod_below}
use Rattle.std.proofs.lemmas.List.{map-append, append_assoc}
use Rattle.std.proofs.lemmas.List.Concat.{flat_map-append}
use Rattle.std.proofs.lemmas.List.Elements.{filter-append}
use Rattle.std.proofs.lemmas.List.Folds.{flat_map-map}
use Rattle.std.proofs.lemmas.List.FromFn.{length-map-range_with_len, fill_by_all}
use Rattle.std.proofs.lemmas.List.Sorted.{IsPermutation-refl, IsPermutation-sym, IsPermutation-trans, IsPermutation-map, IsPermutation-append, IsPermutation-append_right, IsPermutation-append_comm}
use Rattle.rel_base.specs.Bags.{SameBag}
use Rattle.rel_base.specs.Relations.{RelationState}
use Rattle.myrial_ast.specs.Scalars.{Scalar}
use Rattle.myrial_ast.specs.Combinations.{Row, Rows, all_hold, combined_row, combined_rows, combinations, candidates, listed_from}
use Rattle.bag_laws.proofs.RowPermutations.{flat_map-each, filter_rows-same, union_all-same, listed_from-same}
use Rattle.algebra.specs.Trees.{Shape}
use Rattle.algebra.specs.Shapes.{tests_of, ties_of, tie_test, listed_of}
use Rattle.placement.specs.Layouts.{PlacedRelation, by_worker, part, together, placed_file}
use Rattle.placement.specs.Laws.{IsPlaced}
use Rattle.placement.proofs.TogetherLemmas.{homes-together, listed_from-append, same_list}
use Rattle.row_exchange.proofs.MoveLemmas.{map-flat_map}

-- ---- lists for each worker

-- what is made of both is, together, what is made of the one and of the other
both_together : {X Y : Type 0} (f g : Y → List X) (ws : List Y) → IsPermutation (flat_map f ws ++ flat_map g ws) (flat_map (λ w. f w ++ g w) ws)
both_together f g [] = IsPermutation-refl []
both_together {X} f g (w ∷ ws) =
    subst (λ xs. IsPermutation xs (flat_map (λ w. f w ++ g w) (w ∷ ws))) (sym (grouped (f w) (flat_map f ws) (g w) (flat_map g ws)))
    (IsPermutation-trans (f w ++ (flat_map f ws ++ (g w ++ flat_map g ws))) (f w ++ (g w ++ (flat_map f ws ++ flat_map g ws))) ((f w ++ g w) ++ flat_map (λ w. f w ++ g w) ws)
    (IsPermutation-append_right (f w) (flat_map f ws ++ (g w ++ flat_map g ws)) (g w ++ (flat_map f ws ++ flat_map g ws)) (turned (flat_map f ws) (g w) (flat_map g ws)))
    (subst (λ xs. IsPermutation (f w ++ (g w ++ (flat_map f ws ++ flat_map g ws))) xs) (sym (append_assoc (f w) (g w) (flat_map (λ w. f w ++ g w) ws)))
    (IsPermutation-append_right (f w) (g w ++ (flat_map f ws ++ flat_map g ws)) (g w ++ flat_map (λ w. f w ++ g w) ws)
    (IsPermutation-append_right (g w) (flat_map f ws ++ flat_map g ws) (flat_map (λ w. f w ++ g w) ws) (both_together f g ws)))))
  where
    grouped : (a b c d : List X) → (a ++ b) ++ (c ++ d) ≡ a ++ (b ++ (c ++ d))
    grouped a b c d = append_assoc a b (c ++ d)

    turned : (a b c : List X) → IsPermutation (a ++ (b ++ c)) (b ++ (a ++ c))
    turned a b c =
        subst (λ xs. IsPermutation xs (b ++ (a ++ c))) (append_assoc a b c)
        (subst (λ xs. IsPermutation ((a ++ b) ++ c) xs) (append_assoc b a c)
        (IsPermutation-append (a ++ b) (b ++ a) c c (IsPermutation-append_comm a b) (IsPermutation-refl c)))

-- the lists are what stands at each place of them
each_part : (n : ℕ) (parts : List Rows) → length parts ≡ n → parts ≡ by_worker n (λ w. slice_index_or parts w [])
each_part n parts e = fill_by_all (λ w. slice_index_or parts w []) parts n [] e (λ k l. refl)

pub together-parts : (n : ℕ) (parts : List Rows) → length parts ≡ n → together parts ≡ flat_map (λ w. slice_index_or parts w []) (range_with_len 0 n)
together-parts n parts e =
    ap together (each_part n parts e) ∙ flat_map-map (λ (r : Rows). r) (λ w. slice_index_or parts w []) (range_with_len 0 n)

-- ---- files

seconds : {X : Type 0} (i : ℕ) (xs : List X) → map (λ (e : ℕ × X). e.1) (enumerate_from i xs) ≡ xs
seconds i [] = refl
seconds i (x ∷ xs) = ap (λ ys. x ∷ ys) (seconds (i + 1) xs)

pub file-IsPlaced : (n : ℕ) (t : RelationState) → 1 ≤ n → IsPlaced n (placed_file n t)
file-IsPlaced n t some = record {
  each_worker = length-map-range_with_len (λ w. map (λ (e : ℕ × Row). e.1) (filter (λ e. e.0 % n == w) (enumerate_from 0 t.rows))) 0 n;
  all_rows =
      subst (λ xs. SameBag xs (together (placed_file n t).parts)) (seconds 0 t.rows)
      (subst (λ xs. SameBag (map (λ (e : ℕ × Row). e.1) (enumerate_from 0 t.rows)) xs)
      (map-flat_map (λ (e : ℕ × Row). e.1) (λ w. filter (λ e. e.0 % n == w) (enumerate_from 0 t.rows)) (range_with_len 0 n)
      ∙ sym (flat_map-map (λ (r : Rows). r) (λ w. map (λ (e : ℕ × Row). e.1) (filter (λ e. e.0 % n == w) (enumerate_from 0 t.rows))) (range_with_len 0 n)))
      (IsPermutation-map (λ (e : ℕ × Row). e.1) (enumerate_from 0 t.rows) (flat_map (λ w. filter (λ e. e.0 % n == w) (enumerate_from 0 t.rows)) (range_with_len 0 n))
      (homes-together (λ (e : ℕ × Row). e.0 % n) n (λ e. mod_below e.0 n (omega arith)) (enumerate_from 0 t.rows))));
}

-- ---- unionall

pub union-together : (n : ℕ) (a b : PlacedRelation) → IsPlaced n a → IsPlaced n b
    → SameBag (a.relation.rows ++ b.relation.rows) (together (by_worker n (λ w. part a w ++ part b w)))
union-together n a b p q =
    subst (λ xs. SameBag (a.relation.rows ++ b.relation.rows) xs) (sym (flat_map-map (λ (r : Rows). r) (λ w. part a w ++ part b w) (range_with_len 0 n)))
    (IsPermutation-trans (a.relation.rows ++ b.relation.rows) (flat_map (part a) (range_with_len 0 n) ++ flat_map (part b) (range_with_len 0 n)) (flat_map (λ w. part a w ++ part b w) (range_with_len 0 n))
    (union_all-same a.relation.rows (flat_map (part a) (range_with_len 0 n)) b.relation.rows (flat_map (part b) (range_with_len 0 n))
    (subst (λ xs. SameBag a.relation.rows xs) (together-parts n a.parts p.each_worker) p.all_rows)
    (subst (λ xs. SameBag b.relation.rows xs) (together-parts n b.parts q.each_worker) q.all_rows))
    (both_together (part a) (part b) (range_with_len 0 n)))

-- ---- one list of a join, cut in two

each_before : (c : List (List Row)) (f : Row → List (List Row)) → ((row : Row) → IsPermutation (map (λ rest. row ∷ rest) c) (f row)) → (rs : Rows)
    → IsPermutation (flat_map (λ row. map (λ rest. row ∷ rest) c) rs) (flat_map f rs)
each_before c f h rs = flat_map-each (λ row. map (λ rest. row ∷ rest) c) f h rs

before-cut : (c a b : List (List Row)) → IsPermutation c (a ++ b) → (rs : Rows)
    → IsPermutation (flat_map (λ row. map (λ rest. row ∷ rest) c) rs)
    (flat_map (λ row. map (λ rest. row ∷ rest) a) rs ++ flat_map (λ row. map (λ rest. row ∷ rest) b) rs)
before-cut c a b h rs =
    let f : Row → List (List Row) = λ row. map (λ rest. row ∷ rest) a in
    let g : Row → List (List Row) = λ row. map (λ rest. row ∷ rest) b in
    IsPermutation-trans (flat_map (λ row. map (λ rest. row ∷ rest) c) rs) (flat_map (λ row. f row ++ g row) rs) (flat_map f rs ++ flat_map g rs)
    (each_before c (λ row. f row ++ g row)
    (λ row. subst (λ xs. IsPermutation (map (λ rest. row ∷ rest) c) xs) (map-append (λ rest. row ∷ rest) a b) (IsPermutation-map (λ rest. row ∷ rest) c (a ++ b) h)) rs)
    (IsPermutation-sym (flat_map f rs ++ flat_map g rs) (flat_map (λ row. f row ++ g row) rs) (both_together f g rs))

-- the combinations of lists of which one is cut in two are those with the one part and those with the other
combinations-cut : (tables : List Rows) (j : ℕ) (a b : Rows) → j < length tables
    → IsPermutation (combinations (set tables j (a ++ b))) (combinations (set tables j a) ++ combinations (set tables j b))
combinations-cut [] j a b l = absurd (omega arith)
combinations-cut (rows ∷ tables) zero a b l =
    same_list (combinations ((a ++ b) ∷ tables)) (combinations (a ∷ tables) ++ combinations (b ∷ tables))
    (flat_map-append (λ row. map (λ rest. row ∷ rest) (combinations tables)) a b)
combinations-cut (rows ∷ tables) (suc j) a b l =
    before-cut (combinations (set tables j (a ++ b))) (combinations (set tables j a)) (combinations (set tables j b))
    (combinations-cut tables j a b (omega arith)) rows

-- a join of lists of which one is empty has no combination
combinations-empty : (tables : List Rows) (j : ℕ) → j < length tables → combinations (set tables j []) ≡ []
combinations-empty [] j l = absurd (omega arith)
combinations-empty (rows ∷ tables) zero l = refl
combinations-empty (rows ∷ tables) (suc j) l = ap (λ c. flat_map (λ row. map (λ rest. row ∷ rest) c) rows) (combinations-empty tables j (omega arith)) ∙ nothing_before rows
  where
    nothing_before : (rs : Rows) → flat_map {A = List Row} (λ row. []) rs ≡ []
    nothing_before [] = refl
    nothing_before (r ∷ rs) = nothing_before rs

candidates-cut : (conjuncts : List Scalar) (tables : List Rows) (j : ℕ) (a b : Rows) → j < length tables
    → SameBag (candidates conjuncts (set tables j (a ++ b))) (candidates conjuncts (set tables j a) ++ candidates conjuncts (set tables j b))
candidates-cut conjuncts tables j a b l =
    let p : Row → Bool = all_hold conjuncts in
    let all = combined_rows (set tables j (a ++ b)) in
    let one = combined_rows (set tables j a) in
    let other = combined_rows (set tables j b) in
    subst (λ xs. SameBag (filter p all) xs) (filter-append p one other)
    (filter_rows-same p all (one ++ other)
    (subst (λ xs. SameBag all xs) (map-append combined_row (combinations (set tables j a)) (combinations (set tables j b)))
    (IsPermutation-map combined_row (combinations (set tables j (a ++ b))) (combinations (set tables j a) ++ combinations (set tables j b)) (combinations-cut tables j a b l))))

-- what a join lists of the parts of one of its lists is, together, what it lists of the whole
pub listed-parts : (shape : Shape) (tables : List Rows) (j : ℕ) → j < length tables → (parts : List Rows)
    → SameBag (listed_of shape (set tables j (together parts))) (together (map (λ own. listed_of shape (set tables j own)) parts))
listed-parts shape tables j l [] =
    same_list (listed_of shape (set tables j [])) []
    (ap (λ c. listed_from shape.arith shape.emits (filter (all_hold (tests_of shape ++ map tie_test (ties_of shape))) (map combined_row c))) (combinations-empty tables j l))
listed-parts shape tables j l (own ∷ parts) =
    let tests = tests_of shape ++ map tie_test (ties_of shape) in
    let list : Rows → Rows = listed_from shape.arith shape.emits in
    let whole = candidates tests (set tables j (own ++ together parts)) in
    let one = candidates tests (set tables j own) in
    let others = candidates tests (set tables j (together parts)) in
    IsPermutation-trans (list whole) (list (one ++ others)) (list one ++ together (map (λ r. listed_of shape (set tables j r)) parts))
    (listed_from-same shape.arith shape.emits whole (one ++ others) (candidates-cut tests tables j own (together parts) l))
    (subst (λ xs. SameBag xs (list one ++ together (map (λ r. listed_of shape (set tables j r)) parts))) (sym (listed_from-append shape.arith shape.emits one others))
    (IsPermutation-append_right (list one) (list others) (together (map (λ r. listed_of shape (set tables j r)) parts)) (listed-parts shape tables j l parts)))
