-- How many rows there are, and how many different ones: as many as are left where they stand in order and each repeat
-- beside a row goes.
use Rattle.std.proofs.Common.{◌≡◌, ℕ, ◌+◌, ◌<◌, Bool, true, false, not, cond, List, [], ◌∷◌, ◌++◌, get_or, length, map, filter, take, refl, sym, ◌∙◌, ap, add-one, append_assoc}
use Rattle.std.proofs.Math.Seq.{take-suc}
use Rattle.std.specs.Prelude.{IsPermutation, IsSorted}
use Rattle.std.specs.Borrow.{Bor}
use Rattle.std.specs.List.{AllByRecursion, dedup, dedup_from, flat_map}
use Rattle.std.specs.List.Retain.{IsFiltered, DiffersFromLast}
use Rattle.std.specs.List.Sorted.{IsStrictlySortedBy}
use Rattle.std.specs.Ordering.{is_eq, eq_by_cmp}
use Rattle.std.specs.declared.cmp.Ordering.{Ordering}
use Rattle.std.specs.declared.cmp.Ordering.TheVariants.{Less}
use Rattle.std.specs.Cmp.{IsTotalOrder, on_total}
use Rattle.std.specs.Cmp.Lexicographic.{pointwise, lists_ties}
use Rattle.std.proofs.lemmas.List.{length-map, append-nil}
use Rattle.std.proofs.lemmas.List.Concat.{flat_map-append}
use Rattle.std.proofs.lemmas.List.Filters.{dedup_is}
use Rattle.std.proofs.lemmas.List.Folds.{flat_map-map}
use Rattle.std.proofs.lemmas.List.Kept.{IsStrictlySortedBy-dedup}
use Rattle.std.proofs.lemmas.List.Sorted.{length_permutation, IsPermutation-map}
use Rattle.rel_base.specs.Bags.{SameBag, sorted}
use Rattle.rel_base.specs.Keys.{File}
use Rattle.rel_base.specs.Picks.{joined}
use Rattle.rel_base.specs.ValueLaws.{row_order_total}
use Rattle.rel_base.specs.Values.{value_order, row_order}
use Rattle.myrial_ast.specs.Bags.{distinct}
use Rattle.myrial_ast.specs.Combinations.{Row, Rows}
use Rattle.bag_laws.proofs.PartialLemmas.{itself, tied, other}
use Rattle.bag_laws.proofs.RowPermutations.{distinct-same}
use Rattle.placement.specs.declared.stores.SpreadStore.{SpreadStore}
use Rattle.output_texts.specs.Stores.{all_rows, whole_store}
use Rattle.output_texts.specs.TrialText.{distinct_line, rows_line, size_line, trial_text}

-- ---- neighbours

filter-twice : (p : Row → Bool) (rows : Rows) → filter p (filter p rows) ≡ filter p rows
filter-twice p [] = refl
filter-twice p (row ∷ rows) = by (p row) refl (filter-twice p rows)
  where
    by : (b : Bool) → p row ≡ b → filter p (filter p rows) ≡ filter p rows
        → filter p (cond b (row ∷ filter p rows) (filter p rows)) ≡ cond b (row ∷ filter p rows) (filter p rows)
    by true e rest =
        ap (λ b. cond b (row ∷ filter p (filter p rows)) (filter p (filter p rows))) e ∙ ap (λ (rest : Rows). row ∷ rest) rest
    by false e rest = rest

-- a row twice, side by side
twice : (row : Row) (rows : Rows) → distinct (row ∷ row ∷ rows) ≡ distinct (row ∷ rows)
twice row rows =
    ap (λ b. row ∷ cond (not b) (row ∷ filter (other row) (filter (other row) (distinct rows))) (filter (other row) (filter (other row) (distinct rows)))) (itself row)
    ∙ ap (λ rest. row ∷ rest) (filter-twice (other row) (distinct rows))

abbrev rows_of : List (Bor Row) → Rows
rows_of rows = map (λ (row : Bor Row). row.now) rows

-- without repeats beside a row, the different rows are the same
kept-distinct : (same : Bor Row → Bor Row → Bool) → ((r s : Bor Row) → same r s ≡ true → r.now ≡ s.now)
    → (kept : Bor Row) (rows : List (Bor Row)) → distinct (rows_of (dedup_from same kept rows)) ≡ distinct (rows_of (kept ∷ rows))
kept-distinct same one kept [] = refl
kept-distinct same one kept (row ∷ rows) =
    by (same row kept) refl (kept-distinct same one kept rows) (kept-distinct same one row rows)
  where
    by : (b : Bool) → same row kept ≡ b
        → distinct (rows_of (dedup_from same kept rows)) ≡ distinct (rows_of (kept ∷ rows))
        → distinct (rows_of (dedup_from same row rows)) ≡ distinct (rows_of (row ∷ rows))
        → distinct (rows_of (cond b (dedup_from same kept rows) (kept ∷ dedup_from same row rows))) ≡ distinct (rows_of (kept ∷ row ∷ rows))
    by true e gone stays =
        gone ∙ sym (twice kept.now (rows_of rows))
        ∙ ap (λ (r : Row). distinct (kept.now ∷ r ∷ rows_of rows)) (sym (one row kept e))
    by false e gone stays = ap (λ (rest : Rows). kept.now ∷ filter (other kept.now) rest) stays

dedup-distinct : (same : Bor Row → Bor Row → Bool) → ((r s : Bor Row) → same r s ≡ true → r.now ≡ s.now)
    → (rows : List (Bor Row)) → distinct (rows_of (dedup same rows)) ≡ distinct (rows_of rows)
dedup-distinct same one [] = refl
dedup-distinct same one (row ∷ rows) = kept-distinct same one row rows

-- rows are equal value by value where they tie
pub same-values : (row other : Row) → pointwise (eq_by_cmp value_order) row other ≡ eq_by_cmp row_order row other
same-values = lists_ties value_order (λ r s. refl)

-- ---- rows that ascend strictly are all different

abbrev reference_order : Bor Row → Bor Row → Ordering
reference_order r s = row_order r.now s.now

all-other : (row : Bor Row) (rows : List (Bor Row)) → AllByRecursion (λ s. reference_order row s ≡ Less) rows
    → filter (other row.now) (rows_of rows) ≡ rows_of rows
all-other row [] all = refl
all-other row (s ∷ rows) all =
    ap (λ (o : Ordering). cond (not (is_eq o)) (s.now ∷ filter (other row.now) (rows_of rows)) (filter (other row.now) (rows_of rows))) all.0
    ∙ ap (λ (rest : Rows). s.now ∷ rest) (all-other row rows all.1)

ascending-distinct : (rows : List (Bor Row)) → IsStrictlySortedBy reference_order rows → distinct (rows_of rows) ≡ rows_of rows
unfolding IsStrictlySortedBy
ascending-distinct [] strict = refl
ascending-distinct (row ∷ rows) strict =
    ap (λ (rest : Rows). row.now ∷ filter (other row.now) rest) (ascending-distinct rows strict.1)
    ∙ ap (λ (rest : Rows). row.now ∷ rest) (all-other row rows strict.0)

-- ---- counted

ordered : IsTotalOrder reference_order
ordered = on_total (λ (row : Bor Row). row.now) row_order_total

pub different-counted : (same : Bor Row → Bor Row → Bool) → ((r s : Bor Row) → same r s ≡ eq_by_cmp reference_order r s)
    → (rows ascending kept : List (Bor Row)) → IsPermutation rows ascending → IsSorted reference_order ascending
    → IsFiltered (DiffersFromLast same) [] ascending kept → length kept ≡ length (distinct (rows_of rows))
different-counted same ties rows ascending kept moved sorted filtered =
    let is : kept ≡ dedup same ascending = dedup_is same ascending kept filtered in
    let now = λ (row : Bor Row). row.now in
    let strict : IsStrictlySortedBy reference_order (dedup same ascending) = IsStrictlySortedBy-dedup ordered ties ascending sorted in
    let one : (r s : Bor Row) → same r s ≡ true → r.now ≡ s.now = λ r s e. tied r.now s.now (sym (ties r s) ∙ e) in
    let all : rows_of (dedup same ascending) ≡ distinct (rows_of ascending) =
    sym (ascending-distinct (dedup same ascending) strict) ∙ dedup-distinct same one ascending in
    let long : length (distinct (rows_of ascending)) ≡ length (distinct (rows_of rows)) =
    length_permutation (distinct (rows_of rows)) (distinct (rows_of ascending)) (distinct-same (rows_of rows) (rows_of ascending) (IsPermutation-map now rows ascending moved)) in
    ap length is ∙ sym (length-map (dedup same ascending) now) ∙ ap length all ∙ long

-- ---- one list of rows more

-- references to rows, and to those of one more list
pub rows-more : {X : Type 0} (rows_in : X → Rows) (before : Rows) (so_far all : List (Bor Row)) (xs : List X) (i : ℕ) (x : X) → i < length xs
    → x ≡ get_or xs i x → rows_of so_far ≡ before ++ flat_map rows_in (take i xs) → rows_of all ≡ rows_of so_far ++ rows_in x
    → rows_of all ≡ before ++ flat_map rows_in (take (i + 1) xs)
rows-more rows_in before so_far all xs i x low is known added =
    let one_more : flat_map rows_in (take (i + 1) xs) ≡ flat_map rows_in (take i xs) ++ rows_in x =
    ap (flat_map rows_in) ((rw add-one (take-suc xs i x low)) ∙ ap (λ y. take i xs ++ y ∷ []) (sym is))
    ∙ flat_map-append rows_in (take i xs) (x ∷ []) ∙ ap (λ (rest : Rows). flat_map rows_in (take i xs) ++ rest) (append-nil (rows_in x)) in
    added ∙ ap (λ (rows : Rows). rows ++ rows_in x) known ∙ append_assoc before (flat_map rows_in (take i xs)) (rows_in x)
    ∙ ap (λ (rows : Rows). before ++ rows) (sym one_more)

-- the rows of all stores, as files
pub rows_of_stores : (stores : List SpreadStore) → all_rows (map whole_store stores) ≡ flat_map (λ store. joined store.parts) stores
rows_of_stores stores = flat_map-map (λ (file : File). file.1.rows) whole_store stores

-- ---- the numbers of a trial

-- a bag has one text as a trial
pub trial_text-same : (size : ℕ) (rows others : Rows) → SameBag rows others → trial_text size rows ≡ trial_text size others
trial_text-same size rows others same =
    let long : length rows ≡ length others = sym (length_permutation rows others same) in
    let unlike : length (distinct rows) ≡ length (distinct others) =
    sym (length_permutation (distinct rows) (distinct others) (distinct-same rows others same)) in
    λ i. size_line size ++ rows_line (long i) ++ distinct_line (unlike i)

pub counts-same : (size : ℕ) (before longer : List ℕ) (rows others : Rows) (count different : ℕ) → SameBag rows others
    → count ≡ length others → different ≡ length (distinct others)
    → longer ≡ before ++ size_line size ++ rows_line count ++ distinct_line different → longer ≡ before ++ trial_text size rows
counts-same size before longer rows others count different same counted apart is =
    is ∙ (λ i. before ++ size_line size ++ rows_line (counted i) ++ distinct_line (apart i))
    ∙ ap (λ (text : List ℕ). text ++ distinct_line (length (distinct others))) (append_assoc before (size_line size) (rows_line (length others)))
    ∙ append_assoc before (size_line size ++ rows_line (length others)) (distinct_line (length (distinct others)))
    ∙ ap (λ (text : List ℕ). before ++ text) (sym (trial_text-same size rows others same))
