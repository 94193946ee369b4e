-- Partial rows that met at the homes of their keys, and the groups that they are merged to.
use Rattle.std.proofs.Common.{◌≡◌, ℕ, ◌+◌, ◌^◌, ◌<◌, ◌≤◌, ◌==◌, Bool, true, false, Some, None, List, [], ◌∷◌, ◌++◌, map, length, get_or, refl, sym, ap, ◌∙◌, subst, arith}
use Rattle.std.specs.Prelude.{All, filter, ◌&&◌}
use Rattle.std.specs.List.{flat_map, list_all, range_with_len}
use Rattle.std.proofs.lemmas.List.{length-map, get_or-map, get_or_default}
use Rattle.std.proofs.lemmas.List.Elements.{All-nil, All-cons, All-head, All-tail, All-weaker, All-map, All-filter, filter-append}
use Rattle.std.proofs.lemmas.List.FromFn.{fill_by_all, get_or-range_with_len, length-range_with_len}
use Rattle.std.proofs.lemmas.List.Sorted.{All-permutation, IsPermutation-refl, IsPermutation-sym, IsPermutation-trans}
use Rattle.rel_base.specs.Bags.{SameBag}
use Rattle.myrial_ast.specs.declared.operators.AggOp.TheVariants as agg
use Rattle.myrial_ast.specs.Combinations.{Row, Rows}
use Rattle.myrial_ast.specs.Groups.{Kinds, key_of, keys, members, group_row, groups, sums_fit}
use Rattle.myrial_ast.specs.Partials.{split_sums, partial_kinds, partial_rows, partial_keys, merged}
use Rattle.bag_laws.specs.PartialLaws.{AreGrouped}
use Rattle.bag_laws.specs.Permuted.{SameTables}
use Rattle.bag_laws.proofs.ColumnLemmas.{behind, by_columns, group_row-columns}
use Rattle.bag_laws.proofs.PartialLemmas.{places, places-key, merged_are_groups, groups_meet_by_key}
use Rattle.aggregate_ops.specs.Forms.{added_in, merged_fits}
use Rattle.aggregate_ops.proofs.FitLemmas.{merged_fit_as_groups}
use Rattle.aggregate_ops.proofs.StepLemmas.{list_all-same}
use Rattle.hash_partition.specs.Hashing.{home_of}
use Rattle.placement.specs.Layouts.{together}
use Rattle.placement.proofs.ScriptLemmas.{home_of-lt}
use Rattle.placement.proofs.TogetherLemmas.{homes-together}
use Rattle.regular_shuffle.specs.KeySpreads.{HasColumns, key_home}
use Rattle.row_exchange.proofs.MoveLemmas.{All-flat_map}
use Rattle.routed_joins.proofs.RouteLemmas.{same-tables}
use Rattle.keyed_terms.specs.inner.Making.{AreMadeBy}

-- ---- the columns of partial rows

split-length : (kinds : Kinds) (row : Row) → length row ≡ length kinds → length (split_sums kinds row) ≡ length (partial_kinds kinds)
split-length [] [] e = refl
split-length [] (v ∷ row) e = absurd (omega (arith, e))
split-length (kind ∷ kinds) [] e = absurd (omega (arith, e))
split-length (None ∷ kinds) (v ∷ row) e = omega (arith, split-length kinds row (omega (arith, e)))
split-length (Some agg.Sum ∷ kinds) (v ∷ row) e = omega (arith, split-length kinds row (omega (arith, e)))
split-length (Some agg.Count ∷ kinds) (v ∷ row) e = omega (arith, split-length kinds row (omega (arith, e)))
split-length (Some agg.CountAll ∷ kinds) (v ∷ row) e = omega (arith, split-length kinds row (omega (arith, e)))
split-length (Some agg.Min ∷ kinds) (v ∷ row) e = omega (arith, split-length kinds row (omega (arith, e)))
split-length (Some agg.Max ∷ kinds) (v ∷ row) e = omega (arith, split-length kinds row (omega (arith, e)))

columns-length : (kinds : Kinds) (rows : Rows) → length (by_columns kinds rows) ≡ length kinds
columns-length [] rows = refl
columns-length (kind ∷ kinds) rows = omega (arith, columns-length kinds (map behind rows))

pub partial-wide : (kinds : Kinds) (rows : Rows) → AreGrouped (partial_kinds kinds) (partial_rows kinds rows)
partial-wide kinds rows =
    All-map (λ (row : Row). length row ≡ length (partial_kinds kinds)) (split_sums kinds) (groups kinds rows)
    (All-map (λ (row : Row). length (split_sums kinds row) ≡ length (partial_kinds kinds)) (λ key. group_row kinds (members kinds rows key)) (keys kinds rows)
    (λ k d below. let key = get_or (keys kinds rows) k d in
    split-length kinds (group_row kinds (members kinds rows key)) (ap length (group_row-columns kinds (members kinds rows key)) ∙ columns-length kinds (members kinds rows key))))

places-within : (i : ℕ) (kinds : Kinds) → All (λ place. place < i + length kinds) (places i kinds)
places-within i [] = All-nil (λ place. place < i + 0)
places-within i (None ∷ kinds) =
    All-cons (λ place. place < i + length (None ∷ kinds)) i (places (i + 1) kinds) (omega arith)
    (All-weaker (λ place. place < (i + 1) + length kinds) (λ place. place < i + length (None ∷ kinds)) (λ place h. omega (arith, h)) (places (i + 1) kinds) (places-within (i + 1) kinds))
places-within i (Some op ∷ kinds) =
    All-weaker (λ place. place < (i + 1) + length kinds) (λ place. place < i + length (Some op ∷ kinds)) (λ place h. omega (arith, h)) (places (i + 1) kinds) (places-within (i + 1) kinds)

-- ---- lists of tests

all-map : {X Y : Type 0} (p : Y → Bool) (f : X → Y) (xs : List X) → list_all p (map f xs) ≡ list_all (λ x. p (f x)) xs
all-map p f [] = refl
all-map p f (x ∷ xs) = ap (λ (b : Bool). p (f x) && b) (all-map p f xs)

all-agree : {X : Type 0} (p q : X → Bool) (xs : List X) → All (λ x. p x ≡ q x) xs → list_all p xs ≡ list_all q xs
all-agree p q [] all = refl
all-agree p q (x ∷ xs) all =
    let here = All-head (λ x. p x ≡ q x) x xs all in
    let rest = all-agree p q xs (All-tail (λ x. p x ≡ q x) x xs all) in
    λ i. here i && rest i

all-append : {X : Type 0} (p : X → Bool) (xs ys : List X) → list_all p (xs ++ ys) ≡ (list_all p xs && list_all p ys)
all-append p [] ys = refl
all-append p (x ∷ xs) ys = ap (λ (b : Bool). p x && b) (all-append p xs ys) ∙ by (p x) (list_all p xs) (list_all p ys)
  where
    by : (a b c : Bool) → (a && (b && c)) ≡ ((a && b) && c)
    by true b c = refl
    by false b c = refl

all-flat_map : {X Y : Type 0} (p : Y → Bool) (f : X → List Y) (xs : List X) → list_all (λ x. list_all p (f x)) xs ≡ list_all p (flat_map f xs)
all-flat_map p f [] = refl
all-flat_map p f (x ∷ xs) = ap (λ (b : Bool). list_all p (f x) && b) (all-flat_map p f xs) ∙ sym (all-append p (f x) (flat_map f xs))

filter-each : {X : Type 0} (p : Row → Bool) (f : X → Rows) (xs : List X) → filter p (together (map f xs)) ≡ flat_map (λ x. filter p (f x)) xs
filter-each p f [] = refl
filter-each p f (x ∷ xs) = filter-append p (f x) (together (map f xs)) ∙ ap (λ (rows : Rows). filter p (f x) ++ rows) (filter-each p f xs)

-- ---- partial rows where they were formed

module _ (kinds : Kinds) (seed n : ℕ) (listed : List Rows) (long : length listed ≡ n) (grouped : All (AreGrouped kinds) listed) where
  -- the home of a partial row, and that of a group
  abbrev pub partial_home : Row → ℕ
  partial_home row = home_of seed (key_of (partial_kinds kinds) row) n

  abbrev pub group_home : Row → ℕ
  group_home row = home_of seed (key_of kinds row) n

  module _ (partials : List Rows) (x : AreMadeBy n (λ w. partial_rows kinds (get_or listed w [])) partials) where
    pub partials-wide : All (AreGrouped (partial_kinds kinds)) partials
    partials-wide k d below =
        subst (AreGrouped (partial_kinds kinds)) (get_or_default partials k [] d below)
        (All-permutation (λ (row : Row). length row ≡ length (partial_kinds kinds)) (partial_rows kinds (get_or listed k [])) (get_or partials k [])
        (x.rows_are k (omega (arith, below, x.count))) (partial-wide kinds (get_or listed k [])))

    pub partials-same : SameTables (map (partial_rows kinds) listed) partials
    partials-same =
        same-tables (map (partial_rows kinds) listed) partials (length-map listed (partial_rows kinds) ∙ long ∙ sym x.count)
        (λ w below. let inside : w < length listed = omega (arith, below, length-map listed (partial_rows kinds)) in
        subst (λ (rows : Rows). SameBag rows (get_or partials w [])) (sym (get_or-map (partial_rows kinds) listed w [] [] inside)) (x.rows_are w (omega (arith, inside, long))))

    pub partials-home : All (All (λ row. partial_home row ≡ key_home seed n (partial_keys kinds) row)) partials
    partials-home =
        All-weaker (AreGrouped (partial_kinds kinds)) (All (λ row. partial_home row ≡ key_home seed n (partial_keys kinds) row))
        (λ rows each. All-weaker (λ (row : Row). length row ≡ length (partial_kinds kinds)) (λ row. partial_home row ≡ key_home seed n (partial_keys kinds) row)
        (λ row e. ap (λ (key : Row). home_of seed key n) (sym (places-key (partial_kinds kinds) row e))) rows each) partials partials-wide

    pub partials-columns : All (All (HasColumns (partial_keys kinds))) partials
    partials-columns =
        All-weaker (AreGrouped (partial_kinds kinds)) (All (HasColumns (partial_keys kinds)))
        (λ rows each. All-weaker (λ (row : Row). length row ≡ length (partial_kinds kinds)) (HasColumns (partial_keys kinds))
        (λ row e. All-weaker (λ place. place < 0 + length (partial_kinds kinds)) (λ column. column < length row) (λ place h. omega (arith, h, e))
        (places 0 (partial_kinds kinds)) (places-within 0 (partial_kinds kinds))) rows each) partials partials-wide

  -- ---- partial rows where they met

  module _ (met : List Rows) (m : AreMadeBy n (λ w. filter (λ row. partial_home row == w) (together (map (partial_rows kinds) listed))) met) where
    pub met-wide : All (AreGrouped (partial_kinds kinds)) met
    met-wide k d below =
        let P : Row → Type 0 = λ row. length row ≡ length (partial_kinds kinds) in
        let all = together (map (partial_rows kinds) listed) in
        subst (AreGrouped (partial_kinds kinds)) (get_or_default met k [] d below)
        (All-permutation P (filter (λ row. partial_home row == k) all) (get_or met k []) (m.rows_are k (omega (arith, below, m.count)))
        (All-filter (λ row. partial_home row == k) P all
        (All-flat_map P (λ (rows : Rows). rows) (map (partial_rows kinds) listed)
        (All-map (All P) (partial_rows kinds) listed (λ i e inside. partial-wide kinds (get_or listed i e))))))

    met-groups : (w : ℕ) → w < n → SameBag (merged kinds (get_or met w [])) (filter (λ row. group_home row == w) (groups kinds (together listed)))
    met-groups w below =
        groups_meet_by_key kinds listed (get_or met w []) (λ key. home_of seed key n == w) grouped
        (subst (λ (rows : Rows). SameBag (get_or met w []) rows) (filter-each (λ row. partial_home row == w) (partial_rows kinds) listed)
        (IsPermutation-sym (filter (λ row. partial_home row == w) (together (map (partial_rows kinds) listed))) (get_or met w []) (m.rows_are w below)))

    pub groups-made : (made : List Rows) → AreMadeBy (length met) (λ w. merged kinds (get_or met w [])) made
        → AreMadeBy n (λ w. filter (λ row. group_home row == w) (groups kinds (together listed))) made
    groups-made made x = record {
      count = x.count ∙ m.count;
      rows_are = λ w below.
          IsPermutation-trans (filter (λ row. group_home row == w) (groups kinds (together listed))) (merged kinds (get_or met w [])) (get_or made w [])
          (IsPermutation-sym (merged kinds (get_or met w [])) (filter (λ row. group_home row == w) (groups kinds (together listed))) (met-groups w below))
          (x.rows_are w (omega (arith, below, m.count)));
    }

    -- what is merged fits at all workers exactly where the groups of all rows do
    pub fits-all : 1 ≤ n → length (together listed) < 2 ^ 63 → list_all (merged_fits kinds) met ≡ sums_fit kinds (together listed)
    fits-all some few =
        ap (list_all (merged_fits kinds)) (fill_by_all (λ w. get_or met w []) met n [] m.count (λ w below. refl))
        ∙ all-map (merged_fits kinds) (λ w. get_or met w []) (range_with_len 0 n)
        ∙ all-agree (λ w. merged_fits kinds (get_or met w [])) (λ w. list_all (added_in kinds) (filter (λ row. group_home row == w) all)) (range_with_len 0 n)
        (λ k d below.
        let w = get_or (range_with_len 0 n) k d in
        let inside : w < n = omega (arith, get_or-range_with_len 0 n k d (omega (arith, below, length-range_with_len 0 n)), below, length-range_with_len 0 n) in
        list_all-same (added_in kinds) (merged kinds (get_or met w [])) (filter (λ row. group_home row == w) all) (met-groups w inside))
        ∙ all-flat_map (added_in kinds) (λ w. filter (λ row. group_home row == w) all) (range_with_len 0 n)
        ∙ sym (list_all-same (added_in kinds) all (flat_map (λ w. filter (λ row. group_home row == w) all) (range_with_len 0 n))
        (homes-together group_home n (λ row. home_of-lt seed (key_of kinds row) n some) all))
        ∙ sym (list_all-same (added_in kinds) (merged kinds parts) all (merged_are_groups kinds listed parts grouped (IsPermutation-refl parts)))
        ∙ merged_fit_as_groups kinds listed parts grouped (IsPermutation-refl parts) few
      where
        all : Rows
        all = groups kinds (together listed)

        parts : Rows
        parts = flat_map (partial_rows kinds) listed
