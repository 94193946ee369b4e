-- The partial rows of some lists, merged, are the groups of the lists put together.
use Rattle.std.proofs.Common.{◌≡◌, ℕ, ◌+◌, Bool, true, false, not, cond, Some, None, List, [], ◌∷◌, ◌++◌, length, map, refl, sym, ◌∙◌, ap, subst, arith}
use Rattle.std.specs.Prelude.{filter, is_none, All, ◌||◌}
use Rattle.std.specs.List.{enumerate_from, flat_map}
use Rattle.std.specs.declared.cmp.Ordering.{Ordering}
use Rattle.std.specs.declared.cmp.Ordering.TheVariants.{Less, Equal, Greater}
use Rattle.std.specs.Ordering.{is_eq, is_lt, ordering_reverse}
use Rattle.std.proofs.lemmas.List.{map-append}
use Rattle.std.proofs.lemmas.List.Elements.{All-nil, All-cons, All-head, All-tail, All-weaker, All-filter, filter-append}
use Rattle.std.proofs.lemmas.List.Sorted.{IsPermutation-map}
use Rattle.rel_base.specs.Bags.{SameBag}
use Rattle.rel_base.specs.Values.{row_order}
use Rattle.rel_base.specs.ValueLaws.{row_order_total, row_order-IsAntisymmetric}
use Rattle.myrial_ast.specs.declared.operators.AggOp.TheVariants as agg
use Rattle.myrial_ast.specs.Scalars.{value_at}
use Rattle.myrial_ast.specs.Combinations.{Row, Rows}
use Rattle.myrial_ast.specs.Bags.{same_row, has_row, distinct}
use Rattle.myrial_ast.specs.Groups.{Kinds, key_of, keys, members, group_row, groups}
use Rattle.myrial_ast.specs.Partials.{split_sums, whole_sums, partial_kinds, partial_rows, partial_keys, merged}
use Rattle.bag_laws.specs.PartialLaws.{AreGrouped, MergedAreGroups, PartialsKeepTheKey, GroupsMeetByKey, SumsAreSplit}
use Rattle.bag_laws.proofs.GroupPermutations.{groups-same}
use Rattle.bag_laws.proofs.ColumnLemmas.{behind, value-behind, by_columns, group_row-columns, joined, map-through, Filled, partial_of, merged-columns, high-low}
use Rattle.std.specs.Prelude.{pos, negsuc, ◌-◌, ◌%◌, ◌^◌}
use Rattle.std.proofs.lemmas.Nat.{mod_below}
use Rattle.std.proofs.lemmas.List.Elements.{filter_passes, All-append}

-- ---- rows that are one

pub tied : (r s : Row) → same_row r s ≡ true → r ≡ s
tied r s e = by (row_order r s) refl e
  where
    by : (o : Ordering) → row_order r s ≡ o → is_eq o ≡ true → r ≡ s
    by Less p e = absurd (cc)
    by Equal p e = row_order-IsAntisymmetric r s p
    by Greater p e = absurd (cc)

pub itself : (r : Row) → same_row r r ≡ true
itself r = by (row_order r r) (row_order_total.antisymm r r)
  where
    by : (o : Ordering) → o ≡ ordering_reverse o → is_eq o ≡ true
    by Less e = let never : true ≡ false = ap is_lt e in absurd (cc)
    by Equal e = refl
    by Greater e = let never : false ≡ true = ap is_lt e in absurd (cc)

-- ---- filters

pub filter-inside : {X : Type 0} (p q : X → Bool) → ((x : X) → p x ≡ true → q x ≡ true) → (xs : List X) → filter p (filter q xs) ≡ filter p xs
filter-inside p q h [] = refl
filter-inside {X} p q h (x ∷ xs) = by (p x) (q x) refl (h x) (filter-inside p q h xs)
  where
    by : (a b : Bool) → p x ≡ a → (a ≡ true → b ≡ true) → filter p (filter q xs) ≡ filter p xs → filter p (cond b (x ∷ filter q xs) (filter q xs)) ≡ cond a (x ∷ filter p xs) (filter p xs)
    by true true e k rest = ap (λ c. cond c (x ∷ filter p (filter q xs)) (filter p (filter q xs))) e ∙ ap (λ ys. x ∷ ys) rest
    by true false e k rest = let never : false ≡ true = k refl in absurd (cc)
    by false true e k rest = ap (λ c. cond c (x ∷ filter p (filter q xs)) (filter p (filter q xs))) e ∙ rest
    by false false e k rest = rest

filter-outside : {X : Type 0} (p q : X → Bool) → ((x : X) → p x ≡ true → q x ≡ false) → (xs : List X) → filter p (filter q xs) ≡ []
filter-outside p q h [] = refl
filter-outside {X} p q h (x ∷ xs) = by (p x) (q x) refl (h x) (filter-outside p q h xs)
  where
    by : (a b : Bool) → p x ≡ a → (a ≡ true → b ≡ false) → filter p (filter q xs) ≡ [] → filter p (cond b (x ∷ filter q xs) (filter q xs)) ≡ []
    by true true e k rest = let never : true ≡ false = k refl in absurd (cc)
    by true false e k rest = rest
    by false true e k rest = ap (λ c. cond c (x ∷ filter p (filter q xs)) (filter p (filter q xs))) e ∙ rest
    by false false e k rest = rest

filter-swap : {X : Type 0} (p q : X → Bool) (xs : List X) → filter p (filter q xs) ≡ filter q (filter p xs)
filter-swap p q [] = refl
filter-swap {X} p q (x ∷ xs) = by (p x) (q x) refl refl (filter-swap p q xs)
  where
    by : (a b : Bool) → p x ≡ a → q x ≡ b → filter p (filter q xs) ≡ filter q (filter p xs)
        → filter p (cond b (x ∷ filter q xs) (filter q xs)) ≡ filter q (cond a (x ∷ filter p xs) (filter p xs))
    by true true e f rest =
        ap (λ c. cond c (x ∷ filter p (filter q xs)) (filter p (filter q xs))) e ∙ ap (λ ys. x ∷ ys) rest ∙ sym (ap (λ c. cond c (x ∷ filter q (filter p xs)) (filter q (filter p xs))) f)
    by true false e f rest = rest ∙ sym (ap (λ c. cond c (x ∷ filter q (filter p xs)) (filter q (filter p xs))) f)
    by false true e f rest = ap (λ c. cond c (x ∷ filter p (filter q xs)) (filter p (filter q xs))) e ∙ rest
    by false false e f rest = rest

-- ---- distinct rows

abbrev pub other : Row → Row → Bool
other r s = not (same_row r s)

pub distinct-filter : (p : Row → Bool) (rows : Rows) → filter p (distinct rows) ≡ distinct (filter p rows)
distinct-filter p [] = refl
distinct-filter p (r ∷ rows) = by (p r) refl (distinct-filter p rows)
  where
    differs : p r ≡ false → (s : Row) → p s ≡ true → other r s ≡ true
    differs e s k = turn (same_row r s) refl
      where
        turn : (b : Bool) → same_row r s ≡ b → not b ≡ true
        turn true h = let same : p r ≡ p s = ap p (tied r s h) in absurd (cc)
        turn false h = refl

    by : (b : Bool) → p r ≡ b → filter p (distinct rows) ≡ distinct (filter p rows)
        → cond b (r ∷ filter p (filter (other r) (distinct rows))) (filter p (filter (other r) (distinct rows))) ≡ distinct (cond b (r ∷ filter p rows) (filter p rows))
    by true e rest = ap (λ rows. r ∷ rows) (filter-swap p (other r) (distinct rows) ∙ ap (filter (other r)) rest)
    by false e rest = filter-inside p (other r) (differs e) (distinct rows) ∙ rest

distinct-behind : (a b c : Rows) → distinct b ≡ distinct c → distinct (a ++ b) ≡ distinct (a ++ c)
distinct-behind [] b c e = e
distinct-behind (r ∷ a) b c e = ap (λ rows. r ∷ filter (other r) rows) (distinct-behind a b c e)

distinct-before : (a b : Rows) → distinct (distinct a ++ b) ≡ distinct (a ++ b)
distinct-before [] b = refl
distinct-before (r ∷ a) b =
    let out : filter (other r) (distinct (filter (other r) (distinct a) ++ b)) ≡ filter (other r) (distinct (distinct a ++ b)) =
    distinct-filter (other r) (filter (other r) (distinct a) ++ b)
    ∙ ap distinct (filter-append (other r) (filter (other r) (distinct a)) b ∙ ap (λ rows. rows ++ filter (other r) b) (filter-inside (other r) (other r) (λ s e. e) (distinct a))
    ∙ sym (filter-append (other r) (distinct a) b))
    ∙ sym (distinct-filter (other r) (distinct a ++ b)) in
    ap (λ rows. r ∷ rows) (out ∙ ap (filter (other r)) (distinct-before a b))

distinct-parts : {X : Type 0} (f : X → Rows) (xs : List X) → distinct (flat_map (λ x. distinct (f x)) xs) ≡ distinct (flat_map f xs)
distinct-parts f [] = refl
distinct-parts f (x ∷ xs) =
    distinct-before (f x) (flat_map (λ x. distinct (f x)) xs)
    ∙ distinct-behind (f x) (flat_map (λ x. distinct (f x)) xs) (flat_map f xs) (distinct-parts f xs)

either : (a b : Bool) → b ≡ true → (a || b) ≡ true
either true b e = refl
either false b e = e

distinct-there : (rows : Rows) → All (λ r. has_row rows r ≡ true) (distinct rows)
distinct-there [] = All-nil (λ r. has_row [] r ≡ true)
distinct-there (r ∷ rows) =
    All-cons (λ s. has_row (r ∷ rows) s ≡ true) r (filter (other r) (distinct rows)) (ap (λ b. b || has_row rows r) (itself r))
    (All-weaker (λ s. has_row rows s ≡ true) (λ s. has_row (r ∷ rows) s ≡ true) (λ s e. either (same_row s r) (has_row rows s) e) (filter (other r) (distinct rows))
    (All-filter (other r) (λ s. has_row rows s ≡ true) (distinct rows) (distinct-there rows)))

-- the one of distinct rows that is this one
distinct-one : (key : Row) (rows : Rows) → filter (same_row key) (distinct rows) ≡ cond (has_row rows key) (key ∷ []) []
distinct-one key [] = refl
distinct-one key (r ∷ rows) = by (same_row key r) refl (distinct-one key rows)
  where
    differs : same_row key r ≡ true → (s : Row) → same_row key s ≡ true → other r s ≡ false
    differs e s k =
        let one : same_row r s ≡ same_row key s = ap (λ t. same_row t s) (sym (tied key r e)) in
        ap not (one ∙ k)

    apart : same_row key r ≡ false → (s : Row) → same_row key s ≡ true → other r s ≡ true
    apart e s k = turn (same_row r s) refl
      where
        turn : (b : Bool) → same_row r s ≡ b → not b ≡ true
        turn true h = let same : same_row key r ≡ same_row key s = ap (same_row key) (tied r s h) in absurd (cc)
        turn false h = refl

    by : (b : Bool) → same_row key r ≡ b → filter (same_row key) (distinct rows) ≡ cond (has_row rows key) (key ∷ []) []
        → cond b (r ∷ filter (same_row key) (filter (other r) (distinct rows))) (filter (same_row key) (filter (other r) (distinct rows))) ≡ cond (b || has_row rows key) (key ∷ []) []
    by true e rest =
        let none = filter-outside (same_row key) (other r) (differs e) (distinct rows) in
        let one = sym (tied key r e) in
        λ i. one i ∷ none i
    by false e rest = filter-inside (same_row key) (other r) (apart e) (distinct rows) ∙ rest

-- ---- the key of a partial row

first-key : (kinds : Kinds) (row : Row) (rows : Rows) → length row ≡ length kinds → key_of (partial_kinds kinds) (partial_of kinds (row ∷ rows)) ≡ key_of kinds row
first-key [] [] rows e = refl
first-key [] (v ∷ row) rows e = absurd (omega (arith, e))
first-key (kind ∷ kinds) [] rows e = absurd (omega (arith, e))
first-key (None ∷ kinds) (v ∷ row) rows e = ap (λ key. v ∷ key) (first-key kinds row (map behind rows) (omega (arith, e)))
first-key (Some agg.Sum ∷ kinds) (v ∷ row) rows e = first-key kinds row (map behind rows) (omega (arith, e))
first-key (Some agg.Count ∷ kinds) (v ∷ row) rows e = first-key kinds row (map behind rows) (omega (arith, e))
first-key (Some agg.CountAll ∷ kinds) (v ∷ row) rows e = first-key kinds row (map behind rows) (omega (arith, e))
first-key (Some agg.Min ∷ kinds) (v ∷ row) rows e = first-key kinds row (map behind rows) (omega (arith, e))
first-key (Some agg.Max ∷ kinds) (v ∷ row) rows e = first-key kinds row (map behind rows) (omega (arith, e))

module _ (kinds : Kinds) where
  -- the partial row of a group
  abbrev pub row_for : Rows → Row → Row
  row_for rows key = split_sums kinds (group_row kinds (members kinds rows key))

  member-key : (key : Row) (rows : Rows) → AreGrouped kinds rows → has_row (map (key_of kinds) rows) key ≡ true
      → key_of (partial_kinds kinds) (partial_of kinds (members kinds rows key)) ≡ key
  member-key key [] all e = absurd (cc)
  member-key key (row ∷ rows) all e =
      by (same_row key (key_of kinds row)) refl e
      (λ k. member-key key rows (All-tail (λ row. length row ≡ length kinds) row rows all) k)
    where
      by : (b : Bool) → same_row key (key_of kinds row) ≡ b → (b || has_row (map (key_of kinds) rows) key) ≡ true
          → (has_row (map (key_of kinds) rows) key ≡ true → key_of (partial_kinds kinds) (partial_of kinds (members kinds rows key)) ≡ key)
          → key_of (partial_kinds kinds) (partial_of kinds (cond b (row ∷ members kinds rows key) (members kinds rows key))) ≡ key
      by true h e rest = first-key kinds row (members kinds rows key) (All-head (λ row. length row ≡ length kinds) row rows all) ∙ sym (tied key (key_of kinds row) h)
      by false h e rest = rest e

  keys-kept : (rows : Rows) → AreGrouped kinds rows → All (λ key. key_of (partial_kinds kinds) (row_for rows key) ≡ key) (keys kinds rows)
  keys-kept rows all =
      All-weaker (λ key. has_row (map (key_of kinds) rows) key ≡ true) (λ key. key_of (partial_kinds kinds) (row_for rows key) ≡ key)
      (λ key e. ap (λ row. key_of (partial_kinds kinds) (split_sums kinds row)) (group_row-columns kinds (members kinds rows key)) ∙ member-key key rows all e)
      (keys kinds rows) (distinct-there (map (key_of kinds) rows))

  map-kept : {X : Type 0} (f : Row → X) (g : X → Row) (some : List Row) → All (λ key. g (f key) ≡ key) some → map g (map f some) ≡ some
  map-kept f g [] all = refl
  map-kept f g (key ∷ some) all =
      let first = All-head (λ key. g (f key) ≡ key) key some all in
      let rest = map-kept f g some (All-tail (λ key. g (f key) ≡ key) key some all) in
      λ i. first i ∷ rest i

  pub partial_rows-row : (rows : Rows) → partial_rows kinds rows ≡ map (row_for rows) (keys kinds rows)
  partial_rows-row rows = map-through (split_sums kinds) (λ key. group_row kinds (members kinds rows key)) (keys kinds rows)

  pub partial-keys : (rows : Rows) → AreGrouped kinds rows → map (key_of (partial_kinds kinds)) (partial_rows kinds rows) ≡ keys kinds rows
  partial-keys rows all =
      ap (map (key_of (partial_kinds kinds))) (partial_rows-row rows) ∙ map-kept (row_for rows) (key_of (partial_kinds kinds)) (keys kinds rows) (keys-kept rows all)

  -- ---- the partial rows with one key

  -- the partial row of these rows, where there are some
  abbrev one_of : Rows → Rows
  one_of [] = []
  one_of (row ∷ rows) = partial_of kinds (row ∷ rows) ∷ []

  pick : (key : Row) (rows some : Rows) → All (λ key. key_of (partial_kinds kinds) (row_for rows key) ≡ key) some
      → members (partial_kinds kinds) (map (row_for rows) some) key ≡ map (row_for rows) (filter (same_row key) some)
  pick key rows [] all = refl
  pick key rows (k ∷ some) all =
      ap (λ t. cond (same_row key t) (row_for rows k ∷ members (partial_kinds kinds) (map (row_for rows) some) key) (members (partial_kinds kinds) (map (row_for rows) some) key))
      (All-head (λ key. key_of (partial_kinds kinds) (row_for rows key) ≡ key) k some all)
      ∙ by (same_row key k) (pick key rows some (All-tail (λ key. key_of (partial_kinds kinds) (row_for rows key) ≡ key) k some all))
    where
      by : (b : Bool) → members (partial_kinds kinds) (map (row_for rows) some) key ≡ map (row_for rows) (filter (same_row key) some)
          → cond b (row_for rows k ∷ members (partial_kinds kinds) (map (row_for rows) some) key) (members (partial_kinds kinds) (map (row_for rows) some) key)
          ≡ map (row_for rows) (cond b (k ∷ filter (same_row key) some) (filter (same_row key) some))
      by true rest = ap (λ rs. row_for rows k ∷ rs) rest
      by false rest = rest

  -- a key that stands among the rows has members
  linked : (key : Row) (f : Rows → Row) → ((row : Row) (rows : Rows) → f (row ∷ rows) ≡ partial_of kinds (row ∷ rows)) → (rows : Rows)
      → cond (has_row (map (key_of kinds) rows) key) (f (members kinds rows key) ∷ []) [] ≡ one_of (members kinds rows key)
  linked key f h [] = refl
  linked key f h (row ∷ rows) = by (same_row key (key_of kinds row)) (linked key f h rows)
    where
      by : (b : Bool) → cond (has_row (map (key_of kinds) rows) key) (f (members kinds rows key) ∷ []) [] ≡ one_of (members kinds rows key)
          → cond (b || has_row (map (key_of kinds) rows) key) (f (cond b (row ∷ members kinds rows key) (members kinds rows key)) ∷ []) []
          ≡ one_of (cond b (row ∷ members kinds rows key) (members kinds rows key))
      by true rest = ap (λ r. r ∷ []) (h row (members kinds rows key))
      by false rest = rest

  members-partial : (key : Row) (rows : Rows) → AreGrouped kinds rows → members (partial_kinds kinds) (partial_rows kinds rows) key ≡ one_of (members kinds rows key)
  members-partial key rows all =
      ap (λ rs. members (partial_kinds kinds) rs key) (partial_rows-row rows) ∙ pick key rows (keys kinds rows) (keys-kept rows all)
      ∙ ap (map (row_for rows)) (distinct-one key (map (key_of kinds) rows))
      ∙ by (has_row (map (key_of kinds) rows) key)
      ∙ linked key (λ rs. split_sums kinds (group_row kinds rs)) (λ r rs. ap (split_sums kinds) (group_row-columns kinds (r ∷ rs))) rows
    where
      by : (b : Bool) → map (row_for rows) (cond b (key ∷ []) []) ≡ cond b (row_for rows key ∷ []) []
      by true = refl
      by false = refl

  -- ---- all lists

  -- the lists that aren't empty
  abbrev filled : List Rows → List Rows
  filled [] = []
  filled ([] ∷ lists) = filled lists
  filled ((row ∷ rows) ∷ lists) = (row ∷ rows) ∷ filled lists

  filled-Filled : (lists : List Rows) → Filled (filled lists)
  filled-Filled [] = tt
  filled-Filled ([] ∷ lists) = filled-Filled lists
  filled-Filled ((row ∷ rows) ∷ lists) = filled-Filled lists

  filled-joined : (lists : List Rows) → joined (filled lists) ≡ joined lists
  filled-joined [] = refl
  filled-joined ([] ∷ lists) = filled-joined lists
  filled-joined ((row ∷ rows) ∷ lists) = ap (λ rs. (row ∷ rows) ++ rs) (filled-joined lists)

  one-more : (rows : Rows) (lists : List Rows) → one_of rows ++ map (partial_of kinds) (filled lists) ≡ map (partial_of kinds) (filled (rows ∷ lists))
  one-more [] lists = refl
  one-more (row ∷ rows) lists = refl

  members-all : (key : Row) (lists : List Rows) → All (AreGrouped kinds) lists
      → members (partial_kinds kinds) (flat_map (partial_rows kinds) lists) key ≡ map (partial_of kinds) (filled (map (λ rows. members kinds rows key) lists))
  members-all key [] all = refl
  members-all key (rows ∷ lists) all =
      filter-append (λ row. same_row key (key_of (partial_kinds kinds) row)) (partial_rows kinds rows) (flat_map (partial_rows kinds) lists)
      ∙ ap (λ rs. rs ++ members (partial_kinds kinds) (flat_map (partial_rows kinds) lists) key) (members-partial key rows (All-head (AreGrouped kinds) rows lists all))
      ∙ ap (λ rs. one_of (members kinds rows key) ++ rs) (members-all key lists (All-tail (AreGrouped kinds) rows lists all))
      ∙ one-more (members kinds rows key) (map (λ rows. members kinds rows key) lists)

  members-joined : (key : Row) (lists : List Rows) → joined (map (λ rows. members kinds rows key) lists) ≡ members kinds (joined lists) key
  members-joined key [] = refl
  members-joined key (rows ∷ lists) =
      ap (λ rs. members kinds rows key ++ rs) (members-joined key lists) ∙ sym (filter-append (λ row. same_row key (key_of kinds row)) rows (joined lists))

  -- the merged row of a key
  merged-row : (key : Row) (lists : List Rows) → All (AreGrouped kinds) lists
      → whole_sums kinds (group_row (partial_kinds kinds) (members (partial_kinds kinds) (flat_map (partial_rows kinds) lists) key)) ≡ group_row kinds (members kinds (joined lists) key)
  merged-row key lists all =
      let given = filled (map (λ rows. members kinds rows key) lists) in
      ap (λ rs. whole_sums kinds (group_row (partial_kinds kinds) rs)) (members-all key lists all)
      ∙ ap (whole_sums kinds) (group_row-columns (partial_kinds kinds) (map (partial_of kinds) given))
      ∙ merged-columns kinds given (filled-Filled (map (λ rows. members kinds rows key) lists))
      ∙ ap (by_columns kinds) (filled-joined (map (λ rows. members kinds rows key) lists) ∙ members-joined key lists)
      ∙ sym (group_row-columns kinds (members kinds (joined lists) key))

  keys-each : (lists : List Rows) → All (AreGrouped kinds) lists
      → map (key_of (partial_kinds kinds)) (flat_map (partial_rows kinds) lists) ≡ flat_map (λ rows. distinct (map (key_of kinds) rows)) lists
  keys-each [] all = refl
  keys-each (rows ∷ lists) all =
      map-append (key_of (partial_kinds kinds)) (partial_rows kinds rows) (flat_map (partial_rows kinds) lists)
      ∙ ap (λ rs. rs ++ map (key_of (partial_kinds kinds)) (flat_map (partial_rows kinds) lists)) (partial-keys rows (All-head (AreGrouped kinds) rows lists all))
      ∙ ap (λ rs. keys kinds rows ++ rs) (keys-each lists (All-tail (AreGrouped kinds) rows lists all))

  keys-joined : (lists : List Rows) → flat_map (map (key_of kinds)) lists ≡ map (key_of kinds) (joined lists)
  keys-joined [] = refl
  keys-joined (rows ∷ lists) = ap (λ rs. map (key_of kinds) rows ++ rs) (keys-joined lists) ∙ sym (map-append (key_of kinds) rows (joined lists))

  keys-merged : (lists : List Rows) → All (AreGrouped kinds) lists → keys (partial_kinds kinds) (flat_map (partial_rows kinds) lists) ≡ keys kinds (joined lists)
  keys-merged lists all =
      ap distinct (keys-each lists all) ∙ distinct-parts (map (key_of kinds)) lists ∙ ap distinct (keys-joined lists)

  -- merged in the order of the lists, the groups in their order
  pub merged-in_order : (lists : List Rows) → All (AreGrouped kinds) lists → merged kinds (flat_map (partial_rows kinds) lists) ≡ groups kinds (joined lists)
  merged-in_order lists all =
      let partials = flat_map (partial_rows kinds) lists in
      map-through (whole_sums kinds) (λ key. group_row (partial_kinds kinds) (members (partial_kinds kinds) partials key)) (keys (partial_kinds kinds) partials)
      ∙ (λ i. map (λ key. merged-row key lists all i) (keys (partial_kinds kinds) partials))
      ∙ ap (map (λ key. group_row kinds (members kinds (joined lists) key))) (keys-merged lists all)

pub merged_are_groups : MergedAreGroups
merged_are_groups kinds lists partials all same =
    subst (λ rows. SameBag (merged kinds partials) rows) (merged-in_order kinds lists all)
    (IsPermutation-map (whole_sums kinds) (groups (partial_kinds kinds) partials) (groups (partial_kinds kinds) (flat_map (partial_rows kinds) lists))
    (groups-same (partial_kinds kinds) partials (flat_map (partial_rows kinds) lists) same))

-- ---- the places of the key

-- the places of what rows are grouped by, from a place on
abbrev pub places : ℕ → Kinds → List ℕ
places i kinds = map (λ e. e.0) (filter (λ e. is_none e.1) (enumerate_from i kinds))

places-behind : (kinds : Kinds) (i : ℕ) (row : Row) → map (value_at row) (places (i + 1) kinds) ≡ map (value_at (behind row)) (places i kinds)
places-behind [] i row = refl
places-behind (None ∷ kinds) i row =
    let first = value-behind row i in
    let rest = places-behind kinds (i + 1) row in
    λ j. first j ∷ rest j
places-behind (Some op ∷ kinds) i row = places-behind kinds (i + 1) row

pub places-key : (kinds : Kinds) (row : Row) → length row ≡ length kinds → map (value_at row) (places 0 kinds) ≡ key_of kinds row
places-key [] [] e = refl
places-key [] (v ∷ row) e = absurd (omega (arith, e))
places-key (kind ∷ kinds) [] e = absurd (omega (arith, e))
places-key (None ∷ kinds) (v ∷ row) e = ap (λ key. v ∷ key) (places-behind kinds 0 (v ∷ row) ∙ places-key kinds row (omega (arith, e)))
places-key (Some op ∷ kinds) (v ∷ row) e = places-behind kinds 0 (v ∷ row) ∙ places-key kinds row (omega (arith, e))

partial-length : (kinds : Kinds) (rows : Rows) → length (partial_of kinds rows) ≡ length (partial_kinds kinds)
partial-length [] rows = refl
partial-length (None ∷ kinds) rows = omega (arith, partial-length kinds (map behind rows))
partial-length (Some agg.Sum ∷ kinds) rows = omega (arith, partial-length kinds (map behind rows))
partial-length (Some agg.Count ∷ kinds) rows = omega (arith, partial-length kinds (map behind rows))
partial-length (Some agg.CountAll ∷ kinds) rows = omega (arith, partial-length kinds (map behind rows))
partial-length (Some agg.Min ∷ kinds) rows = omega (arith, partial-length kinds (map behind rows))
partial-length (Some agg.Max ∷ kinds) rows = omega (arith, partial-length kinds (map behind rows))

pub partials_keep_the_key : PartialsKeepTheKey
partials_keep_the_key kinds rows all = (partial-keys kinds rows all, same ∙ partial-keys kinds rows all)
  where
    at : (key : Row) → map (value_at (row_for kinds rows key)) (partial_keys kinds) ≡ key_of (partial_kinds kinds) (row_for kinds rows key)
    at key =
        places-key (partial_kinds kinds) (row_for kinds rows key)
        (ap (λ row. length (split_sums kinds row)) (group_row-columns kinds (members kinds rows key)) ∙ partial-length kinds (members kinds rows key))

    same : map (λ row. map (value_at row) (partial_keys kinds)) (partial_rows kinds rows) ≡ map (key_of (partial_kinds kinds)) (partial_rows kinds rows)
    same =
        ap (map (λ row. map (value_at row) (partial_keys kinds))) (partial_rows-row kinds rows)
        ∙ map-through (λ row. map (value_at row) (partial_keys kinds)) (row_for kinds rows) (keys kinds rows)
        ∙ (λ i. map (λ key. at key i) (keys kinds rows))
        ∙ sym (map-through (key_of (partial_kinds kinds)) (row_for kinds rows) (keys kinds rows))
        ∙ sym (ap (map (key_of (partial_kinds kinds))) (partial_rows-row kinds rows))

-- ---- some of the keys

filter-map : {X Y : Type 0} (p : Y → Bool) (f : X → Y) (xs : List X) → filter p (map f xs) ≡ map f (filter (λ x. p (f x)) xs)
filter-map p f [] = refl
filter-map {X} {Y} p f (x ∷ xs) = by (p (f x)) (filter-map p f xs)
  where
    by : (b : Bool) → filter p (map f xs) ≡ map f (filter (λ x. p (f x)) xs) → cond b (f x ∷ filter p (map f xs)) (filter p (map f xs)) ≡ map f (cond b (x ∷ filter (λ x. p (f x)) xs) (filter (λ x. p (f x)) xs))
    by true e = ap (λ ys. f x ∷ ys) e
    by false e = e

pub map-agree : {X Y : Type 0} (f g : X → Y) (xs : List X) → All (λ x. f x ≡ g x) xs → map f xs ≡ map g xs
map-agree f g [] h = refl
map-agree f g (x ∷ xs) h =
    let first = All-head (λ y. f y ≡ g y) x xs h in
    let rest = map-agree f g xs (All-tail (λ y. f y ≡ g y) x xs h) in
    λ i. first i ∷ rest i

-- rows that are made for each key
module _ (kinds : Kinds) (make : Rows → Row) (key_again : Row → Row) (test : Row → Bool) where
  abbrev made : Rows → Rows
  made rows = map (λ key. make (members kinds rows key)) (keys kinds rows)

  abbrev passing : Rows → Rows
  passing rows = filter (λ row. test (key_of kinds row)) rows

  made-some : (rows some : Rows) → All (λ key. key_again (make (members kinds rows key)) ≡ key) some
      → filter (λ row. test (key_again row)) (map (λ key. make (members kinds rows key)) some) ≡ map (λ key. make (members kinds rows key)) (filter test some)
  made-some rows [] all = refl
  made-some rows (k ∷ some) all =
      ap (λ t. cond (test t) (make (members kinds rows k) ∷ filter (λ row. test (key_again row)) (map (λ key. make (members kinds rows key)) some)) (filter (λ row. test (key_again row)) (map (λ key. make (members kinds rows key)) some)))
      (All-head (λ key. key_again (make (members kinds rows key)) ≡ key) k some all)
      ∙ by (test k) (made-some rows some (All-tail (λ key. key_again (make (members kinds rows key)) ≡ key) k some all))
    where
      by : (b : Bool) → filter (λ row. test (key_again row)) (map (λ key. make (members kinds rows key)) some) ≡ map (λ key. make (members kinds rows key)) (filter test some)
          → cond b (make (members kinds rows k) ∷ filter (λ row. test (key_again row)) (map (λ key. make (members kinds rows key)) some)) (filter (λ row. test (key_again row)) (map (λ key. make (members kinds rows key)) some))
          ≡ map (λ key. make (members kinds rows key)) (cond b (k ∷ filter test some) (filter test some))
      by true rest = ap (λ rs. make (members kinds rows k) ∷ rs) rest
      by false rest = rest

  members-passing : (rows : Rows) (key : Row) → test key ≡ true → members kinds (passing rows) key ≡ members kinds rows key
  members-passing rows key e =
      filter-inside (λ row. same_row key (key_of kinds row)) (λ row. test (key_of kinds row)) (λ row k. ap test (sym (tied key (key_of kinds row) k)) ∙ e) rows

  keys-passing : (rows : Rows) → filter test (keys kinds rows) ≡ keys kinds (passing rows)
  keys-passing rows = distinct-filter test (map (key_of kinds) rows) ∙ ap distinct (filter-map test (key_of kinds) rows)

  pub made-passing : (rows : Rows) → All (λ key. key_again (make (members kinds rows key)) ≡ key) (keys kinds rows) → filter (λ row. test (key_again row)) (made rows) ≡ made (passing rows)
  made-passing rows all =
      made-some rows (keys kinds rows) all
      ∙ map-agree (λ key. make (members kinds rows key)) (λ key. make (members kinds (passing rows) key)) (filter test (keys kinds rows))
      (All-weaker (λ key. test key ≡ true) (λ key. make (members kinds rows key) ≡ make (members kinds (passing rows) key)) (λ key e. ap make (sym (members-passing rows key e)))
      (filter test (keys kinds rows)) (filter_passes test (keys kinds rows)))
      ∙ ap (map (λ key. make (members kinds (passing rows) key))) (keys-passing rows)

first-own_key : (kinds : Kinds) (row : Row) (rows : Rows) → length row ≡ length kinds → key_of kinds (by_columns kinds (row ∷ rows)) ≡ key_of kinds row
first-own_key [] [] rows e = refl
first-own_key [] (v ∷ row) rows e = absurd (omega (arith, e))
first-own_key (kind ∷ kinds) [] rows e = absurd (omega (arith, e))
first-own_key (None ∷ kinds) (v ∷ row) rows e = ap (λ key. v ∷ key) (first-own_key kinds row (map behind rows) (omega (arith, e)))
first-own_key (Some op ∷ kinds) (v ∷ row) rows e = first-own_key kinds row (map behind rows) (omega (arith, e))

module _ (kinds : Kinds) where
  own_key : (key : Row) (rows : Rows) → AreGrouped kinds rows → has_row (map (key_of kinds) rows) key ≡ true
      → key_of kinds (by_columns kinds (members kinds rows key)) ≡ key
  own_key key [] all e = absurd (cc)
  own_key key (row ∷ rows) all e =
      by (same_row key (key_of kinds row)) refl e (λ k. own_key key rows (All-tail (λ row. length row ≡ length kinds) row rows all) k)
    where
      by : (b : Bool) → same_row key (key_of kinds row) ≡ b → (b || has_row (map (key_of kinds) rows) key) ≡ true
          → (has_row (map (key_of kinds) rows) key ≡ true → key_of kinds (by_columns kinds (members kinds rows key)) ≡ key)
          → key_of kinds (by_columns kinds (cond b (row ∷ members kinds rows key) (members kinds rows key))) ≡ key
      by true h e rest = first-own_key kinds row (members kinds rows key) (All-head (λ row. length row ≡ length kinds) row rows all) ∙ sym (tied key (key_of kinds row) h)
      by false h e rest = rest e

  own_keys : (rows : Rows) → AreGrouped kinds rows → All (λ key. key_of kinds (group_row kinds (members kinds rows key)) ≡ key) (keys kinds rows)
  own_keys rows all =
      All-weaker (λ key. has_row (map (key_of kinds) rows) key ≡ true) (λ key. key_of kinds (group_row kinds (members kinds rows key)) ≡ key)
      (λ key e. ap (key_of kinds) (group_row-columns kinds (members kinds rows key)) ∙ own_key key rows all e)
      (keys kinds rows) (distinct-there (map (key_of kinds) rows))

  module _ (test : Row → Bool) where
    abbrev some_rows : Rows → Rows
    some_rows rows = filter (λ row. test (key_of kinds row)) rows

    partials-passing : (rows : Rows) → AreGrouped kinds rows → filter (λ row. test (key_of (partial_kinds kinds) row)) (partial_rows kinds rows) ≡ partial_rows kinds (some_rows rows)
    partials-passing rows all =
        ap (filter (λ row. test (key_of (partial_kinds kinds) row))) (partial_rows-row kinds rows)
        ∙ made-passing kinds (λ rs. split_sums kinds (group_row kinds rs)) (key_of (partial_kinds kinds)) test rows (keys-kept kinds rows all)
        ∙ sym (partial_rows-row kinds (some_rows rows))

    partials-each : (lists : List Rows) → All (AreGrouped kinds) lists
        → flat_map (λ rows. filter (λ row. test (key_of (partial_kinds kinds) row)) (partial_rows kinds rows)) lists ≡ flat_map (partial_rows kinds) (map some_rows lists)
    partials-each [] all = refl
    partials-each (rows ∷ lists) all =
        let first = partials-passing rows (All-head (AreGrouped kinds) rows lists all) in
        let rest = partials-each lists (All-tail (AreGrouped kinds) rows lists all) in
        λ i. first i ++ rest i

    some-joined : (lists : List Rows) → joined (map some_rows lists) ≡ some_rows (joined lists)
    some-joined [] = refl
    some-joined (rows ∷ lists) = ap (λ rs. some_rows rows ++ rs) (some-joined lists) ∙ sym (filter-append (λ row. test (key_of kinds row)) rows (joined lists))

    some-grouped : (lists : List Rows) → All (AreGrouped kinds) lists → All (AreGrouped kinds) (map some_rows lists)
    some-grouped [] all = All-nil (AreGrouped kinds)
    some-grouped (rows ∷ lists) all =
        All-cons (AreGrouped kinds) (some_rows rows) (map some_rows lists)
        (All-filter (λ row. test (key_of kinds row)) (λ row. length row ≡ length kinds) rows (All-head (AreGrouped kinds) rows lists all))
        (some-grouped lists (All-tail (AreGrouped kinds) rows lists all))

  joined-grouped : (lists : List Rows) → All (AreGrouped kinds) lists → AreGrouped kinds (joined lists)
  joined-grouped [] all = All-nil (λ row. length row ≡ length kinds)
  joined-grouped (rows ∷ lists) all =
      All-append (λ row. length row ≡ length kinds) rows (joined lists) (All-head (AreGrouped kinds) rows lists all) (joined-grouped lists (All-tail (AreGrouped kinds) rows lists all))

pub groups_meet_by_key : GroupsMeetByKey
groups_meet_by_key kinds lists partials test all same =
    let some = map (some_rows kinds test) lists in
    subst (λ rows. SameBag (merged kinds partials) rows)
    (ap (groups kinds) (some-joined kinds test lists) ∙ sym (made-passing kinds (group_row kinds) (key_of kinds) test (joined lists) (own_keys kinds (joined lists) (joined-grouped kinds lists all))))
    (merged_are_groups kinds some partials (some-grouped kinds test lists all) (subst (λ rows. SameBag partials rows) (partials-each kinds test lists all) same))

pub sums_are_split : SumsAreSplit
sums_are_split (pos n) = (high-low (pos n), (n % 2 ^ 62, refl, mod_below n (2 ^ 62) (omega arith)))
sums_are_split (negsuc n) = (high-low (negsuc n), (2 ^ 62 - 1 - n % 2 ^ 62, refl, omega arith))
