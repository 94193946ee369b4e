-- What a script stores is placed: by induction over its steps.
use Rattle.std.proofs.Common.{◌≡◌, ℕ, zero, suc, ◌+◌, ◌<◌, ◌≤◌, ◌==◌, Bool, true, false, cond, List, [], ◌∷◌, ◌++◌, map, length, refl, sym, ◌∙◌, ap, subst, arith, Some}
use Rattle.std.specs.Prelude.{filter, All, find, option_map, unwrap_or, slice_index_or, fold, set, ⊤, ◌&&◌, nat_le, Option}
use Rattle.std.specs.Cmp.Lexicographic.{pointwise}
use Rattle.std.proofs.lemmas.Bool.{ltb-true}
use Rattle.rel_base.specs.declared.values.ColType.{ColType}
use Rattle.algebra.specs.Conditions.{has_kinds, emits_columns}
use Rattle.algebra.specs.ShapeConditions.{is_atom, is_shape, is_kind, kind_in, kinds_of, are_variables, are_scalars}
use Rattle.rel_base.specs.Limits.{most_items}
use Rattle.algebra.specs.Trees.{AtomTree}
use Rattle.std.specs.List.{range_with_len, enumerate_from, zip}
use Rattle.std.proofs.lemmas.Nat.{mod_below, mul-add-lt}
use Rattle.std.proofs.lemmas.List.{length-map, set-get_or, get_or-map}
use Rattle.std.proofs.lemmas.List.Elements.{All-nil, All-cons, All-head, All-tail}
use Rattle.std.proofs.lemmas.List.FromFn.{length-map-range_with_len}
use Rattle.std.proofs.lemmas.List.Sorted.{IsPermutation-refl, IsPermutation-trans}
use Rattle.rel_base.specs.Bags.{SameBag}
use Rattle.rel_base.specs.Keys.{File}
use Rattle.rel_base.specs.Codes.{code_of}
use Rattle.rel_base.specs.declared.names.Key.{Key}
use Rattle.rel_base.specs.declared.values.Value.{Value}
use Rattle.share_chooser.specs.Load.{product}
use Rattle.share_chooser.proofs.LoadLemmas.{product-cons, product_positive, AllPositive}
use Rattle.hash_partition.specs.Cells.{cell_number}
use Rattle.hash_partition.specs.Hashing.{home_of, hash_of, key_code_of}
use Rattle.myrial_ast.specs.Combinations.{Row, Rows, listed_from}
use Rattle.myrial_ast.specs.Groups.{key_of}
use Rattle.bag_laws.specs.Permuted.{SameTables, no_table, a_table}
use Rattle.bag_laws.proofs.RowPermutations.{candidates-same, listed_from-same}
use Rattle.algebra.specs.declared.terms.Source.{Source}
use Rattle.algebra.specs.declared.terms.Source.TheVariants as source
use Rattle.algebra.specs.declared.terms.StoreStep.{StoreStep}
use Rattle.algebra.specs.Trees.{Shape, TermTree, Same, Empty, UnionAll, Diff, Distinct, Join, Group, StepTree, CheckedTree}
use Rattle.algebra.specs.Shapes.{widths_of, tests_of, ties_of, tie_test, candidates_of, listed_of, kept_of}
use Rattle.algebra.specs.Meanings.{found, term_rows}
use Rattle.algebra.specs.Conditions.{is_of, are_steps, is_store, is_term, source_kinds, kinds_of_columns}
use Rattle.algebra.specs.Rewriting.{AreTyped}
use Rattle.algebra.proofs.ShapeLemmas.{both}
use Rattle.std.specs.Prelude.{IsTrue, nat_lt}
use Rattle.std.specs.List.{list_all}
use Rattle.placement.proofs.WidthLemmas.{Knows, ItemsAreWide, three, pointwise-length, items-wide, term-long, nothing-known, more-known}
use Rattle.placement.specs.Destinations.{coordinate_in, meeting_cell}
use Rattle.placement.specs.Layouts.{PlacedRelation, Placing, Shuffle, ByCells, ByKeys, Broadcast, placed_nothing, parts_by_home, part, together, placed_file, placed_files, prefix_key, last_atom, staying_atom, is_most, rows_of, join_parts, listed_parts, term_parts, placed_source, placed_step, placed_steps, joined_items}
use Rattle.placement.specs.Laws.{AreWide, IsPlaced, IsSharing, IsPlacing, PartsHoldTheRows}
use Rattle.placement.proofs.TogetherLemmas.{dealt-together, listed_dealt}
use Rattle.placement.proofs.JoinedLemmas.{joined_are_joined}
use Rattle.placement.proofs.StepLemmas.{file-IsPlaced, union-together, listed-parts}

-- ---- homes are workers

-- a number in mixed radix is below the product, where each coordinate is below its share
number-lt : (coordinate : ℕ × (ℕ × List ℕ) → ℕ) → ((d : ℕ × (ℕ × List ℕ)) → 1 ≤ d.1.0 → coordinate d < d.1.0)
    → (i : ℕ) (shares : List ℕ) (variables : List (List ℕ)) → AllPositive shares
    → cell_number shares (map coordinate (enumerate_from i (zip shares variables))) < product shares
number-lt coordinate below i [] variables positive = omega arith
number-lt coordinate below i (p ∷ ps) [] positive = product_positive (p ∷ ps) positive
number-lt coordinate below i (p ∷ ps) (v ∷ vs) positive =
    let here = below (i, (p, v)) (All-head (λ x. 1 ≤ x) p ps positive) in
    let rest = number-lt coordinate below (i + 1) ps vs (All-tail (λ x. 1 ≤ x) p ps positive) in
    rw product-cons (omega (arith, mul-add-lt (coordinate (i, (p, v))) (product ps) (cell_number ps (map coordinate (enumerate_from (i + 1) (zip ps vs)))) p here rest))

meeting_cell-lt : (seed : ℕ) (shares : List ℕ) (shape : Shape) (row : Row) → AllPositive shares → meeting_cell seed shares shape row < product shares
meeting_cell-lt seed shares shape row positive =
    number-lt (λ d. coordinate_in seed d row (unwrap_or (find (λ c. true) d.1.1) 0))
    (λ d some. mod_below (hash_of seed d.0 (code_of _)) d.1.0 (omega (arith, some))) 0 shares shape.variables positive

pub home_of-lt : (seed : ℕ) (key : List Value) (n : ℕ) → 1 ≤ n → home_of seed key n < n
home_of-lt seed [] n some = some
home_of-lt seed (v ∷ vs) n some = mod_below (hash_of seed 0 (key_code_of (v ∷ vs))) n (omega (arith, some))

found-lt : (p : ℕ → Bool) (d m a n : ℕ) → d < m → a + n ≤ m → unwrap_or (find p (range_with_len a n)) d < m
found-lt p d m a zero low room = low
found-lt p d m a (suc n) low room = by (p a) (found-lt p d m (a + 1) n low (omega arith))
  where
    by : (b : Bool) → unwrap_or (find p (range_with_len (a + 1) n)) d < m → unwrap_or (cond b (Some a) (find p (range_with_len (a + 1) n))) d < m
    by true rest = omega arith
    by false rest = rest

stays-lt : (shape : Shape) (given : List Rows) → 1 ≤ length given → staying_atom shape given < length given
stays-lt shape given some =
    found-lt (is_most (map (λ e. length (kept_of shape e.0 e.1)) (enumerate_from 0 given))) 0 (length given) 0 (length given) some (omega arith)

-- ---- joins

SameTables-refl : (tables : List Rows) → SameTables tables tables
SameTables-refl [] = no_table
SameTables-refl (rows ∷ tables) = a_table rows rows tables tables (IsPermutation-refl rows) (SameTables-refl tables)

SameTables-set : (tables : List Rows) (j : ℕ) (a b : Rows) → SameBag a b → SameTables (set tables j a) (set tables j b)
SameTables-set [] j a b h = no_table
SameTables-set (rows ∷ tables) zero a b h = a_table a b tables tables h (SameTables-refl tables)
SameTables-set (rows ∷ tables) (suc j) a b h =
    a_table rows rows (set tables j a) (set tables j b) (IsPermutation-refl rows) (SameTables-set tables j a b h)

listed_of-same : (shape : Shape) (ts us : List Rows) → SameTables ts us → SameBag (listed_of shape ts) (listed_of shape us)
listed_of-same shape ts us h =
    listed_from-same shape.arith shape.emits (candidates_of shape ts) (candidates_of shape us)
    (candidates-same (tests_of shape ++ map tie_test (ties_of shape)) ts us h)

-- the join where one item is cut to its parts
cut-together : (n : ℕ) (shape : Shape) (given : List PlacedRelation) (j : ℕ) → j < length given → IsPlaced n (slice_index_or given j (placed_nothing n))
    → SameBag (listed_of shape (rows_of given)) (together (map (λ own. listed_of shape (set (rows_of given) j own)) (slice_index_or given j (placed_nothing n)).parts))
cut-together n shape given j l placed =
    let one = slice_index_or given j (placed_nothing n) in
    let here : slice_index_or (rows_of given) j [] ≡ one.relation.rows = get_or-map (λ (p : PlacedRelation). p.relation.rows) given j (placed_nothing n) [] l in
    let same : set (rows_of given) j one.relation.rows ≡ rows_of given = ap (λ rows. set (rows_of given) j rows) (sym here) ∙ set-get_or (rows_of given) j [] in
    IsPermutation-trans (listed_of shape (rows_of given)) (listed_of shape (set (rows_of given) j (together one.parts)))
    (together (map (λ own. listed_of shape (set (rows_of given) j own)) one.parts))
    (subst (λ ts. SameBag (listed_of shape ts) (listed_of shape (set (rows_of given) j (together one.parts)))) same
    (listed_of-same shape (set (rows_of given) j one.relation.rows) (set (rows_of given) j (together one.parts))
    (SameTables-set (rows_of given) j one.relation.rows (together one.parts) placed.all_rows)))
    (listed-parts shape (rows_of given) j (omega (arith, length-map given (λ (p : PlacedRelation). p.relation.rows))) one.parts)

-- a relation with these rows and parts
abbrev pub AreParts : ℕ → Rows → List Rows → Type 0
AreParts n rows parts = (length parts ≡ n) × SameBag rows (together parts)

dealt-AreParts : (n : ℕ) (home : Row → ℕ) (rows : Rows) → ((row : Row) → home row < n) → AreParts n rows (parts_by_home n home rows)
dealt-AreParts n home rows low = (length-map-range_with_len (λ w. filter (λ row. home row == w) rows) 0 n, dealt-together n home low rows)

listed-AreParts : (n : ℕ) (shape : Shape) (home : Row → ℕ) (rows : Rows) → ((row : Row) → home row < n)
    → AreParts n (listed_from shape.arith shape.emits rows) (map (listed_from shape.arith shape.emits) (parts_by_home n home rows))
listed-AreParts n shape home rows low = (
  length-map (parts_by_home n home rows) (listed_from shape.arith shape.emits) ∙ length-map-range_with_len (λ w. filter (λ row. home row == w) rows) 0 n,
  listed_dealt shape.arith shape.emits n home low rows,
)

pub get_or-All : {X : Type 0} (P : X → Type 0) (xs : List X) (i : ℕ) (d : X) → P d → All P xs → P (slice_index_or xs i d)
get_or-All P [] i d none all = none
get_or-All P (x ∷ xs) zero d none all = All-head P x xs all
get_or-All P (x ∷ xs) (suc i) d none all = get_or-All P xs i d none (All-tail P x xs all)

pub nothing_IsPlaced : (n : ℕ) → IsPlaced n (placed_nothing n)
nothing_IsPlaced n = record {
  each_worker = length-map-range_with_len {X = Rows} (λ w. []) 0 n;
  all_rows = nothing (range_with_len 0 n);
}
  where
    nothing : (ws : List ℕ) → SameBag [] (together (map {B = Rows} (λ w. []) ws))
    nothing [] = IsPermutation-refl []
    nothing (w ∷ ws) = nothing ws

met-AreParts : (n seed : ℕ) (how : Shuffle) (shape : Shape) (given : List PlacedRelation) → 1 ≤ n → IsSharing n shape how → 1 ≤ length given → All (IsPlaced n) given
    → AreParts n (listed_of shape (rows_of given)) (join_parts n seed how shape given)
met-AreParts n seed (ByCells shares) shape given some sharing sources placed =
    listed-AreParts n shape (meeting_cell seed shares shape) (candidates_of shape (rows_of given))
    (λ row. omega (arith, meeting_cell-lt seed shares shape row sharing.positive, sharing.cells))
met-AreParts n seed ByKeys shape given some sharing sources placed =
    listed-AreParts n shape (λ row. home_of seed (prefix_key shape (last_atom shape) row) n) (candidates_of shape (rows_of given))
    (λ row. home_of-lt seed (prefix_key shape (last_atom shape) row) n some)
met-AreParts n seed Broadcast shape given some sharing sources placed =
    let j = staying_atom shape (rows_of given) in
    let many = length-map given (λ (p : PlacedRelation). p.relation.rows) in
    let within : j < length given = omega (arith, many, stays-lt shape (rows_of given) (omega (arith, many, sources))) in
    let one = get_or-All (IsPlaced n) given j (placed_nothing n) (nothing_IsPlaced n) placed in (
      length-map (slice_index_or given j (placed_nothing n)).parts (λ own. listed_of shape (set (rows_of given) j own)) ∙ one.each_worker,
      cut-together n shape given j within one,
    )

pub join-AreParts : (p : Placing) (number : ℕ) (shape : Shape) (given : List PlacedRelation) → IsPlacing p → AreWide (widths_of shape) (rows_of given) → 1 ≤ length given → All (IsPlaced p.workers) given
    → AreParts p.workers (listed_of shape (rows_of given)) (listed_parts p number shape given)
join-AreParts p number shape [] good wide sources placed = absurd (omega arith)
join-AreParts p number shape (one ∷ []) good wide sources placed =
    let own = All-head (IsPlaced p.workers) one [] placed in
    (length-map one.parts (λ own. listed_of shape (own ∷ [])) ∙ own.each_worker, cut-together p.workers shape (one ∷ []) 0 (omega arith) own)
join-AreParts p number shape (one ∷ two ∷ more) good wide sources placed =
    let given = one ∷ two ∷ more in
    let items = joined_items p.reduce shape given in
    let same = joined_are_joined p.workers p.reduce shape given in
    subst (λ rows. AreParts p.workers (listed_from shape.arith shape.emits rows) (listed_parts p number shape given)) (same.candidates wide)
    (met-AreParts p.workers p.seed (p.shuffle number shape (rows_of items)) shape items good.some_worker
    (good.sharing number shape (rows_of items)) (omega (arith, same.as_many, sources)) (same.placed placed))

-- ---- terms

-- a join has a source at least
abbrev pub HasSources : TermTree → Type 0
HasSources (Join shape sources) = 1 ≤ length sources
HasSources (Group shape sources kinds) = 1 ≤ length sources
HasSources _ = ⊤

rows_of-map : (value : Source → PlacedRelation) (sources : List Source) → rows_of (map value sources) ≡ map (λ o. (value o).relation.rows) sources
rows_of-map value [] = refl
rows_of-map value (o ∷ sources) = ap (λ rest. (value o).relation.rows ∷ rest) (rows_of-map value sources)

pub All-made : {X Y : Type 0} (P : Y → Type 0) (f : X → Y) → ((x : X) → P (f x)) → (xs : List X) → All P (map f xs)
All-made P f h [] = All-nil P
All-made P f h (x ∷ xs) = All-cons P (f x) (map f xs) (h x) (All-made P f h xs)

-- a shape has an atom at least
first-of : (a b c d e : Bool) → (((a && b && c) && d) && e) ≡ true → a ≡ true
first-of true b c d e k = refl
first-of false b c d e k = k

pub first-of-shape : (shape : Shape) → is_shape shape ≡ true → nat_lt 0 (length shape.atoms) ≡ true
first-of-shape shape k =
    first-of (nat_lt 0 (length shape.atoms)) (nat_le (length shape.atoms) most_items) (list_all is_atom shape.atoms)
    (are_variables (kinds_of shape) (widths_of shape) shape.variables)
    (are_scalars (kinds_of shape) shape.plain shape.arith shape.emits) k

shape-sources : (shape : Shape) (sources : List Source) (test : Source → AtomTree → Bool) → is_shape shape ≡ true → pointwise test sources shape.atoms ≡ true → 1 ≤ length sources
shape-sources shape sources test h k =
    omega (arith, ltb-true 0 (length shape.atoms) (first-of-shape shape h), pointwise-length test sources shape.atoms k)

-- a term that is well formed joins one source at least
has-sources : (known : Source → Option (List ColType)) (t : TermTree) (columns : List ColType) → is_term known t columns ≡ true → HasSources t
has-sources known (Same s) columns k = tt
has-sources known Empty columns k = tt
has-sources known (UnionAll s t) columns k = tt
has-sources known (Diff s t) columns k = tt
has-sources known (Distinct s) columns k = tt
has-sources known (Join shape sources) columns k =
    let parts = three (is_shape shape) (pointwise (λ s (a : AtomTree). has_kinds (known s) a.kinds) sources shape.atoms) (pointwise (λ e k. is_kind k (kind_in (kinds_of shape) e)) shape.emits columns) k in
    shape-sources shape sources (λ s (a : AtomTree). has_kinds (known s) a.kinds) parts.0 parts.1
has-sources known (Group shape sources kinds) columns k =
    let parts = three (is_shape shape) (pointwise (λ s (a : AtomTree). has_kinds (known s) a.kinds) sources shape.atoms) (emits_columns (kinds_of shape) kinds shape.emits columns) k in
    shape-sources shape sources (λ s (a : AtomTree). has_kinds (known s) a.kinds) parts.0 parts.1

term-AreParts : (p : Placing) (number : ℕ) (value : Source → PlacedRelation) (t : TermTree) → IsPlacing p → ItemsAreWide value t → HasSources t → ((o : Source) → IsPlaced p.workers (value o))
    → AreParts p.workers (term_rows (λ o. (value o).relation.rows) t) (term_parts p number value t)
term-AreParts p number value (Same s) good wide sources placed = ((placed s).each_worker, (placed s).all_rows)
term-AreParts p number value Empty good wide sources placed =
    let nothing = nothing_IsPlaced p.workers in
    (nothing.each_worker, nothing.all_rows)
term-AreParts p number value (UnionAll s t) good wide sources placed =
    (length-map-range_with_len (λ w. part (value s) w ++ part (value t) w) 0 p.workers, union-together p.workers (value s) (value t) (placed s) (placed t))
term-AreParts p number value (Diff s t) good wide sources placed =
    dealt-AreParts p.workers (λ row. home_of p.seed row p.workers) (term_rows (λ o. (value o).relation.rows) (Diff s t))
    (λ row. home_of-lt p.seed row p.workers good.some_worker)
term-AreParts p number value (Distinct s) good wide sources placed =
    dealt-AreParts p.workers (λ row. home_of p.seed row p.workers) (term_rows (λ o. (value o).relation.rows) (Distinct s))
    (λ row. home_of-lt p.seed row p.workers good.some_worker)
term-AreParts p number value (Join shape given) good wide sources placed =
    subst (λ rows. AreParts p.workers (listed_of shape rows) (listed_parts p number shape (map value given))) (rows_of-map value given)
    (join-AreParts p number shape (map value given) good wide (omega (arith, length-map given value, sources)) (All-made (IsPlaced p.workers) value placed given))
term-AreParts p number value (Group shape given kinds) good wide sources placed =
    dealt-AreParts p.workers (λ row. home_of p.seed (key_of kinds row) p.workers) (term_rows (λ o. (value o).relation.rows) (Group shape given kinds))
    (λ row. home_of-lt p.seed (key_of kinds row) p.workers good.some_worker)

-- ---- steps: what holds of files, of nothing and of each step by those before it holds of what every source stands for

module _ {X : Type 0} (P : X → Type 0) where
  result-keeps : (d : X) (results : List (ℕ × X)) (number : ℕ) → P d → All (λ (r : ℕ × X). P r.1) results
      → P (unwrap_or (option_map (λ (r : ℕ × X). r.1) (find (λ r. r.0 == number) results)) d)
  result-keeps d [] number none all = none
  result-keeps d (r ∷ results) number none all = by (r.0 == number) (result-keeps d results number none (All-tail (λ (r : ℕ × X). P r.1) r results all))
    where
      by : (b : Bool) → P (unwrap_or (option_map (λ (r : ℕ × X). r.1) (find (λ r. r.0 == number) results)) d)
          → P (unwrap_or (option_map (λ (r : ℕ × X). r.1) (cond b (Some r) (find (λ r. r.0 == number) results))) d)
      by true rest = All-head (λ (r : ℕ × X). P r.1) r results all
      by false rest = rest

  found-keeps : (d : X) (files : List X) (results : List (ℕ × X)) → P d → All P files → All (λ (r : ℕ × X). P r.1) results
      → (o : Source) → P (found d files results o)
  found-keeps d files results none lent all (source.File place) = get_or-All P files place d none lent
  found-keeps d files results none lent all (source.Result number) = result-keeps d results number none all

  pub run-keeps : (Q : StepTree → Type 0) (value : List (ℕ × X) → StepTree → X)
      → ((results : List (ℕ × X)) (s : StepTree) → All (λ (r : ℕ × X). P r.1) results → Q s → P (value results s))
      → (steps : List StepTree) → All Q steps → (results : List (ℕ × X)) → All (λ (r : ℕ × X). P r.1) results
      → All (λ (r : ℕ × X). P r.1) (fold (λ before (s : StepTree). (s.statement, value before s) ∷ before) results steps)
  run-keeps Q value step [] good results all = all
  run-keeps Q value step (s ∷ steps) good results all =
      run-keeps Q value step steps (All-tail Q s steps good) ((s.statement, value results s) ∷ results)
      (All-cons (λ (r : ℕ × X). P r.1) (s.statement, value results s) results (step results s all (All-head Q s steps good)) all)

files-IsPlaced : (p : Placing) (files : List File) → IsPlacing p → All (IsPlaced p.workers) (placed_files p files)
files-IsPlaced p files good = All-made (IsPlaced p.workers) (λ (f : File). placed_file p.workers f.1) (λ f. file-IsPlaced p.workers f.1 good.some_worker) files

pub found-IsPlaced : (p : Placing) (files : List File) (results : List (ℕ × PlacedRelation)) → IsPlacing p → All (λ (r : ℕ × PlacedRelation). IsPlaced p.workers r.1) results
    → (o : Source) → IsPlaced p.workers (placed_source p files results o)
found-IsPlaced p files results good all =
    found-keeps (IsPlaced p.workers) (placed_nothing p.workers) (placed_files p files) results (nothing_IsPlaced p.workers) (files-IsPlaced p files good) all

pub step-IsPlaced : (p : Placing) (files : List File) → IsPlacing p → (results : List (ℕ × PlacedRelation)) (s : StepTree)
    → All (λ (r : ℕ × PlacedRelation). IsPlaced p.workers r.1) results → ItemsAreWide (placed_source p files results) s.term → HasSources s.term → IsPlaced p.workers (placed_step p files results s)
step-IsPlaced p files good results s all wide sources =
    let parts = term-AreParts p s.statement (placed_source p files results) s.term good wide sources (found-IsPlaced p files results good all) in
    record { each_worker = parts.0; all_rows = parts.1 }

-- every step is placed, by those before it
steps-from : (p : Placing) (files : List File) → IsPlacing p → (steps : List StepTree) (last : ℕ) (earlier : List StepTree) (results : List (ℕ × PlacedRelation))
    → are_steps files last earlier steps ≡ true → Knows (source_kinds files earlier) (placed_source p files results) → All (λ (r : ℕ × PlacedRelation). IsPlaced p.workers r.1) results
    → All (λ (r : ℕ × PlacedRelation). IsPlaced p.workers r.1) (fold (λ before (s : StepTree). (s.statement, placed_step p files before s) ∷ before) results steps)
steps-from p files good [] last earlier results h known all = all
steps-from p files good (s ∷ steps) last earlier results h known all =
    let parts = three (nat_lt last s.statement) (is_term (source_kinds files earlier) s.term (kinds_of_columns s.schema)) (are_steps files s.statement (s ∷ earlier) steps) h in
    let value = placed_source p files results in
    let wide = items-wide (source_kinds files earlier) value s.term (kinds_of_columns s.schema) known parts.1 in
    let own = placed_step p files results s in
    steps-from p files good steps s.statement (s ∷ earlier) ((s.statement, own) ∷ results) parts.2
    (more-known p files results earlier s own known (term-long (source_kinds files earlier) value s.term (kinds_of_columns s.schema) known parts.1))
    (All-cons (λ (r : ℕ × PlacedRelation). IsPlaced p.workers r.1) (s.statement, own) results
    (step-IsPlaced p files good results s all wide (has-sources (source_kinds files earlier) s.term (kinds_of_columns s.schema) parts.1)) all)

-- each step's joins have sources
pub steps-sources : (files : List File) (steps : List StepTree) (last : ℕ) (earlier : List StepTree) → are_steps files last earlier steps ≡ true → All (λ (s : StepTree). HasSources s.term) steps
steps-sources files [] last earlier h = All-nil (λ (s : StepTree). HasSources s.term)
steps-sources files (s ∷ steps) last earlier h =
    let parts = three (nat_lt last s.statement) (is_term (source_kinds files earlier) s.term (kinds_of_columns s.schema)) (are_steps files s.statement (s ∷ earlier) steps) h in
    All-cons (λ (s : StepTree). HasSources s.term) s steps (has-sources (source_kinds files earlier) s.term (kinds_of_columns s.schema) parts.1) (steps-sources files steps s.statement (s ∷ earlier) parts.2)

pub checked-steps : (files : List File) (c : CheckedTree) → IsTrue (is_of files c) → are_steps files 0 [] c.steps ≡ true
checked-steps files c of_files = (both (are_steps files 0 [] c.steps) (list_all (is_store files c.steps) c.stores) of_files).0

pub steps-IsPlaced : (p : Placing) (files : List File) (c : CheckedTree) → IsPlacing p → IsTrue (is_of files c) → AreTyped files
    → All (λ (r : ℕ × PlacedRelation). IsPlaced p.workers r.1) (placed_steps p files c.steps)
steps-IsPlaced p files c good of_files typed =
    steps-from p files good c.steps 0 [] [] (checked-steps files c of_files) (nothing-known p files typed) (All-nil (λ (r : ℕ × PlacedRelation). IsPlaced p.workers r.1))

pub parts_hold_the_rows : PartsHoldTheRows
parts_hold_the_rows p files c good of_files typed =
    All-made (λ (stored : Key × PlacedRelation). IsPlaced p.workers stored.1) (λ (s : StoreStep). (s.key, placed_source p files (placed_steps p files c.steps) s.source))
    (λ s. found-IsPlaced p files (placed_steps p files c.steps) good (steps-IsPlaced p files c good of_files typed) s.source) c.stores
