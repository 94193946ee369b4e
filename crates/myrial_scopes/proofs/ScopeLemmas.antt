-- Columns in scope and the places of those that pass, one further at a time.
use Rattle.std.proofs.Common.{◌≡◌, ◌∙◌, ℕ, suc, ◌+◌, ◌<◌, ◌≤◌, Bool, true, false, cond, Option, Some, None, List, [], ◌∷◌, ◌++◌, length, map, filter, get_or, take, refl, sym, ap, arith, add-zero}
use Rattle.std.proofs.lemmas.List.{get_or_default, take_more, take_all, map-append, map_push, append-nil, length-map, length-take-le, get_or-map, get_or_read}
use Rattle.std.proofs.lemmas.List.Concat.{flat_map-append}
use Rattle.std.proofs.lemmas.List.Elements.{filter-append}
use Rattle.std.specs.Prelude.{unwrap_or}
use Rattle.std.specs.List.{enumerate_from, flat_map, range_with_len}
use Rattle.rel_base.specs.declared.relations.Column.{Column}
use Rattle.rel_base.specs.Each.{each_or_none}
use Rattle.rel_base.proofs.EachLemmas.{each_or_none-push, each_or_none-fault_at}
use Rattle.myrial_ast.specs.declared.relations.EmitItem.{EmitItem}
use Rattle.myrial_ast.specs.Trees.{Name, emit_tree_of}
use Rattle.myrial_scopes.specs.Emits.{Emit, emit_at, emits_of, emits_of_item, numbered_name, schema_of}
use Rattle.myrial_scopes.specs.declared.emits.EmittedColumn.{EmittedColumn}
use Rattle.myrial_scopes.specs.Resolutions.{emit_of}
use Rattle.myrial_scopes.specs.inner.Columns.{emits_first, emits_under, is_emitted}
use Rattle.myrial_scopes.specs.Scopes.{ItemSchema, ScopeColumn, columns_of, scope_of, places_where, column_at}

-- ---- lists with their numbers

pub enumerate_from-push : {X : Type 0} (n : ℕ) (xs : List X) (x : X) → enumerate_from n (xs ++ x ∷ []) ≡ enumerate_from n xs ++ (n + length xs, x) ∷ []
enumerate_from-push n [] x = rw add-zero refl
enumerate_from-push {X} n (y ∷ ys) x =
    let e : n + 1 + length ys ≡ n + suc (length ys) = omega arith in
    ap (λ (rest : List (ℕ × X)). (n, y) ∷ rest) (rw (← e) (enumerate_from-push (n + 1) ys x))

-- one item further, numbered from 0
pub enumerated-more : {X : Type 0} (xs : List X) (i : ℕ) (x : X) → i < length xs → x ≡ get_or xs i x
    → enumerate_from 0 (take (i + 1) xs) ≡ enumerate_from 0 (take i xs) ++ (i, x) ∷ []
enumerated-more {X} xs i x low at =
    let within : length (take i xs) ≡ i = length-take-le i xs (omega arith) in
    let e : 0 + length (take i xs) ≡ i = omega (arith, within) in
    rw (take_more xs i x low, ← at, enumerate_from-push 0 (take i xs) x, e) refl

-- ---- columns of items

-- one item further
pub scope_of-more : (items : List ItemSchema) (i : ℕ) (item : ItemSchema) → i < length items → item ≡ get_or items i item
    → scope_of (take (i + 1) items) ≡ scope_of (take i items) ++ columns_of i item
scope_of-more items i item low at =
    rw (
      enumerated-more items i item low at,
      flat_map-append (λ (p : ℕ × ItemSchema). columns_of p.0 p.1) (enumerate_from 0 (take i items)) ((i, item) ∷ []),
    )
    (ap (λ rest. scope_of (take i items) ++ rest) (none (columns_of i item)))
  where
    none : (columns : List ScopeColumn) → columns ++ [] ≡ columns
    none [] = refl
    none (c ∷ columns) = ap (λ (rest : List ScopeColumn). c ∷ rest) (none columns)

-- ---- places of those that pass

module _ {X : Type 0} (test : ℕ → X → Bool) where
  -- one item further
  pub places_where-more : (xs : List X) (i : ℕ) (x : X) → i < length xs → x ≡ get_or xs i x
      → places_where test (take (i + 1) xs) ≡ places_where test (take i xs) ++ cond (test i x) (i ∷ []) []
  places_where-more xs i x low at =
      rw (
        enumerated-more xs i x low at,
        filter-append (λ (p : ℕ × X). test p.0 p.1) (enumerate_from 0 (take i xs)) ((i, x) ∷ []),
        map-append (λ (p : ℕ × X). p.0) (filter (λ (p : ℕ × X). test p.0 p.1) (enumerate_from 0 (take i xs))) (filter (λ (p : ℕ × X). test p.0 p.1) ((i, x) ∷ [])),
      )
      (last (test i x))
    where
      last : (passes : Bool) → places_where test (take i xs) ++ map (λ (p : ℕ × X). p.0) (cond passes ((i, x) ∷ []) []) ≡ places_where test (take i xs) ++ cond passes (i ∷ []) []
      last true = refl
      last false = refl

-- a test that all pass has all places
all_places : {X : Type 0} (n : ℕ) (xs : List X) → map (λ (p : ℕ × X). p.0) (filter (λ (p : ℕ × X). true) (enumerate_from n xs)) ≡ range_with_len n (length xs)
all_places n [] = refl
all_places n (x ∷ xs) = ap (λ (rest : List ℕ). n ∷ rest) (all_places (n + 1) xs)

pub places_where-all : {X : Type 0} (xs : List X) → places_where (λ place x. true) xs ≡ range_with_len 0 (length xs)
places_where-all xs = all_places 0 xs

-- a column that was read stands at its place
pub column_at-read : (scope : List ScopeColumn) (place : ℕ) (c : ScopeColumn) → place < length scope → c ≡ get_or scope place c → column_at scope place ≡ c
column_at-read scope place c low at = sym (get_or_read scope place c low at _)

-- ---- emitted columns

-- what is emitted of one column more
pub emits_first-more : (scope : List ScopeColumn) (alias : Option Name) (i : ℕ) → i < length scope
    → emits_first scope alias (i + 1) ≡ emits_first scope alias i ++ cond (is_emitted alias (column_at scope i)) (emit_at scope i ∷ []) []
emits_first-more scope alias i low =
    let c = column_at scope i in
    let read : c ≡ get_or scope i c = get_or_default scope i _ c low in
    rw (
      places_where-more (λ place c. is_emitted alias c) scope i c low read,
      map-append (emit_at scope) (places_where (λ place c. is_emitted alias c) (take i scope)) (cond (is_emitted alias c) (i ∷ []) []),
    )
    (last (is_emitted alias c))
  where
    last : (passes : Bool) → emits_first scope alias i ++ map (emit_at scope) (cond passes (i ∷ []) []) ≡ emits_first scope alias i ++ cond passes (emit_at scope i ∷ []) []
    last true = refl
    last false = refl

pub emits_first-all : (scope : List ScopeColumn) (alias : Option Name) (n : ℕ) → length scope ≤ n → emits_first scope alias n ≡ emits_under scope alias
emits_first-all scope alias n past = rw (take_all n scope past) refl

-- the columns of `*`
pub emits_under-none : (scope : List ScopeColumn) → emits_under scope None ≡ map (emit_at scope) (range_with_len 0 (length scope))
emits_under-none scope = ap (map (emit_at scope)) (places_where-all scope)

module _ (scope : List ScopeColumn) (items : List EmitItem) (i : ℕ) (item : EmitItem) (low : i < length items) (at : item ≡ get_or items i item) where
  -- the columns of one item further
  pub emits_of-next : (es new : List Emit) → emits_of scope (map emit_tree_of (take i items)) ≡ Some es
      → emits_of_item scope (emit_tree_of item) ≡ Some new
      → emits_of scope (map emit_tree_of (take (i + 1) items)) ≡ Some (es ++ new)
  emits_of-next es new before now =
      rw (take_more items i item low, ← at, map_push emit_tree_of (take i items) item)
      (by (each_or_none (emits_of_item scope) (map emit_tree_of (take i items))) refl)
    where
      by : (found : Option (List (List Emit))) → each_or_none (emits_of_item scope) (map emit_tree_of (take i items)) ≡ found
          → emits_of scope (map emit_tree_of (take i items) ++ emit_tree_of item ∷ []) ≡ Some (es ++ new)
      by None p = let k = rw p at before in cc
      by (Some columns) p =
          let k = rw p at before in
          let same : flat_map (λ c. c) columns ≡ es = cc in
          let all = each_or_none-push (emits_of_item scope) (map emit_tree_of (take i items)) (emit_tree_of item) columns new p now in
          rw (all, flat_map-append (λ (c : List Emit). c) columns (new ∷ []), same, append-nil new) refl

  -- an item that emits nothing
  pub emits_of-fault : emits_of_item scope (emit_tree_of item) ≡ None → emits_of scope (map emit_tree_of items) ≡ None
  emits_of-fault e =
      let within : i < length (map emit_tree_of items) = rw (length-map items emit_tree_of) low in
      let there : emit_tree_of item ≡ get_or (map emit_tree_of items) i (emit_tree_of item) =
      ap emit_tree_of at ∙ sym (get_or-map emit_tree_of items i item (emit_tree_of item) low) in
      rw (each_or_none-fault_at (emits_of_item scope) (map emit_tree_of items) i (emit_tree_of item) within there e) refl

-- the schema of one column further
pub schema_of-more : (columns : List EmittedColumn) (i : ℕ) (e : EmittedColumn) → i < length columns → e ≡ get_or columns i e
    → schema_of (map emit_of (take (i + 1) columns))
    ≡ schema_of (map emit_of (take i columns)) ++ record { name = unwrap_or e.name (numbered_name i); kind = e.kind } ∷ []
schema_of-more columns i e low at =
    let within : length (take i columns) ≡ i = length-take-le i columns (omega arith) in
    let long : 0 + length (map emit_of (take i columns)) ≡ i = rw (length-map (take i columns) emit_of) (omega (arith, within)) in
    rw (
      take_more columns i e low,
      ← at,
      map_push emit_of (take i columns) e,
      enumerate_from-push 0 (map emit_of (take i columns)) (emit_of e),
      long,
      map-append (λ (p : ℕ × Emit). let column : Column = record { name = unwrap_or p.1.name (numbered_name p.0); kind = p.1.kind } in column)
          (enumerate_from 0 (map emit_of (take i columns))) ((i, emit_of e) ∷ []),
    ) refl
