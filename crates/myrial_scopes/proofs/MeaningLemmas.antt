-- What references mean, an item at a time.
use Rattle.std.proofs.Common.{◌≡◌, ◌∙◌, ℕ, zero, suc, ◌+◌, ◌-◌, ◌<◌, ◌≤◌, Bool, true, false, cond, eqb, nat_lt, List, [], ◌∷◌, ◌++◌}
use Rattle.std.proofs.Common.{length, map, filter, get_or, drop, refl, ap, arith}
use Rattle.std.proofs.lemmas.Bool.Decides.{nat_tests}
use Rattle.std.proofs.lemmas.List.{map-append, get_or-append_right, get_or_append_left, get_or-map, drop_more, length-append}
use Rattle.std.proofs.lemmas.List.{length-map}
use Rattle.std.proofs.lemmas.List.Elements.{filter-append}
use Rattle.std.proofs.lemmas.List.FromFn.{length-enumerate_from, get_or-enumerate_from}
use Rattle.std.specs.List.{enumerate_from}
use Rattle.rel_base.specs.declared.relations.Column.{Column}
use Rattle.rel_base.specs.declared.values.ColType.TheVariants as kind
use Rattle.myrial_ast.specs.declared.expressions.ColRef.{ColRef}
use Rattle.myrial_ast.specs.declared.expressions.ColRef.TheVariants as ref
use Rattle.myrial_ast.specs.Trees.{Name}
use Rattle.myrial_scopes.specs.declared.meanings.Meaning.{Meaning}
use Rattle.myrial_scopes.specs.declared.meanings.Meaning.TheVariants as meaning
use Rattle.myrial_scopes.specs.Meanings.{is_ambiguous, is_unknown, meaning_among, place_in, with_place}
use Rattle.myrial_scopes.specs.Scopes.{ItemSchema, ScopeColumn, column_at, columns_of, may_mean, only, same_name, scoped}
use Rattle.myrial_scopes.specs.inner.Places.{named_from, numbered_from, own_places, places_from, scope_from, with_places}

-- ---- meanings of more places

pub with_places-append : (m : Meaning) (xs ys : List ℕ) → with_places m (xs ++ ys) ≡ with_places (with_places m xs) ys
with_places-append m [] ys = refl
with_places-append m (x ∷ xs) ys = with_places-append (with_place m x) xs ys

ambiguous-stays : (xs : List ℕ) → with_places meaning.Ambiguous xs ≡ meaning.Ambiguous
ambiguous-stays [] = refl
ambiguous-stays (x ∷ xs) = ambiguous-stays xs

pub with_places-among : (places : List ℕ) → with_places meaning.Unknown places ≡ meaning_among places
with_places-among [] = refl
with_places-among (p ∷ []) = refl
with_places-among (p ∷ q ∷ places) = ambiguous-stays places

-- the place that is meant is the only one
pub place_in-among : (places : List ℕ) → place_in (meaning_among places) ≡ only places
place_in-among [] = refl
place_in-among (p ∷ []) = refl
place_in-among (p ∷ q ∷ places) = refl

-- no column is meant where there is no place, and several where there are two
pub is_unknown-among : (places : List ℕ) → is_unknown (meaning_among places) ≡ eqb (length places) 0
is_unknown-among [] = refl
is_unknown-among (p ∷ []) = refl
is_unknown-among (p ∷ q ∷ places) = grind (arith, nat_tests)

pub is_ambiguous-among : (places : List ℕ) → is_ambiguous (meaning_among places) ≡ nat_lt 1 (length places)
is_ambiguous-among [] = refl
is_ambiguous-among (p ∷ []) = refl
is_ambiguous-among (p ∷ q ∷ places) = grind (arith, nat_tests)

-- ---- places from a first one

pub enumerate_from-append : {X : Type 0} (n : ℕ) (xs ys : List X)
    → enumerate_from n (xs ++ ys) ≡ enumerate_from n xs ++ enumerate_from (n + length xs) ys
enumerate_from-append n [] ys = ap (λ k. enumerate_from k ys) (omega arith)
enumerate_from-append {X} n (x ∷ xs) ys =
    let e : n + 1 + length xs ≡ n + suc (length xs) = omega arith in
    ap (λ (rest : List (ℕ × X)). (n, x) ∷ rest) (rw (← e) (enumerate_from-append (n + 1) xs ys))

pub places_from-append : {X : Type 0} (n : ℕ) (test : ℕ → X → Bool) (xs ys : List X)
    → places_from n test (xs ++ ys) ≡ places_from n test xs ++ places_from (n + length xs) test ys
places_from-append {X} n test xs ys =
    rw (
      enumerate_from-append n xs ys,
      filter-append (λ (p : ℕ × X). test p.0 p.1) (enumerate_from n xs) (enumerate_from (n + length xs) ys),
      map-append (λ (p : ℕ × X). p.0) (filter (λ (p : ℕ × X). test p.0 p.1) (enumerate_from n xs))
          (filter (λ (p : ℕ × X). test p.0 p.1) (enumerate_from (n + length xs) ys)),
    ) refl

-- ---- the places of an item's columns

module _ (first : ℕ) (test : ℕ → Column → Bool) where
  -- the places of those that pass a test of their places in the item
  abbrev passing : ℕ → List Column → List ℕ
  passing k [] = []
  passing k (c ∷ columns) = cond (test k c) ((first + k) ∷ passing (k + 1) columns) (passing (k + 1) columns)

  passing-none : (k : ℕ) (columns : List Column) → ((j : ℕ) (c : Column) → k ≤ j → test j c ≡ false) → passing k columns ≡ []
  passing-none k [] fails = refl
  passing-none k (c ∷ columns) fails =
      rw (fails k c (omega arith)) (passing-none (k + 1) columns (λ j d high. fails j d (omega arith)))

  -- only the place at a distance passes
  passing-one : (k d given : ℕ) (columns : List Column) → given ≡ k + d → ((j : ℕ) (c : Column) → k ≤ j → test j c ≡ eqb j given)
      → passing k columns ≡ cond (nat_lt d (length columns)) ((first + given) ∷ []) []
  passing-one k d given [] e same =
      let past : nat_lt d 0 ≡ false = grind (arith, nat_tests) in
      rw past refl
  passing-one k zero given (c ∷ columns) e same =
      let here : k ≡ given = omega arith in
      let passes : test k c ≡ true = same k c (omega arith) ∙ grind (arith, nat_tests) in
      let rest : passing (k + 1) columns ≡ [] = passing-none (k + 1) columns (λ j d high. same j d (omega arith)
      ∙ grind (arith, nat_tests)) in
      let first_of : nat_lt 0 (suc (length columns)) ≡ true = grind (arith, nat_tests) in
      rw (passes, rest, here, first_of) refl
  passing-one k (suc d) given (c ∷ columns) e same =
      let fails : test k c ≡ false = same k c (omega arith) ∙ grind (arith, nat_tests) in
      let nearer : nat_lt (suc d) (suc (length columns)) ≡ nat_lt d (length columns) = grind (arith, nat_tests) in
      rw (fails, nearer) (passing-one (k + 1) d given columns (omega arith) (λ j c high. same j c (omega arith)))

module _ (first : ℕ) (test : ℕ → Column → Bool) (given : ℕ → ScopeColumn → Bool) (number : ℕ) (alias : Name) where
  own-passing : ((k : ℕ) (c : Column) → given (first + k) (scoped number alias k c) ≡ test k c)
      → (k : ℕ) (columns : List Column)
      → places_from (first + k) given (map (λ (p : ℕ × Column). scoped number alias p.0 p.1) (enumerate_from k columns))
      ≡ passing first test k columns
  own-passing same k [] = refl
  own-passing same k (c ∷ columns) =
      let next : first + k + 1 ≡ first + (k + 1) = omega arith in
      rw (same k c, next) (at (test k c) _ _ (own-passing same (k + 1) columns))
    where
      at : (b : Bool) (xs : List (ℕ × ScopeColumn)) (ys : List ℕ) → map (λ (p : ℕ × ScopeColumn). p.0) xs ≡ ys
          → map (λ (p : ℕ × ScopeColumn). p.0) (cond b ((first + k, scoped number alias k c) ∷ xs) xs)
          ≡ cond b ((first + k) ∷ ys) ys
      at true xs ys e = ap (λ (rest : List ℕ). (first + k) ∷ rest) e
      at false xs ys e = e

passing-named : (first : ℕ) (name : Name) (k : ℕ) (columns : List Column)
    → passing first (λ j c. same_name c.name name) k columns ≡ named_from (first + k) name columns
passing-named first name k [] = refl
passing-named first name k (c ∷ columns) =
    let next : first + (k + 1) ≡ first + k + 1 = omega arith in
    rw (passing-named first name (k + 1) columns, next) refl

-- the columns of an item of any number
module _ (first : ℕ) (number : ℕ) (item : ItemSchema) where
  tested : (test : ℕ → Column → Bool) (given : ℕ → ScopeColumn → Bool)
      → ((k : ℕ) (c : Column) → given (first + k) (scoped number item.alias k c) ≡ test k c)
      → places_from first given (columns_of number item) ≡ passing first test 0 item.schema
  tested test given same =
      let here : first + 0 ≡ first = omega arith in
      rw here at (own-passing first test given number item.alias same 0 item.schema)

  named : (given : ℕ → ScopeColumn → Bool) (name : Name)
      → ((k : ℕ) (c : Column) → given (first + k) (scoped number item.alias k c) ≡ same_name c.name name)
      → places_from first given (columns_of number item) ≡ named_from first name item.schema
  named given name same =
      let here : first + 0 ≡ first = omega arith in
      tested (λ k c. same_name c.name name) given same ∙ (rw here at (passing-named first name 0 item.schema))

  none : (given : ℕ → ScopeColumn → Bool) → ((k : ℕ) (c : Column) → given (first + k) (scoped number item.alias k c) ≡ false)
      → places_from first given (columns_of number item) ≡ []
  none given fails =
      tested (λ k c. false) given fails ∙ passing-none first (λ k c. false) 0 item.schema (λ j c high. refl)

  numbered : (given : ℕ → ScopeColumn → Bool) (place : ℕ)
      → ((k : ℕ) (c : Column) → given (first + k) (scoped number item.alias k c) ≡ eqb k place)
      → places_from first given (columns_of number item) ≡ numbered_from first place item.schema
  numbered given place same =
      tested (λ k c. eqb k place) given same
      ∙ passing-one first (λ k c. eqb k place) 0 place place item.schema (omega arith) (λ j c high. refl)

  pub own_places-is : (r : ColRef) → places_from first (may_mean r) (columns_of number item) ≡ own_places first r item
  own_places-is (ref.ByName name) = named (may_mean (ref.ByName name)) name (λ k c. refl)
  own_places-is (ref.ByPlace given) = by (nat_lt given first) refl
    where
      by : (b : Bool) → nat_lt given first ≡ b
          → places_from first (may_mean (ref.ByPlace given)) (columns_of number item) ≡ own_places first (ref.ByPlace given) item
      by true e = rw e (none (may_mean (ref.ByPlace given)) (λ k c. grind (arith, nat_tests)))
      by false e = rw e (numbered (may_mean (ref.ByPlace given)) (given - first) (λ k c. grind (arith, nat_tests)))
  own_places-is (ref.OfName alias name) = by (same_name item.alias alias) refl
    where
      by : (b : Bool) → same_name item.alias alias ≡ b
          → places_from first (may_mean (ref.OfName alias name)) (columns_of number item)
          ≡ own_places first (ref.OfName alias name) item
      by true e = rw e (named (may_mean (ref.OfName alias name)) name (λ k c. rw e refl))
      by false e = rw e (none (may_mean (ref.OfName alias name)) (λ k c. rw e refl))
  own_places-is (ref.OfPlace alias given) = by (same_name item.alias alias) refl
    where
      by : (b : Bool) → same_name item.alias alias ≡ b
          → places_from first (may_mean (ref.OfPlace alias given)) (columns_of number item)
          ≡ own_places first (ref.OfPlace alias given) item
      by true e = rw e (numbered (may_mean (ref.OfPlace alias given)) given (λ k c. rw e refl))
      by false e = rw e (none (may_mean (ref.OfPlace alias given)) (λ k c. rw e refl))

-- ---- an item further

pub length-columns_of : (number : ℕ) (item : ItemSchema) → length (columns_of number item) ≡ length item.schema
length-columns_of number item =
    length-map (enumerate_from 0 item.schema) (λ (p : ℕ × Column). scoped number item.alias p.0 p.1)
    ∙ length-enumerate_from 0 item.schema

module _ (items : List ItemSchema) (i : ℕ) (item : ItemSchema) (low : i < length items) (at : item ≡ get_or items i item) where
  pub scope_from-more : scope_from i (drop i items) ≡ columns_of i item ++ scope_from (i + 1) (drop (i + 1) items)
  scope_from-more = rw (drop_more items i item low, ← at) refl

  pub length-scope_from-more : length (scope_from i (drop i items))
      ≡ length item.schema + length (scope_from (i + 1) (drop (i + 1) items))
  length-scope_from-more =
      rw (
        scope_from-more,
        length-append (columns_of i item) (scope_from (i + 1) (drop (i + 1) items)),
        length-columns_of i item,
      ) refl

  -- what a reference means with the columns of one item further
  pub meaning-more : (r : ColRef) (m : Meaning) (first : ℕ)
      → with_places (with_places m (own_places first r item))
      (places_from (first + length item.schema) (may_mean r) (scope_from (i + 1) (drop (i + 1) items)))
      ≡ with_places m (places_from first (may_mean r) (scope_from i (drop i items)))
  meaning-more r m first =
      let rest = scope_from (i + 1) (drop (i + 1) items) in
      rw (
        scope_from-more,
        places_from-append first (may_mean r) (columns_of i item) rest,
        length-columns_of i item,
        own_places-is first i item r,
        with_places-append m (own_places first r item) (places_from (first + length item.schema) (may_mean r) rest),
      ) refl

  -- a column of the item
  pub column_at-own : (own : ℕ) (column : Column) → own < length item.schema → column ≡ get_or item.schema own column
      → column_at (scope_from i (drop i items)) own ≡ scoped i item.alias own column
  column_at-own own column within there =
      let rest = scope_from (i + 1) (drop (i + 1) items) in
      let nothing : ScopeColumn = record { item = 0; alias = []; place = 0; name = []; kind = kind.Int } in
      let put : ℕ × Column → ScopeColumn = λ p. scoped i item.alias p.0 p.1 in
      let inside : own < length (columns_of i item) = rw (length-columns_of i item) within in
      let here : 0 + own ≡ own = omega arith in
      let numbered_inside : own < length (enumerate_from 0 item.schema) = rw (length-enumerate_from 0 item.schema) within in
      rw (
        scope_from-more,
        get_or_append_left (columns_of i item) rest nothing own inside,
        get_or-map put (enumerate_from 0 item.schema) own (0, column) nothing numbered_inside,
        get_or-enumerate_from 0 item.schema own (0, column) within,
        ← there,
        here,
      )
      refl

  -- a column behind those of the item
  pub column_at-behind : (own : ℕ) → length item.schema ≤ own
      → column_at (scope_from i (drop i items)) own ≡ column_at (scope_from (i + 1) (drop (i + 1) items)) (own - length item.schema)
  column_at-behind own past =
      let rest = scope_from (i + 1) (drop (i + 1) items) in
      let nothing : ScopeColumn = record { item = 0; alias = []; place = 0; name = []; kind = kind.Int } in
      rw scope_from-more (get_or-append_right (columns_of i item) rest (length item.schema) own nothing
      (length-columns_of i item) past)
