-- The places that a reference may mean, an item at a time.
--
--   with_places meaning places    what a reference means that may mean the columns at these places besides
--   scope_from number items       the columns of items, of which the first has this number
--   places_from first test xs     the places, from the first, of those that pass
--   named_from first name columns     the places, from the first, of the columns with a name
--   own_places first reference item   the places of the columns of an item that a reference may mean, where its first
--                                     column stands at this place
use Rattle.std.specs.Prelude.{ℕ, ◌+◌, ◌-◌, Bool, nat_lt, if◌then◌else◌, List, [], ◌∷◌, length, map, filter}
use Rattle.std.specs.List.{enumerate_from, flat_map}
use Rattle.rel_base.specs.declared.relations.Column.{Column}
use Rattle.myrial_ast.specs.declared.expressions.ColRef.{ColRef}
use Rattle.myrial_ast.specs.declared.expressions.ColRef.TheVariants as ref
use Rattle.myrial_ast.specs.Trees.{Name}
use Rattle.myrial_scopes.specs.declared.meanings.Meaning.{Meaning}
use Rattle.myrial_scopes.specs.Meanings.{with_place}
use Rattle.myrial_scopes.specs.Scopes.{ItemSchema, ScopeColumn, columns_of, same_name}

-- what a reference means that may mean the columns at these places besides
abbrev pub with_places : Meaning → List ℕ → Meaning
with_places meaning [] = meaning
with_places meaning (place ∷ places) = with_places (with_place meaning place) places

-- the columns of items, of which the first has this number
abbrev pub scope_from : ℕ → List ItemSchema → List ScopeColumn
scope_from number items =
    flat_map (λ (p : ℕ × ItemSchema). columns_of p.0 p.1) (enumerate_from number items)

-- the places, from the first, of those that pass
abbrev pub places_from : {X : Type 0} → ℕ → (ℕ → X → Bool) → List X → List ℕ
places_from {X} first test xs =
    map (λ (p : ℕ × X). p.0) (filter (λ (p : ℕ × X). test p.0 p.1) (enumerate_from first xs))

-- the places, from the first, of the columns with a name
abbrev pub named_from : ℕ → Name → List Column → List ℕ
named_from first name [] = []
named_from first name (c ∷ columns) =
    if same_name c.name name then first ∷ named_from (first + 1) name columns
    else named_from (first + 1) name columns

-- the place of a column by its place in the item
abbrev pub numbered_from : ℕ → ℕ → List Column → List ℕ
numbered_from first given columns =
    if nat_lt given (length columns) then (first + given) ∷ [] else []

-- the places of the columns of an item that a reference may mean
abbrev pub own_places : ℕ → ColRef → ItemSchema → List ℕ
own_places first (ref.ByName name) item = named_from first name item.schema
own_places first (ref.ByPlace given) item =
    if nat_lt given first then [] else numbered_from first (given - first) item.schema
own_places first (ref.OfName alias name) item =
    if same_name item.alias alias then named_from first name item.schema else []
own_places first (ref.OfPlace alias given) item =
    if same_name item.alias alias then numbered_from first given item.schema else []
