-- Columns of a scope that are emitted together.
--
--   is_emitted group column       whether `*` or `T.*` emits a column
--   emits_first scope alias n     the columns of `*` or `T.*` among the first n of the scope, each under its own name
--   emits_under scope alias       all of them
use Rattle.std.specs.Prelude.{ℕ, Bool, true, List, map, take, Option, Some, None}
use Rattle.myrial_ast.specs.Trees.{Name}
use Rattle.myrial_scopes.specs.Scopes.{ScopeColumn, same_name, places_where}
use Rattle.myrial_scopes.specs.Emits.{Emit, emit_at}

-- whether a column's item has this alias; where there is none, any column
abbrev pub is_emitted : Option Name → ScopeColumn → Bool
is_emitted None c = true
is_emitted (Some alias) c = same_name c.alias alias

-- the columns of the items with this alias, or of all, among the first n of the scope
abbrev pub emits_first : List ScopeColumn → Option Name → ℕ → List Emit
emits_first scope alias n =
    map (emit_at scope) (places_where (λ place c. is_emitted alias c) (take n scope))

-- the columns of the items with this alias, or of all
abbrev pub emits_under : List ScopeColumn → Option Name → List Emit
emits_under scope alias = map (emit_at scope) (places_where (λ place c. is_emitted alias c) scope)
