-- Which terms and checked scripts are well formed.
--
--   is_term known term columns      whether a term over sources of known types has columns of these types
--   is_of files checked             whether a checked script is of these files
use Rattle.std.specs.Prelude.{ℕ, Bool, true, false, ◌&&◌, ◌==◌, nat_lt, List, [], ◌∷◌, map, length, slice_get, Option, Some, None, option_map, is_some, find, filter}
use Rattle.std.specs.List.{list_all, zip}
use Rattle.std.specs.Option.{option_map_or}
use Rattle.std.specs.Cmp.Lexicographic.{pointwise}
use Rattle.rel_base.specs.declared.values.ColType.{ColType}
use Rattle.rel_base.specs.declared.values.ColType.TheVariants as kind
use Rattle.rel_base.specs.declared.relations.Column.{Column}
use Rattle.rel_base.specs.Relations.{same_type}
use Rattle.rel_base.specs.Keys.{File}
use Rattle.myrial_ast.specs.declared.operators.AggOp.{AggOp}
use Rattle.myrial_ast.specs.declared.operators.AggOp.TheVariants as agg
use Rattle.myrial_ast.specs.Scalars.{Scalar}
use Rattle.myrial_ast.specs.Groups.{Kinds}
use Rattle.algebra.specs.declared.terms.Source.{Source}
use Rattle.algebra.specs.declared.terms.Source.TheVariants as source
use Rattle.algebra.specs.declared.terms.StoreStep.{StoreStep}
use Rattle.algebra.specs.Trees.{AtomTree, TermTree, Same, Empty, UnionAll, Diff, Distinct, Join, Group, StepTree, CheckedTree}
use Rattle.algebra.specs.ShapeConditions.{is_kind, where_both, kind_in, kinds_of, is_shape}

-- whether two lists of types are one
abbrev pub same_kinds : List ColType → List ColType → Bool
same_kinds = pointwise same_type

-- the types of columns
abbrev pub kinds_of_columns : List Column → List ColType
kinds_of_columns columns = map (λ (c : Column). c.kind) columns

-- the types of the columns of a source, if it is a file or an earlier step
abbrev pub source_kinds : List File → List StepTree → Source → Option (List ColType)
source_kinds files earlier (source.File place) =
    option_map (λ (f : File). kinds_of_columns f.1.schema) (slice_get files place)
source_kinds files earlier (source.Result number) =
    option_map (λ (s : StepTree). kinds_of_columns s.schema)
    (find (λ (s : StepTree). s.statement == number) earlier)

-- whether these types were found
abbrev pub has_kinds : Option (List ColType) → List ColType → Bool
has_kinds found kinds = option_map_or (λ own. same_kinds own kinds) found false

-- the type of an aggregate of values of a type, if it can have one
abbrev pub emitted_kind : Option AggOp → Option ColType → Option ColType
emitted_kind None k = k
emitted_kind (Some agg.CountAll) k = Some kind.Int
emitted_kind (Some agg.Count) k = Some kind.Int
emitted_kind (Some agg.Sum) k = where_both kind.Int kind.Int k k
emitted_kind (Some agg.Min) k = k
emitted_kind (Some agg.Max) k = k

-- whether the emits have these kinds and the columns these types
abbrev pub emits_columns : List ColType → Kinds → List Scalar → List ColType → Bool
emits_columns over kinds emits columns =
    (length kinds == length emits)
    && pointwise (λ (p : Option AggOp × Scalar) k. is_kind k (emitted_kind p.0 (kind_in over p.1)))
    (zip kinds emits) columns

-- whether a term over these has columns of these types
abbrev pub is_term : (Source → Option (List ColType)) → TermTree → List ColType → Bool
is_term known (Same s) columns = has_kinds (known s) columns
is_term known Empty columns = true
is_term known (UnionAll s t) columns = has_kinds (known s) columns && has_kinds (known t) columns
is_term known (Diff s t) columns = has_kinds (known s) columns && has_kinds (known t) columns
is_term known (Distinct s) columns = has_kinds (known s) columns
is_term known (Join shape sources) columns =
    is_shape shape && pointwise (λ s (a : AtomTree). has_kinds (known s) a.kinds) sources shape.atoms
    && pointwise (λ e k. is_kind k (kind_in (kinds_of shape) e)) shape.emits columns
is_term known (Group shape sources kinds) columns =
    is_shape shape && pointwise (λ s (a : AtomTree). has_kinds (known s) a.kinds) sources shape.atoms
    && emits_columns (kinds_of shape) kinds shape.emits columns

-- whether each step is over files and earlier steps, and numbers rise
abbrev pub are_steps : List File → ℕ → List StepTree → List StepTree → Bool
are_steps files last earlier [] = true
are_steps files last earlier (s ∷ rest) =
    nat_lt last s.statement
    && is_term (source_kinds files earlier) s.term (kinds_of_columns s.schema)
    && are_steps files s.statement (s ∷ earlier) rest

-- whether a store is of a file, or of a step before it
abbrev pub is_store : List File → List StepTree → StoreStep → Bool
is_store files steps s =
    is_some (source_kinds files (filter (λ (t : StepTree). nat_lt t.statement s.statement) steps) s.source)

-- whether a checked script is of these files: its sources are there, its numbers rise, and its terms have their columns' types
abbrev pub is_of : List File → CheckedTree → Bool
is_of files c = are_steps files 0 [] c.steps && list_all (is_store files c.steps) c.stores
