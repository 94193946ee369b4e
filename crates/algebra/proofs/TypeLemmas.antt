-- Types that are found to be the same are equal, and a row fits a schema exactly where its types are the schema's.
use Rattle.std.proofs.Common.{◌≡◌, ℕ, zero, suc, true, List, [], ◌∷◌, map, get_or, refl, sym}
use Rattle.rel_base.specs.declared.values.ColType.{ColType}
use Rattle.rel_base.specs.declared.values.ColType.TheVariants as kind
use Rattle.rel_base.specs.declared.relations.Column.{Column}
use Rattle.rel_base.specs.Relations.{fits_schema, same_type, type_of}
use Rattle.myrial_ast.specs.Combinations.{Row}
use Rattle.algebra.specs.Conditions.{same_kinds, kinds_of_columns}
use Rattle.algebra.proofs.ShapeLemmas.{both}

pub same_type-itself : (t : ColType) → same_type t t ≡ true
same_type-itself kind.Int = refl
same_type-itself kind.Str = refl
same_type-itself kind.Bool = refl

pub same_type-equal : (s t : ColType) → same_type s t ≡ true → s ≡ t
same_type-equal kind.Int kind.Int e = refl
same_type-equal kind.Str kind.Str e = refl
same_type-equal kind.Bool kind.Bool e = refl
same_type-equal kind.Int kind.Str e = cc
same_type-equal kind.Int kind.Bool e = cc
same_type-equal kind.Str kind.Int e = cc
same_type-equal kind.Str kind.Bool e = cc
same_type-equal kind.Bool kind.Int e = cc
same_type-equal kind.Bool kind.Str e = cc

-- lists of types that are the same are equal
pub same_kinds-equal : (ks js : List ColType) → same_kinds ks js ≡ true → ks ≡ js
same_kinds-equal [] [] e = refl
same_kinds-equal [] (j ∷ js) e = cc
same_kinds-equal (k ∷ ks) [] e = cc
same_kinds-equal (k ∷ ks) (j ∷ js) e =
    let parts = both (same_type k j) (same_kinds ks js) e in
    let first = same_type-equal k j parts.0 in
    let others = same_kinds-equal ks js parts.1 in
    λ i. first i ∷ others i

-- a row has its schema's types
pub types-of_row : (schema : List Column) (row : Row) → fits_schema schema row ≡ true → map type_of row ≡ kinds_of_columns schema
types-of_row [] [] e = refl
types-of_row [] (v ∷ row) e = cc
types-of_row (column ∷ schema) [] e = cc
types-of_row (column ∷ schema) (v ∷ row) e =
    let parts = both (same_type column.kind (type_of v)) (fits_schema schema row) e in
    let first = sym (same_type-equal column.kind (type_of v) parts.0) in
    let others = types-of_row schema row parts.1 in
    λ i. first i ∷ others i

-- a row of a schema's types fits it
pub typed-fits : (schema : List Column) (row : Row) → map type_of row ≡ kinds_of_columns schema → fits_schema schema row ≡ true
typed-fits [] [] e = refl
typed-fits [] (v ∷ row) e = cc
typed-fits (column ∷ schema) [] e = cc
typed-fits (column ∷ schema) (v ∷ row) e =
    let first : type_of v ≡ column.kind = cc in
    let others : map type_of row ≡ kinds_of_columns schema = cc in
    rw (first, same_type-itself column.kind) (typed-fits schema row others)

-- what a list holds at a place, past the end as well, where each item was turned into another
pub at-mapped : {X Y : Type 0} (f : X → Y) (xs : List X) (i : ℕ) (d : X) → get_or (map f xs) i (f d) ≡ f (get_or xs i d)
at-mapped f [] i d = refl
at-mapped f (x ∷ xs) zero d = refl
at-mapped f (x ∷ xs) (suc i) d = at-mapped f xs i d
