-- Relations.
--
--   has_type t v        value v is of type t
--   HasTypes s row      the row has a value of its type for each column of the schema s, and no more
--   RelationState               what contracts see of a relation
use Rattle.std.specs.Prelude.{IsTrue, Bool, true, false, List}
use Rattle.std.specs.Cmp.Lexicographic.{pointwise}
use Rattle.rel_base.specs.declared.values.Value.{Value}
use Rattle.rel_base.specs.declared.values.Value.TheVariants as variant
use Rattle.rel_base.specs.declared.values.ColType.{ColType}
use Rattle.rel_base.specs.declared.values.ColType.TheVariants as kind
use Rattle.rel_base.specs.declared.relations.Column.{Column}

-- the type of a value
abbrev pub type_of : Value → ColType
type_of (variant.Int n) = kind.Int
type_of (variant.Str s) = kind.Str
type_of (variant.Bool b) = kind.Bool

-- whether two types are one
abbrev pub same_type : ColType → ColType → Bool
same_type kind.Int kind.Int = true
same_type kind.Str kind.Str = true
same_type kind.Bool kind.Bool = true
same_type _ _ = false

-- whether the row has a value of its type for each column, and no more
abbrev pub fits_schema : List Column → List Value → Bool
fits_schema = pointwise (λ column value. same_type column.kind (type_of value))

-- the row has a value of its type for each column, and no more
abbrev pub HasTypes : List Column → List Value → Type 0
HasTypes schema row = IsTrue (fits_schema schema row)

-- a relation: columns, and rows in the order in which they stand
pub record RelationState : Type 0 where
  pub schema : List Column
  pub rows : List (List Value)
