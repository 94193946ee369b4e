-- The order of rows changes no bag that is made of them.
--
--   JoinsIgnoreOrder          candidates and listed rows, of items with their rows in another order, are the same bags
--   OperatorsIgnoreOrder      so are the results of the operators on bags
--   GroupsIgnoreOrder         so are groups
use Rattle.std.specs.Prelude.{List}
use Rattle.rel_base.specs.Bags.{SameBag}
use Rattle.myrial_ast.specs.Scalars.{Scalar}
use Rattle.myrial_ast.specs.Combinations.{Rows, candidates, listed_from}
use Rattle.myrial_ast.specs.Bags.{union_all, distinct, difference}
use Rattle.myrial_ast.specs.Groups.{Kinds, groups}
use Rattle.bag_laws.specs.Permuted.{SameTables}

-- the candidates of items, and what is listed from candidates, are the same bags whatever the order of the rows
pub record JoinsIgnoreOrder : Type 0 where
  pub candidates : (tests : List Scalar) (tables others : List Rows) → SameTables tables others
      → SameBag (candidates tests tables) (candidates tests others)
  pub listed : (arithmetic emits : List Scalar) (rows others : Rows) → SameBag rows others
      → SameBag (listed_from arithmetic emits rows) (listed_from arithmetic emits others)

-- the operators on bags give the same bags whatever the order of the rows
pub record OperatorsIgnoreOrder : Type 0 where
  pub union : (a b x y : Rows) → SameBag a b → SameBag x y → SameBag (union_all a x) (union_all b y)
  pub distinct : (a b : Rows) → SameBag a b → SameBag (distinct a) (distinct b)
  pub difference : (a b x y : Rows) → SameBag a b → SameBag x y
      → SameBag (difference a x) (difference b y)

-- groups are the same bag whatever the order of the rows
abbrev pub GroupsIgnoreOrder : Type 0
GroupsIgnoreOrder =
    (kinds : Kinds) (a b : Rows) → SameBag a b → SameBag (groups kinds a) (groups kinds b)
