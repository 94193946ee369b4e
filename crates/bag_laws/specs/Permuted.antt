-- Rows in another order.
--
--   SameTables ts us      item by item, the same rows in another order
use Rattle.std.specs.Prelude.{List, [], ◌∷◌}
use Rattle.rel_base.specs.Bags.{SameBag}
use Rattle.myrial_ast.specs.Combinations.{Rows}

-- item by item, the same rows in another order
pub data SameTables : List Rows → List Rows → Type 0 where
  no_table : SameTables [] []
  a_table : (rows others : Rows) (tables rest : List Rows) → SameBag rows others
      → SameTables tables rest
      → SameTables (rows ∷ tables) (others ∷ rest)
