-- Bags of rows, and the one order in which a bag is printed.
--
--   SameBag rows others                  the lists hold each row equally often
--   sorted rows                          the rows in ascending order
--   IsSortedPermutation rows others      the others are the rows in ascending order
use Rattle.std.specs.Prelude.{List, [], ◌∷◌, if◌then◌else◌, IsPermutation, IsSorted}
use Rattle.std.specs.declared.cmp.Ordering.{Ordering}
use Rattle.std.specs.Ordering.{is_gt}
use Rattle.rel_base.specs.declared.values.Value.{Value}
use Rattle.rel_base.specs.Values.{row_order}

module _ {X : Type 0} (order : X → X → Ordering) where
  -- the item put behind the smaller ones at the head of the list
  abbrev pub put_in_order : X → List X → List X
  put_in_order x [] = x ∷ []
  put_in_order x (y ∷ ys) = if is_gt (order x y) then y ∷ put_in_order x ys else x ∷ y ∷ ys

  -- the items in ascending order
  abbrev pub sorted_by : List X → List X
  sorted_by [] = []
  sorted_by (x ∷ xs) = put_in_order x (sorted_by xs)

-- one list is the other in another order
abbrev pub SameBag : List (List Value) → List (List Value) → Type 0
SameBag = IsPermutation

-- the rows in ascending order
abbrev pub sorted : List (List Value) → List (List Value)
sorted = sorted_by row_order

-- the second list has the rows of the first, in ascending order
pub record IsSortedPermutation (rows others : List (List Value)) : Type 0 where
  pub same_rows : SameBag rows others
  pub ascending : IsSorted row_order others
