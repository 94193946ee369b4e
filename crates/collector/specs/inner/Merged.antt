-- Lists that are in order, and their merge.
--
--   IsAscending order list          the items are in ascending order
--   IsMerged order lists all        a list has the items of all lists, in ascending order
use Rattle.std.specs.Prelude.{◌≡◌, List, map, length, IsPermutation, IsSorted, vec_len}
use Rattle.std.specs.Global.{Vec}
use Rattle.std.specs.List.{flat_map}
use Rattle.std.specs.declared.cmp.Ordering.{Ordering}

module _ {T : Type 0} (order : T → T → Ordering) where
  -- the items are in ascending order, and there are as many as the list says
  pub record IsAscending (list : Vec T) : Type 0 where
    pub in_order : IsSorted order list.items
    pub long : vec_len list ≡ length list.items

  -- the list has the items of all lists, in ascending order
  pub record IsMerged (lists : List (Vec T)) (all : Vec T) : Type 0 where
    pub same_items : IsPermutation (flat_map (λ items. items) (map (λ list. list.items) lists)) all.items
    pub in_order : IsSorted order all.items
