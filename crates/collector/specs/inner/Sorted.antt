-- Parts whose rows are sorted.
--
--   rows_at rows               the rows that are referred to
--   rows_in part listed        the rows of a part, in the order of a list where there is one
--   reference_order            references in the order of their rows
--   IsSortedPart part rows     the rows of a part, in ascending order
use Rattle.std.specs.Prelude.{List, Option, Some, None, map}
use Rattle.std.specs.Global.{Vec}
use Rattle.std.specs.Borrow.{Bor}
use Rattle.std.specs.declared.cmp.Ordering.{Ordering}
use Rattle.rel_base.specs.declared.values.Value.{Value}
use Rattle.rel_base.specs.Values.{row_order}
use Rattle.rel_base.specs.Bags.{SameBag}
use Rattle.collector.specs.inner.Merged.{IsAscending}

-- the rows that are referred to
abbrev pub rows_at : List (Bor (List Value)) → List (List Value)
rows_at rows = map (λ row. row.now) rows

-- the rows of a part: as they are listed, or else as they stand
abbrev pub rows_in : List (List Value) → Option (Vec (Bor (List Value))) → List (List Value)
rows_in part None = part
rows_in part (Some listed) = rows_at listed.items

-- references are in the order of their rows
abbrev pub reference_order : Bor (List Value) → Bor (List Value) → Ordering
reference_order row other = row_order row.now other.now

-- the rows of a part, in ascending order
pub record IsSortedPart (part : List (List Value)) (rows : Vec (Bor (List Value))) : Type 0 where
  pub same_rows : SameBag part (rows_at rows.items)
  pub ascending : IsAscending reference_order rows
