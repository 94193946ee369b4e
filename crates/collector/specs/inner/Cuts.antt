-- Sorted rows that are cut before a row, the splitter.
--
--   stands_before splitter row     whether a row stands before the splitter
--   IsPlaceOf splitter rows from place     the rows between two places stand before the
--                                          splitter, and those behind don't
--   IsCutAt splitter rows front rest       rows, as those that stand before it and the others
use Rattle.std.specs.Prelude.{◌≡◌, ℕ, ◌<◌, ◌≤◌, ◌++◌, Bool, true, false, List, All, get_or, length}
use Rattle.std.specs.Ordering.{is_lt}
use Rattle.rel_base.specs.declared.values.Value.{Value}
use Rattle.rel_base.specs.Values.{row_order}

-- whether a row stands before the splitter
abbrev pub stands_before : List Value → List Value → Bool
stands_before splitter row = is_lt (row_order row splitter)

module _ (splitter : List Value) (rows : List (List Value)) where
  -- the rows from one place up to another stand before the splitter, and those behind don't
  pub record IsPlaceOf (from place : ℕ) : Type 0 where
    pub order : from ≤ place
    pub within : place ≤ length rows
    pub before : (k : ℕ) (d : List Value) → from ≤ k → k < place
        → stands_before splitter (get_or rows k d) ≡ true
    pub behind : (k : ℕ) (d : List Value) → place ≤ k → k < length rows
        → stands_before splitter (get_or rows k d) ≡ false

  -- rows, as those that stand before the splitter and the others
  pub record IsCutAt (front rest : List (List Value)) : Type 0 where
    pub all : rows ≡ front ++ rest
    pub before : All (λ row. stands_before splitter row ≡ true) front
    pub behind : All (λ row. stands_before splitter row ≡ false) rest
