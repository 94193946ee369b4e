-- The terms whose rows go to the homes of keys: their rows at each worker, and their exchanges.
--
--   AreOfWidth width parts          each row at each worker has so many columns
--   keyed_placing s                 the workers and the hash seed of settings
--   distinct_parts, distinct_exchanges      each row once, at the home of all its columns
--   diff_parts, diff_exchanges      each row of the one that the other doesn't have, once, there too
--   group_parts, group_exchanges    the groups of listed rows, at the homes of their keys
--   emitted_parts emits parts       what the rows at each worker emit
--   IsRefused fault                 memory may be refused at any time
--   IsGroupFault kinds listed fault a sum of the groups lies outside 64 bits, or memory was refused
--   IsPickedFault kinds picks parts fault
--                                   the same of what rows emit, of which each number lies in 64 bits
use Rattle.std.specs.Prelude.{◌≡◌, ⊤, ℕ, ◌++◌, true, false, List, [], ◌∷◌, map, length, All, slice_index_or}
use Rattle.std.specs.List.{list_all}
use Rattle.rel_base.specs.declared.failure.Memory.{Memory}
use Rattle.myrial_ast.specs.Bags.{distinct, difference}
use Rattle.myrial_ast.specs.CandidateFaults.{all_fit}
use Rattle.myrial_ast.specs.Combinations.{Rows, emitted}
use Rattle.myrial_ast.specs.Groups.{Kinds, groups, sums_fit}
use Rattle.myrial_ast.specs.Scalars.{Scalar}
use Rattle.algebra.specs.declared.notes.Exchange.TheVariants as exchange
use Rattle.algebra.specs.declared.settings.Settings.{Settings}
use Rattle.aggregate_ops.specs.Columns.{Overflows}
use Rattle.aggregate_ops.specs.declared.faults.AggFault.{AggFault}
use Rattle.aggregate_ops.specs.declared.faults.AggFault.TheVariants as agg
use Rattle.placement.specs.Exchanges.{PlacedExchange, row_exchange, group_exchange}
use Rattle.placement.specs.Layouts.{Placing, together, by_worker, parts_by_row, parts_by_key}
use Rattle.placement.specs.Plans.{placing_by, usual_rules}
use Rattle.routed_joins.specs.PlacedJoins.{placed_rows}

-- each row at each worker has so many columns
abbrev pub AreOfWidth : ℕ → List Rows → Type 0
AreOfWidth width parts = All (All (λ row. length row ≡ width)) parts

-- the workers and the hash seed of settings; no rule of a join says where rows go by keys
abbrev pub keyed_placing : Settings → Placing
keyed_placing s = placing_by s (usual_rules s)

-- each row once, at the home of all its columns
abbrev pub distinct_parts : Settings → List Rows → List Rows
distinct_parts s parts = parts_by_row (keyed_placing s) (distinct (together parts))

-- to which all rows go
abbrev pub distinct_exchanges : Settings → List Rows → List PlacedExchange
distinct_exchanges s parts =
    row_exchange (keyed_placing s) exchange.Distinct (placed_rows parts ∷ []) (distinct_parts s parts) ∷ []

-- each row of the left one that the right one doesn't have, once, at the home of all its columns
abbrev pub diff_parts : Settings → List Rows → List Rows → List Rows
diff_parts s left right =
    parts_by_row (keyed_placing s) (difference (together left) (together right))

-- to which all rows of both go, in one exchange
abbrev pub diff_exchanges : Settings → List Rows → List Rows → List PlacedExchange
diff_exchanges s left right =
    row_exchange (keyed_placing s) exchange.Diff (placed_rows left ∷ placed_rows right ∷ [])
    (diff_parts s left right) ∷ []

-- the groups of the rows that all workers listed, at the homes of their keys
abbrev pub group_parts : Settings → Kinds → List Rows → List Rows
group_parts s kinds listed = parts_by_key (keyed_placing s) kinds (groups kinds (together listed))

-- to which the partial rows of what each worker listed go
abbrev pub group_exchanges : Settings → Kinds → List Rows → List PlacedExchange
group_exchanges s kinds listed =
    group_exchange (keyed_placing s) kinds listed (group_parts s kinds listed) ∷ []

-- what the rows at each worker emit
abbrev pub emitted_parts : List Scalar → List Rows → List Rows
emitted_parts emits parts = map (map (emitted emits)) parts

-- at each worker the rows of both
abbrev pub both_parts : List Rows → List Rows → List Rows
both_parts left right =
    by_worker (length left) (λ w. slice_index_or left w [] ++ slice_index_or right w [])

-- memory may be refused at any time
abbrev pub IsRefused : Memory → Type 0
IsRefused fault = ⊤

-- a sum of the groups lies outside 64 bits; memory may be refused at any time
abbrev pub IsGroupFault : Kinds → List Rows → AggFault → Type 0
IsGroupFault kinds listed fault = Overflows fault (sums_fit kinds (together listed))

-- a sum of the groups of what the rows emit lies outside 64 bits, and no number that is emitted does; memory may be refused at any
-- time
abbrev pub IsPickedFault : Kinds → List Scalar → List Rows → AggFault → Type 0
IsPickedFault kinds picks parts agg.AggregateOverflow =
    (sums_fit kinds (together (emitted_parts picks parts)) ≡ false)
    × (list_all (all_fit picks) (together parts) ≡ true)
IsPickedFault kinds picks parts agg.Memory = ⊤
