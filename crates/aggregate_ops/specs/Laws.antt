-- The law of merged partial rows.
--
--   MergedFitAsGroups     merged partial rows lie in 64 bits exactly where the sums of the groups of all rows do
use Rattle.std.specs.Prelude.{◌≡◌, ◌<◌, ◌^◌, List, All, length}
use Rattle.std.specs.List.{flat_map}
use Rattle.rel_base.specs.Bags.{SameBag}
use Rattle.myrial_ast.specs.Combinations.{Rows}
use Rattle.myrial_ast.specs.Groups.{Kinds, sums_fit}
use Rattle.myrial_ast.specs.Partials.{partial_rows}
use Rattle.bag_laws.specs.PartialLaws.{AreGrouped}
use Rattle.aggregate_ops.specs.Forms.{merged_fits}

-- the partial rows of some lists, in any order: what is merged of them fits exactly where the groups of the lists put together
-- do. Of fewer than 2 ^ 63 rows every count fits
abbrev pub MergedFitAsGroups : Type 0
MergedFitAsGroups =
    (kinds : Kinds) (lists : List Rows) (partials : Rows) → All (AreGrouped kinds) lists
    → SameBag partials (flat_map (partial_rows kinds) lists)
    → length (flat_map (λ rows. rows) lists) < 2 ^ 63
    → merged_fits kinds partials ≡ sums_fit kinds (flat_map (λ rows. rows) lists)
