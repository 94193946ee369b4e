-- The laws of partial rows.
--
--   MergedAreGroups        the partial rows of each of some lists, merged, are the groups of the lists put together
--   PartialsKeepTheKey     a partial row has the key of the group whose row it is
--   GroupsMeetByKey        the partial rows with some of the keys, merged, are the groups with these keys
--   SumsAreSplit           the two columns of a sum make the number, and the low one is from 0 and below 2 ^ 62
--   PartialsFit            where the numbers of at most 4,194,304 rows lie in 64 bits, those of their partial rows do
use Rattle.std.specs.Prelude.{◌≡◌, ℕ, ◌^◌, ◌<◌, ◌≤◌, true, ℤ, pos, ◌+ℤ◌, ◌*ℤ◌, Bool, List, map, filter, length, All}
use Rattle.std.specs.List.{flat_map}
use Rattle.rel_base.specs.Bags.{SameBag}
use Rattle.rel_base.specs.Limits.{most_rows}
use Rattle.myrial_ast.specs.Scalars.{value_at}
use Rattle.myrial_ast.specs.Combinations.{Row, Rows}
use Rattle.myrial_ast.specs.Groups.{Kinds, groups, key_of, keys, row_fits}
use Rattle.myrial_ast.specs.Partials.{high, low, partial_kinds, partial_rows, partial_keys, merged}

-- each row has a column for each kind
abbrev pub AreGrouped : Kinds → Rows → Type 0
AreGrouped kinds rows = All (λ row. length row ≡ length kinds) rows

-- partial rows in any order, those of some lists one after another, are merged to the groups of the lists put together
abbrev pub MergedAreGroups : Type 0
MergedAreGroups =
    (kinds : Kinds) (lists : List Rows) (partials : Rows) → All (AreGrouped kinds) lists
    → SameBag partials (flat_map (partial_rows kinds) lists)
    → SameBag (merged kinds partials) (groups kinds (flat_map (λ rows. rows) lists))

-- the key columns of the partial rows hold the keys, in order
abbrev pub PartialsKeepTheKey : Type 0
PartialsKeepTheKey =
    (kinds : Kinds) (rows : Rows) → AreGrouped kinds rows
    → (map (key_of (partial_kinds kinds)) (partial_rows kinds rows) ≡ keys kinds rows)
    × (map (λ row. map (value_at row) (partial_keys kinds)) (partial_rows kinds rows) ≡ keys kinds rows)

-- where partial rows go by a test of their key, what has passed is merged to the groups whose key passes
abbrev pub GroupsMeetByKey : Type 0
GroupsMeetByKey =
    (kinds : Kinds) (lists : List Rows) (partials : Rows) (test : Row → Bool)
    → All (AreGrouped kinds) lists
    → SameBag partials
    (flat_map (λ rows. filter (λ row. test (key_of (partial_kinds kinds) row))
    (partial_rows kinds rows)) lists)
    → SameBag (merged kinds partials)
    (filter (λ row. test (key_of kinds row)) (groups kinds (flat_map (λ rows. rows) lists)))

-- a number is high * 2 ^ 62 + low, and low is from 0 and below 2 ^ 62
abbrev pub SumsAreSplit : Type 0
SumsAreSplit = (z : ℤ)
    → ((high z *ℤ pos (2 ^ 62)) +ℤ low z ≡ z) × ((n : ℕ) × (low z ≡ pos n) × (n < 2 ^ 62))

-- sums never leave 64 bits in partial rows, where a whole sum may
abbrev pub PartialsFit : Type 0
PartialsFit =
    (kinds : Kinds) (rows : Rows) → length rows ≤ most_rows → All (λ row. row_fits row ≡ true) rows
    → All (λ row. row_fits row ≡ true) (partial_rows kinds rows)
