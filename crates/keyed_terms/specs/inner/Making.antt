-- Rows that are made for each worker.
use Rattle.std.specs.Prelude.{◌≡◌, ◌⊎◌, ℕ, ◌<◌, ◌^◌, List, [], map, length, slice_index_or, true, Result, Ok, Err, IfOk, OnOk, All}
use Rattle.std.specs.List.{list_all}
use Rattle.rel_base.specs.declared.failure.Memory.{Memory}
use Rattle.rel_base.specs.Bags.{SameBag}
use Rattle.myrial_ast.specs.CandidateFaults.{all_fit}
use Rattle.myrial_ast.specs.Combinations.{Rows, emitted}
use Rattle.myrial_ast.specs.Groups.{Kinds}
use Rattle.myrial_ast.specs.Partials.{partial_rows, merged}
use Rattle.myrial_ast.specs.Scalars.{Scalar}
use Rattle.bag_laws.specs.PartialLaws.{AreGrouped}
use Rattle.placement.specs.Layouts.{together}
use Rattle.aggregate_ops.specs.Columns.{Overflows}
use Rattle.aggregate_ops.specs.Forms.{merged_fits}
use Rattle.aggregate_ops.specs.declared.faults.AggFault.{AggFault}
use Rattle.aggregate_ops.specs.declared.faults.AggFault.TheVariants as fault

-- of pairs of lists of rows the first of each, and the second
abbrev pub left_rows : List (Rows × Rows) → List Rows
left_rows pairs = map (λ (p : Rows × Rows). p.0) pairs

abbrev pub right_rows : List (Rows × Rows) → List Rows
right_rows pairs = map (λ (p : Rows × Rows). p.1) pairs

-- a list for each of n workers, with these rows, as bags
pub record AreMadeBy (n : ℕ) (rows : ℕ → Rows) (made : List Rows) : Type 0 where
  pub count : length made ≡ n
  pub rows_are : (w : ℕ) → w < n → SameBag (rows w) (slice_index_or made w [])

-- partial rows for each of n workers, of these listed rows, which are few
pub record AreFormed (kinds : Kinds) (n : ℕ) (listed partials : List Rows) : Type 0 where
  pub long : length listed ≡ n
  pub grouped : All (AreGrouped kinds) listed
  pub few : length (together listed) < 2 ^ 63
  pub made : AreMadeBy n (λ w. partial_rows kinds (slice_index_or listed w [])) partials

-- the fault of one of them, or memory was refused
abbrev pub IsFaultOf : List (Result Rows AggFault) → AggFault → Type 0
IsFaultOf all wrong =
    ((w : ℕ) × (w < length all) × ((d : Result Rows AggFault) → slice_index_or all w d ≡ Err wrong))
    ⊎ (wrong ≡ fault.Memory)

-- what forming partial rows of what a worker's own rows emit answers
pub record IsPicked (kinds : Kinds) (picks : List Scalar) (own : Rows)
    (answer : Result Rows Memory) : Type 0 where
  pub rows : IfOk answer (SameBag (partial_rows kinds (map (emitted picks) own)))
  pub fits : OnOk answer (list_all (all_fit picks) own ≡ true)
  pub few : length own < 2 ^ 32

-- what merging partial rows answers
abbrev pub IsMerged : Kinds → Rows → Result Rows AggFault → Type 0
IsMerged kinds partials (Ok made) =
    SameBag (merged kinds partials) made × (merged_fits kinds partials ≡ true)
IsMerged kinds partials (Err wrong) = Overflows wrong (merged_fits kinds partials)
