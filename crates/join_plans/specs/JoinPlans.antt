-- The shuffle that is chosen for a join, and the lines of its plan.
--
--   ruled_by by                           the rule that a value in the code says
--   sizes_of given                       the numbers of rows
--   reduction_of reduce shape            what a reduction comes to, if it is asked for
--   joined_sizes reduction shape given   the numbers of joined rows
--   AreSizes reduction shape given sizes the numbers are those of these items
--   chosen rule workers shape joined     what a rule asks for with so many joined rows of each atom
--   staying_of joined                    the atom with the most joined rows
--   IsStaying joined choice              the atom whose rows stay is this one
--   IsChosenFor rule workers shape joined choice   the choice is what the rule asks for
--   ChosenAreRuled                       that is the shuffle of the rule
use Rattle.std.specs.Prelude.{◌≡◌, ◌<◌, ⊤, ℕ, Bool, true, false, if◌then◌else◌, List, map, length, find, unwrap_or}
use Rattle.std.specs.List.{range_with_len}
use Rattle.myrial_ast.specs.Combinations.{Rows}
use Rattle.algebra.specs.Trees.{Shape}
use Rattle.algebra.specs.Shapes.{is_acyclic_shape}
use Rattle.share_chooser.specs.Best.{best_shares}
use Rattle.placement.specs.Layouts.{PlacedRelation, Shuffle, ByCells, Broadcast, is_most, staying_atom, rows_of, reduced_items, joined_items}
use Rattle.placement.specs.Plans.{ShuffleRule, LeastLoad, Fixed, fitting_shuffle, uses_of, kept_sizes, ruled_shuffle}
use Rattle.placement.specs.Choices.{shuffle_of}
use Rattle.fragmenter.specs.Plans as plans
use Rattle.placement.specs.declared.choices.ShuffleChoice.{ShuffleChoice}
use Rattle.placement.specs.declared.choices.ShuffleChoice.TheVariants as choice
use Rattle.join_plans.specs.declared.rules.ShuffleBy.{ShuffleBy}
use Rattle.join_plans.specs.declared.rules.ShuffleBy.TheVariants as by
use Rattle.join_plans.specs.declared.sizes.JoinSizes.{JoinSizes}
use Rattle.join_plans.specs.declared.sizes.Reduction.{Reduction}
use Rattle.join_plans.specs.declared.sizes.Reduction.TheVariants as reduction

-- the rule that a value in the code says
abbrev pub ruled_by : ShuffleBy → ShuffleRule
ruled_by by.LeastLoad = LeastLoad
ruled_by (by.Fixed how) = Fixed (plans.shuffle_of how)

-- ---- numbers of rows

-- the numbers of rows
abbrev pub sizes_of : List Rows → List ℕ
sizes_of given = map (λ rows. length rows) given

-- what a reduction comes to: nothing where none is asked for, and else the shape tells
abbrev pub reduction_of : Bool → Shape → Reduction
reduction_of false shape = reduction.Unasked
reduction_of true shape = if is_acyclic_shape shape then reduction.Reduced else reduction.Cyclic

-- the numbers of joined rows: of the reduced rows where rows are gone, and else of the kept rows
abbrev pub joined_sizes : Reduction → Shape → List PlacedRelation → List ℕ
joined_sizes reduction.Unasked shape given = kept_sizes shape (rows_of given)
joined_sizes reduction.Cyclic shape given = kept_sizes shape (rows_of given)
joined_sizes reduction.Reduced shape given = sizes_of (rows_of (reduced_items shape given))

-- the numbers of rows, kept rows and joined rows of these items; no line tells what is joined of an item that is alone
pub record AreSizes (reduction : Reduction) (shape : Shape) (given : List PlacedRelation)
    (sizes : JoinSizes) : Type 0 where
  pub rows : sizes_of (rows_of given) ≡ sizes.rows.now
  pub kept : kept_sizes shape (rows_of given) ≡ sizes.kept.now
  pub joined : 1 < length given → joined_sizes reduction shape given ≡ sizes.joined.now

-- ---- choices

-- what a rule asks for with so many joined rows of each atom: cells with the shares of least load,
-- or its one shuffle
abbrev pub chosen : ShuffleRule → ℕ → Shape → List ℕ → Shuffle
chosen LeastLoad workers shape joined =
    ByCells (best_shares (uses_of shape) joined (length shape.variables) workers)
chosen (Fixed shuffle) workers shape joined =
    fitting_shuffle (length shape.variables) workers shuffle

-- the place of the greatest number, the first of them at a tie
abbrev pub staying_of : List ℕ → ℕ
staying_of joined = unwrap_or (find (is_most joined) (range_with_len 0 (length joined))) 0

-- where the rows of one atom stay, it is the one with the most joined rows
abbrev pub IsStaying : List ℕ → ShuffleChoice → Type 0
IsStaying joined (choice.Cells shares) = ⊤
IsStaying joined choice.Keys = ⊤
IsStaying joined (choice.Broadcast stays) = stays ≡ staying_of joined

-- the choice is what a rule asks for with so many joined rows of each atom
pub record IsChosenFor (rule : ShuffleRule) (workers : ℕ) (shape : Shape) (joined : List ℕ)
    (choice : ShuffleChoice) : Type 0 where
  pub shuffle : shuffle_of choice ≡ chosen rule workers shape joined
  pub stays : IsStaying joined choice

-- by the numbers of kept rows of what is joined, it is the shuffle of the rule, and the atom that stays is that of the
-- definitions; and these are the numbers of joined rows
pub record ChosenAreRuled : Type 0 where
  pub shuffle : (rule : ShuffleRule) (workers : ℕ) (shape : Shape) (items : List Rows)
      → chosen rule workers shape (kept_sizes shape items)
      ≡ ruled_shuffle rule workers shape items
  pub stays : (shape : Shape) (items : List Rows)
      → staying_of (kept_sizes shape items) ≡ staying_atom shape items
  pub sizes : (reduce : Bool) (shape : Shape) (given : List PlacedRelation)
      → joined_sizes (reduction_of reduce shape) shape given
      ≡ kept_sizes shape (rows_of (joined_items reduce shape given))
