-- The lines of a join's plan, by numbers of rows.
--
--   IsFitting shape choice          a choice that a join of this shape may have
--   item_line shape e               the line of an item
--   item_lines shape rows kept      the line of each item
--   reduce_lines reduction joined   the line on what is joined
--   choice_line choice local ..     the line of the shuffle
--   join_lines choice local ..      the lines of a join
use Rattle.std.specs.Prelude.{⊤, ℕ, suc, ◌<◌, List, [], ◌∷◌, ◌++◌, map, length}
use Rattle.std.specs.List.{enumerate_from, zip}
use Rattle.rel_base.specs.Limits.{most_workers}
use Rattle.algebra.specs.declared.notes.PlanNote.{PlanNote}
use Rattle.algebra.specs.declared.notes.PlanNote.TheVariants as note
use Rattle.algebra.specs.declared.settings.JoinKind.{JoinKind}
use Rattle.algebra.specs.Trees.{Shape}
use Rattle.share_chooser.specs.Load.{product, load_of, IsShareVector}
use Rattle.share_chooser.specs.Shares.{shares_of}
use Rattle.placement.specs.Plans.{uses_of, pushed_of, variable_notes}
use Rattle.placement.specs.declared.choices.ShuffleChoice.{ShuffleChoice}
use Rattle.placement.specs.declared.choices.ShuffleChoice.TheVariants as choice
use Rattle.join_plans.specs.declared.sizes.Reduction.{Reduction}
use Rattle.join_plans.specs.declared.sizes.Reduction.TheVariants as reduction
use Rattle.placement.specs.Choices.{shuffle_of}

-- by cells, there is a positive share for each variable, and there are no more cells than workers may
-- be; where the rows of one atom stay, the shape has it
abbrev pub IsFitting : Shape → ShuffleChoice → Type 0
IsFitting shape (choice.Cells shares) =
    IsShareVector (length shape.variables) most_workers (shares_of shares)
IsFitting shape choice.Keys = ⊤
IsFitting shape (choice.Broadcast stays) = stays < length shape.atoms

-- an item's number, its rows, its pushed tests and its kept rows
abbrev pub item_line : Shape → ℕ × (ℕ × ℕ) → PlanNote
item_line shape e = note.Item (suc e.0) e.1.0 (pushed_of shape e.0) e.1.1

abbrev pub item_lines : Shape → List ℕ → List ℕ → List PlanNote
item_lines shape rows kept = map (item_line shape) (enumerate_from 0 (zip rows kept))

-- the numbers of joined rows, or that the join is cyclic, where a reduction was asked for
abbrev pub reduce_lines : Reduction → List ℕ → List PlanNote
reduce_lines reduction.Unasked joined = []
reduce_lines reduction.Cyclic joined = note.ReduceCyclic ∷ []
reduce_lines reduction.Reduced joined = note.Reduced joined ∷ []

-- the shuffle: with cells and load, with nothing more, or with the item that stays
abbrev pub choice_line : ShuffleChoice → JoinKind → Shape → List ℕ → PlanNote
choice_line (choice.Cells shares) local shape joined =
    let load = load_of (uses_of shape) joined (shares_of shares) in
    note.Hc local (product (shares_of shares)) load.num load.den
choice_line choice.Keys local shape joined = note.Rs local
choice_line (choice.Broadcast stays) local shape joined = note.Br local (suc stays)

-- the lines of a join: of its items, and where there are several of what is joined, of its variables and its shuffle
abbrev pub join_lines : ShuffleChoice → JoinKind → Shape → Reduction → List ℕ → List ℕ → List ℕ
    → List PlanNote
join_lines choice local shape reduction (one ∷ []) kept joined = item_lines shape (one ∷ []) kept
join_lines choice local shape reduction rows kept joined =
    item_lines shape rows kept ++ reduce_lines reduction joined
    ++ variable_notes (shuffle_of choice) shape
    ++ choice_line choice local shape joined ∷ []
