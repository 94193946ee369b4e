-- The plan that the notes of a run print.
--
--   shuffle_noted shares note               how rows meet, where a note tells it
--   statement_behind n note                 the statement that has been told of behind a note
--   shares_behind shares note               the shares that have been told of its variables
--   choice_noted n shuffle                  the choice for a statement, where its shuffle is told
--   choices_behind n shares notes           the choices that notes print behind others
--   choices_in notes                        the choices that notes print
--   noted_plan notes workers                the plan of these choices
use Rattle.std.specs.Prelude.{ℕ, List, [], ◌∷◌, ◌++◌, take, Option, Some, None, option_map}
use Rattle.std.specs.Option.{option_to_list}
use Rattle.rel_base.specs.Limits.{most_variables}
use Rattle.algebra.specs.declared.notes.PlanNote.{PlanNote}
use Rattle.algebra.specs.declared.notes.PlanNote.TheVariants as note
use Rattle.placement.specs.Layouts.{Shuffle, ByCells, ByKeys, Broadcast}
use Rattle.fragmenter.specs.Plans.{ChoiceTree, PlanTree}

-- how the rows of a join meet, where a note tells it: by cells, with the shares that were told
abbrev pub shuffle_noted : List ℕ → PlanNote → Option Shuffle
shuffle_noted shares (note.Hc local cells num den) = Some (ByCells shares)
shuffle_noted shares (note.Rs local) = Some ByKeys
shuffle_noted shares (note.Br local stays) = Some Broadcast
shuffle_noted shares _ = None

-- the statement of the last note that tells of one
abbrev pub statement_behind : ℕ → PlanNote → ℕ
statement_behind n (note.Statement number kind rows) = number
statement_behind n _ = n

-- the shares of a statement's variables, of which a join has at most so many
abbrev pub shares_behind : List ℕ → PlanNote → List ℕ
shares_behind shares (note.Statement number kind rows) = []
shares_behind shares (note.Variable number places (Some share)) =
    take most_variables (shares ++ share ∷ [])
shares_behind shares _ = shares

-- the choice for a statement, where it is told how rows meet
abbrev pub choice_noted : ℕ → Option Shuffle → List ChoiceTree
choice_noted n shuffle =
    option_to_list (option_map (λ told. record { statement = n; shuffle = told }) shuffle)

-- the choices that notes print, where this statement and these shares were told of before
abbrev pub choices_behind : ℕ → List ℕ → List PlanNote → List ChoiceTree
choices_behind n shares [] = []
choices_behind n shares (x ∷ notes) =
    choice_noted n (shuffle_noted shares x)
    ++ choices_behind (statement_behind n x) (shares_behind shares x) notes

-- the choices that notes print: each for the statement before it, with the shares of its variables
abbrev pub choices_in : List PlanNote → List ChoiceTree
choices_in notes = choices_behind 0 [] notes

-- the plan of these choices
abbrev pub noted_plan : List PlanNote → ℕ → PlanTree
noted_plan notes workers = record { workers = workers; choices = choices_in notes }
