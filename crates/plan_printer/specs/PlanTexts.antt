-- The text of a plan.
--
--   kind_word kind       the word for a kind of statement
--   join_word local      the word for a way to join at a worker
--   columns_text places   the columns of a variable, as ` 1.$0 3.$1`
--   share_text share      the share of a variable, where it has one
--   counts_text counts    numbers of rows, as ` 2 1 1`
--   plan_line note       the line of a note
--   plan_text notes      the lines of all notes, in order
use Rattle.std.specs.Prelude.{ℕ, List, [], ◌∷◌, codes, Option, Some, None}
use Rattle.std.specs.List.{flat_map}
use Rattle.std.specs.Fmt.{decimal}
use Rattle.rel_base.specs.Picks.{joined}
use Rattle.algebra.specs.declared.notes.PlanKind.{PlanKind}
use Rattle.algebra.specs.declared.notes.PlanKind.TheVariants as plan
use Rattle.algebra.specs.declared.notes.PlanNote.{PlanNote}
use Rattle.algebra.specs.declared.notes.PlanNote.TheVariants as note
use Rattle.algebra.specs.declared.settings.JoinKind.{JoinKind}
use Rattle.algebra.specs.declared.settings.JoinKind.TheVariants as join

-- the word for a kind of statement
abbrev pub kind_word : PlanKind → List ℕ
kind_word plan.Copy = codes "copy"
kind_word plan.Empty = codes "empty"
kind_word plan.Distinct = codes "distinct"
kind_word plan.UnionAll = codes "unionall"
kind_word plan.Diff = codes "diff"
kind_word plan.From = codes "from"

-- the word for a way to join at a worker
abbrev pub join_word : JoinKind → List ℕ
join_word join.Tj = codes "tj"
join_word join.Hj = codes "hj"

-- a column of a variable, behind a space: the number of its item, from 1, and its place there, from 0
abbrev pub place_text : ℕ × ℕ → List ℕ
place_text place = joined (codes " " ∷ decimal place.0 ∷ codes ".$" ∷ decimal place.1 ∷ [])

-- the columns of a variable, each behind a space
abbrev pub columns_text : List (ℕ × ℕ) → List ℕ
columns_text places = flat_map place_text places

-- over how many parts the rows of a variable are spread, where they are
abbrev pub share_text : Option ℕ → List ℕ
share_text (Some share) = joined (codes " share " ∷ decimal share ∷ [])
share_text None = []

-- numbers of rows, each behind a space
abbrev pub counts_text : List ℕ → List ℕ
counts_text counts = flat_map (λ count. joined (codes " " ∷ decimal count ∷ [])) counts

-- the line of a note
abbrev pub plan_line : PlanNote → List ℕ
plan_line (note.Statement number kind rows) =
    joined (codes "-- plan " ∷ decimal number ∷ codes " " ∷ kind_word kind ∷ codes " rows "
    ∷ decimal rows ∷ codes "\n" ∷ [])
plan_line (note.Item number rows pushed kept) =
    joined (codes "-- item " ∷ decimal number ∷ codes " rows " ∷ decimal rows ∷ codes " pushed "
    ∷ decimal pushed
    ∷ codes " kept " ∷ decimal kept ∷ codes "\n" ∷ [])
plan_line (note.Reduced counts) = joined (codes "-- reduce" ∷ counts_text counts ∷ codes "\n" ∷ [])
plan_line note.ReduceCyclic = codes "-- reduce cyclic\n"
plan_line (note.Variable number places share) =
    joined (codes "-- variable " ∷ decimal number ∷ columns_text places ∷ share_text share ∷ codes "\n" ∷ [])
plan_line (note.Hc local cells num den) =
    joined (codes "-- shuffle hc join " ∷ join_word local ∷ codes " cells " ∷ decimal cells ∷ codes " load "
    ∷ decimal num ∷ codes "/" ∷ decimal den ∷ codes "\n" ∷ [])
plan_line (note.Rs local) = joined (codes "-- shuffle rs join " ∷ join_word local ∷ codes "\n" ∷ [])
plan_line (note.Br local stays) =
    joined (codes "-- shuffle br join " ∷ join_word local ∷ codes " stays " ∷ decimal stays ∷ codes "\n" ∷ [])
plan_line (note.Group keys aggregates) =
    joined (codes "-- group keys " ∷ decimal keys ∷ codes " aggregates " ∷ decimal aggregates
    ∷ codes "\n" ∷ [])

-- the lines of all notes, in order
abbrev pub plan_text : List PlanNote → List ℕ
plan_text notes = flat_map plan_line notes
