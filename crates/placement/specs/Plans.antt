-- The plan of a checked script.
--
--   pushed_of shape j                   how many tests atom j's own columns are put to before the join
--   uses_of shape                       the variables of each atom, as the bits of a number
--   kept_sizes shape given              the numbers of kept rows
--   ShuffleRule                         by which rule the rows of a join come together
--   ruled_shuffle rule workers shape .. how they come together by this rule
--   one_rule rule                       this rule for all statements
--   usual_rules settings                that of the settings
--   placing_by settings rules           what settings say, with a rule for each statement
--   ruled_placing settings rule         with one rule for all
--   reduce_notes reduce shape items     the line on what is joined
--   join_notes p local number shape ..  the lines of a comprehension
--   step_notes p local value s          the lines of a step
--   plan_of p local files checked       the lines of the needed steps
use Rattle.std.specs.Prelude.{ℕ, suc, ◌+◌, ◌-◌, ◌^◌, Bool, true, false, if◌then◌else◌, List, [], ◌∷◌, ◌++◌, map, filter, length, sum_by, slice_index_or, Option, Some, None, is_some, is_none}
use Rattle.std.specs.List.{flat_map, enumerate_from, list_any}
use Rattle.rel_base.specs.Keys.{File}
use Rattle.myrial_ast.specs.Combinations.{Rows}
use Rattle.myrial_ast.specs.Classes.{item_of}
use Rattle.myrial_ast.specs.Groups.{Kinds}
use Rattle.myrial_ast.specs.KeptRows.{lies_in, reads_within, span_of_item}
use Rattle.algebra.specs.declared.notes.PlanKind.{PlanKind}
use Rattle.algebra.specs.declared.notes.PlanKind.TheVariants as plan
use Rattle.algebra.specs.declared.notes.PlanNote.{PlanNote}
use Rattle.algebra.specs.declared.notes.PlanNote.TheVariants as note
use Rattle.algebra.specs.declared.settings.JoinKind.{JoinKind}
use Rattle.algebra.specs.declared.settings.ShuffleKind.{ShuffleKind}
use Rattle.algebra.specs.declared.settings.ShuffleKind.TheVariants as shuffle_kind
use Rattle.algebra.specs.declared.settings.Settings.{Settings}
use Rattle.algebra.specs.declared.terms.Source.{Source}
use Rattle.algebra.specs.declared.terms.Source.TheVariants as source
use Rattle.algebra.specs.Trees.{Shape, TermTree, Same, Empty, UnionAll, Diff, Distinct, Join, Group, StepTree, CheckedTree}
use Rattle.algebra.specs.Shapes.{widths_of, tests_of, kept_of, is_acyclic_shape}
use Rattle.algebra.specs.Meanings.{needed_steps}
use Rattle.share_chooser.specs.Load.{product, load_of, are_shares}
use Rattle.share_chooser.specs.Best.{best_shares}
use Rattle.placement.specs.Layouts.{PlacedRelation, Placing, Shuffle, ByCells, ByKeys, Broadcast, rows_of, joined_items, staying_atom, placed_source, placed_steps}

-- the columns of a variable in atom j
abbrev pub columns_in_atom : Shape → ℕ → List ℕ → List ℕ
columns_in_atom shape j variable = filter (lies_in (span_of_item (widths_of shape) j)) variable

-- the number of tests that read columns of atom j and no others, and of each variable's columns in atom j but for the first
abbrev pub pushed_of : Shape → ℕ → ℕ
pushed_of shape j =
    length (filter (reads_within (span_of_item (widths_of shape) j)) (tests_of shape))
    + sum_by (λ v. length (columns_in_atom shape j v) - 1) shape.variables

-- the numbers of the kept rows
abbrev pub kept_sizes : Shape → List Rows → List ℕ
kept_sizes shape given = map (λ e. length (kept_of shape e.0 e.1)) (enumerate_from 0 given)

-- the variables with a column in atom j, as the bits of a number
abbrev pub bits_of : Shape → ℕ → ℕ
bits_of shape j =
    sum_by (λ (e : ℕ × List ℕ). if list_any (lies_in (span_of_item (widths_of shape) j)) e.1
    then 2 ^ e.0 else 0)
    (enumerate_from 0 shape.variables)

-- those of each atom
abbrev pub uses_of : Shape → List ℕ
uses_of shape = map (λ e. bits_of shape e.0) (enumerate_from 0 shape.atoms)

-- ---- rules

-- by which rule the rows of a join come together: at cells with the shares of least load for the
-- rows that are joined, or by one shuffle whatever they are
pub data ShuffleRule : Type 0 where
  LeastLoad : ShuffleRule
  Fixed : (shuffle : Shuffle) → ShuffleRule

-- this shuffle, where its shares are shares for so many variables and workers; else one atom's rows
-- stay
abbrev pub fitting_shuffle : ℕ → ℕ → Shuffle → Shuffle
fitting_shuffle variables workers (ByCells shares) =
    if are_shares variables workers shares then ByCells shares else Broadcast
fitting_shuffle variables workers ByKeys = ByKeys
fitting_shuffle variables workers Broadcast = Broadcast

-- how the rows of a join come together by a rule
abbrev pub ruled_shuffle : ShuffleRule → ℕ → Shape → List Rows → Shuffle
ruled_shuffle LeastLoad workers shape given =
    ByCells (best_shares (uses_of shape) (kept_sizes shape given) (length shape.variables) workers)
ruled_shuffle (Fixed shuffle) workers shape given =
    fitting_shuffle (length shape.variables) workers shuffle

-- by settings, at cells with the shares of least load, two at a time, or broadcast
abbrev pub usual_rule : ShuffleKind → ShuffleRule
usual_rule shuffle_kind.Hc = LeastLoad
usual_rule shuffle_kind.Rs = Fixed ByKeys
usual_rule shuffle_kind.Br = Fixed Broadcast

-- one rule for all statements
abbrev pub one_rule : ShuffleRule → ℕ → ShuffleRule
one_rule rule number = rule

-- that of the settings
abbrev pub usual_rules : Settings → ℕ → ShuffleRule
usual_rules s = one_rule (usual_rule s.shuffle)

-- the workers and the hash seed of the settings, whether they have joins reduced, and a rule for
-- each statement
abbrev pub placing_by : Settings → (ℕ → ShuffleRule) → Placing
placing_by s rules = record {
  workers = s.workers;
  seed = s.seed;
  reduce = s.reduce;
  shuffle = λ number. ruled_shuffle (rules number) s.workers;
}

-- with one rule for all
abbrev pub ruled_placing : Settings → ShuffleRule → Placing
ruled_placing s rule = placing_by s (one_rule rule)

-- ---- lines

-- for each item its number, its rows, its pushed tests and its kept rows
abbrev pub item_notes : Shape → List Rows → List PlanNote
item_notes shape given =
    map (λ (e : ℕ × Rows). note.Item (suc e.0) (length e.1) (pushed_of shape e.0)
    (length (kept_of shape e.0 e.1)))
    (enumerate_from 0 given)

-- the columns of a variable, by items from 1 and places from 0
abbrev pub places_of : Shape → List ℕ → List (ℕ × ℕ)
places_of shape variable =
    map (λ c. let j = item_of (widths_of shape) c in
    (suc j, c - (span_of_item (widths_of shape) j).from)) variable

-- the share of variable i, where there are shares
abbrev pub share_of : Shuffle → ℕ → Option ℕ
share_of (ByCells shares) i = Some (slice_index_or shares i 1)
share_of ByKeys i = None
share_of Broadcast i = None

-- for each variable its number, its columns and its share
abbrev pub variable_notes : Shuffle → Shape → List PlanNote
variable_notes shuffle shape =
    map (λ (e : ℕ × List ℕ). note.Variable (suc e.0) (places_of shape e.1) (share_of shuffle e.0))
    (enumerate_from 0 shape.variables)

-- the shuffle: with cells and load, with nothing more, or with the item that stays
abbrev pub shuffle_note : Shuffle → JoinKind → Shape → List Rows → PlanNote
shuffle_note (ByCells shares) local shape given =
    let load = load_of (uses_of shape) (kept_sizes shape given) shares in
    note.Hc local (product shares) load.num load.den
shuffle_note ByKeys local shape given = note.Rs local
shuffle_note Broadcast local shape given = note.Br local (suc (staying_atom shape given))

-- where joins are reduced, the numbers of the rows that are joined, or that the shape is cyclic and all are
abbrev pub reduce_notes : Bool → Shape → List Rows → List PlanNote
reduce_notes false shape items = []
reduce_notes true shape items =
    (if is_acyclic_shape shape then note.Reduced (map (λ rows. length rows) items)
    else note.ReduceCyclic) ∷ []

-- the lines of a comprehension: of its items, and where there are several of what is joined, of its variables and its shuffle
abbrev pub join_notes : Placing → JoinKind → ℕ → Shape → List PlacedRelation → List PlanNote
join_notes p local number shape (one ∷ []) = item_notes shape (rows_of (one ∷ []))
join_notes p local number shape given =
    let items = rows_of (joined_items p.reduce shape given) in
    let shuffle = p.shuffle number shape items in
    item_notes shape (rows_of given) ++ reduce_notes p.reduce shape items
    ++ variable_notes shuffle shape
    ++ shuffle_note shuffle local shape items ∷ []

-- how many emitted columns are keys, and how many aggregates
abbrev pub group_note : Kinds → PlanNote
group_note kinds =
    note.Group (length (filter (λ k. is_none k) kinds)) (length (filter (λ k. is_some k) kinds))

-- the word for a term
abbrev pub plan_kind : TermTree → PlanKind
plan_kind (Same s) = plan.Copy
plan_kind Empty = plan.Empty
plan_kind (UnionAll s t) = plan.UnionAll
plan_kind (Diff s t) = plan.Diff
plan_kind (Distinct s) = plan.Distinct
plan_kind _ = plan.From

-- the lines below that of a step
abbrev pub term_notes : Placing → JoinKind → ℕ → (Source → PlacedRelation) → TermTree
    → List PlanNote
term_notes p local number value (Join shape sources) =
    join_notes p local number shape (map value sources)
term_notes p local number value (Group shape sources kinds) =
    join_notes p local number shape (map value sources) ++ group_note kinds ∷ []
term_notes p local number value _ = []

-- the lines of a step, where `value` gives what sources and its own result stand for
abbrev pub step_notes : Placing → JoinKind → (Source → PlacedRelation) → StepTree → List PlanNote
step_notes p local value s =
    note.Statement s.statement (plan_kind s.term) (length (value (source.Result s.statement)).relation.rows)
    ∷ term_notes p local s.statement value s.term

-- the lines of the needed steps
abbrev pub plan_of : Placing → JoinKind → List File → CheckedTree → List PlanNote
plan_of p local files c =
    flat_map (step_notes p local (placed_source p files (placed_steps p files c.steps)))
    (needed_steps c.stores c.steps)
