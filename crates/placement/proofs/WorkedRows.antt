-- Worked cases of placement, traffic and plans, computed: a wrong definition does not check. The numbers are those of a program
-- that was written apart from these definitions. The hash seed is 0.
use Rattle.std.proofs.Common.{◌≡◌, ℕ, ◌==◌, true, List, [], ◌∷◌, map, length, codes, cond, refl, Some, None, false}
use Rattle.std.specs.Prelude.{pos, negsuc}
use Rattle.rel_base.specs.declared.names.Key.{Key}
use Rattle.rel_base.specs.declared.relations.Column.{Column}
use Rattle.rel_base.specs.declared.values.ColType.{ColType}
use Rattle.rel_base.specs.declared.values.ColType.TheVariants as kind
use Rattle.rel_base.specs.declared.values.Value.{Value}
use Rattle.rel_base.specs.declared.values.Value.TheVariants as value
use Rattle.rel_base.specs.Keys.{File}
use Rattle.myrial_ast.specs.declared.operators.AggOp.TheVariants as agg
use Rattle.myrial_ast.specs.declared.operators.BinOp.TheVariants as op
use Rattle.myrial_ast.specs.Scalars.{Scalar, Lit, At, Bin}
use Rattle.myrial_ast.specs.Combinations.{Row, Rows}
use Rattle.share_chooser.specs.Load as load
use Rattle.algebra.specs.declared.notes.Exchange.{Exchange}
use Rattle.algebra.specs.declared.notes.Exchange.TheVariants as exchange
use Rattle.algebra.specs.declared.notes.PlanKind.TheVariants as plan
use Rattle.algebra.specs.declared.notes.PlanNote.{PlanNote}
use Rattle.algebra.specs.declared.notes.PlanNote.TheVariants as note
use Rattle.algebra.specs.declared.notes.Traffic.{Traffic}
use Rattle.algebra.specs.declared.settings.JoinKind.TheVariants as local
use Rattle.algebra.specs.declared.settings.ShuffleKind.{ShuffleKind}
use Rattle.algebra.specs.declared.settings.ShuffleKind.TheVariants as shuffle_kind
use Rattle.algebra.specs.declared.terms.Source.{Source}
use Rattle.algebra.specs.declared.terms.Source.TheVariants as source
use Rattle.algebra.specs.declared.terms.StoreStep.{StoreStep}
use Rattle.algebra.specs.Conditions.{is_of}
use Rattle.algebra.specs.Shapes.{shape_of, kept_of}
use Rattle.algebra.specs.Trees.{Shape, TermTree, Same, Empty, UnionAll, Diff, Distinct, Join, Group, StepTree, CheckedTree}
use Rattle.placement.specs.Destinations.{destinations, meeting_cell}
use Rattle.placement.specs.Exchanges.{PlacedExchange, exchanges_of, traffic_of}
use Rattle.placement.specs.Layouts.{PlacedRelation, Placing, ByCells, Broadcast, placed_stores}
use Rattle.row_exchange.specs.Moves.{Move, sent, received, rows_between, rows_given}
use Rattle.placement.specs.Plans.{Fixed, ruled_shuffle, usual_rule, pushed_of, plan_of}

-- ---- scripts as steps

abbrev adhoc : List ℕ → Key
adhoc name = record { user = codes "public"; program = codes "adhoc"; name = name }

abbrev numbers : List ℕ → Row
numbers ns = map (λ n. value.Int (pos n)) ns

abbrev singles : List ℕ → Rows
singles ns = map (λ n. numbers (n ∷ [])) ns

abbrev pairs : List (ℕ × ℕ) → Rows
pairs ps = map (λ (p : ℕ × ℕ). numbers (p.0 ∷ p.1 ∷ [])) ps

abbrev column : List ℕ → ColType → Column
column name k = record { name = name; kind = k }

abbrev one_int : List Column
one_int = column (codes "x") kind.Int ∷ []

abbrev two_ints : List Column
two_ints = column (codes "x") kind.Int ∷ column (codes "y") kind.Int ∷ []

abbrev file : List ℕ → List Column → Rows → File
file name schema rows = (adhoc name, record { schema = schema; rows = rows })

abbrev first_file : Source
first_file = source.File 0

abbrev second_file : Source
second_file = source.File 1

abbrev third_file : Source
third_file = source.File 2

abbrev equal : ℕ → ℕ → Scalar
equal a b = Bin op.Eq (At a) (At b)

-- the join of items with columns of these types, by its conjuncts and what it emits
abbrev joined : List (List ColType) → List Scalar → List Scalar → Shape
joined kinds conjuncts emits = shape_of kinds (record { conjuncts = conjuncts; emits = emits; aggregates = [] })

abbrev step : ℕ → List Column → TermTree → StepTree
step number schema term = record { statement = number; schema = schema; term = term }

abbrev store : ℕ → List ℕ → Source → StoreStep
store number name from = record { statement = number; key = adhoc name; source = from }

-- one statement whose result is stored
abbrev alone : List Column → TermTree → CheckedTree
alone schema term = record { steps = step 1 schema term ∷ []; stores = store 2 (codes "Out") (source.Result 1) ∷ [] }

-- so many workers, and the usual way of a shuffle
abbrev placing : ShuffleKind → ℕ → Placing
placing kind n = record { workers = n; seed = 0; reduce = false; shuffle = λ number. ruled_shuffle (usual_rule kind) n }

abbrev parts : ShuffleKind → ℕ → List File → CheckedTree → List (List Rows)
parts kind n files c = map (λ (p : Key × PlacedRelation). p.1.parts) (placed_stores (placing kind n) files c)

abbrev traffic : ShuffleKind → ℕ → List File → CheckedTree → List Traffic
traffic kind n files c = traffic_of (placing kind n) files c

abbrev planned : ShuffleKind → ℕ → List File → CheckedTree → List PlanNote
planned kind n files c = plan_of (placing kind n) local.Tj files c

-- the moves of each exchange
abbrev moved : ShuffleKind → ℕ → List File → CheckedTree → List (List Move)
moved kind n files c = map (λ (e : ℕ × PlacedExchange). e.1.moves) (exchanges_of (placing kind n) files c)

abbrev noted : ℕ → Exchange → List ℕ → List ℕ → Traffic
noted number kind received listed = record { statement = number; exchange = kind; received = received; listed = listed }

-- ---- R = 0, 1, 2, 3 and S the same, [from R as r, S as s where r.x = s.x emit r.x], 2 workers

abbrev fours : List File
fours = file (codes "R") one_int (singles (0 ∷ 1 ∷ 2 ∷ 3 ∷ [])) ∷ file (codes "S") one_int (singles (0 ∷ 1 ∷ 2 ∷ 3 ∷ [])) ∷ []

abbrev join_fours : CheckedTree
join_fours = alone one_int (Join (joined ((kind.Int ∷ []) ∷ (kind.Int ∷ []) ∷ []) (equal 0 1 ∷ []) (At 0 ∷ [])) (first_file ∷ second_file ∷ []))

pub checked-fours : is_of fours join_fours ≡ true
checked-fours = refl

pub parts-fours_by_cells : parts shuffle_kind.Hc 2 fours join_fours ≡ (singles (1 ∷ []) ∷ singles (0 ∷ 2 ∷ 3 ∷ []) ∷ []) ∷ []
unfolding load.comes_before load.load_of
parts-fours_by_cells = refl

pub traffic-fours_by_cells : traffic shuffle_kind.Hc 2 fours join_fours ≡ noted 1 exchange.Hc (2 ∷ 6 ∷ []) (1 ∷ 3 ∷ []) ∷ []
unfolding load.comes_before load.load_of
traffic-fours_by_cells = refl

pub plan-fours_by_cells : planned shuffle_kind.Hc 2 fours join_fours
    ≡ note.Statement 1 plan.From 4 ∷ note.Item 1 4 0 4 ∷ note.Item 2 4 0 4
    ∷ note.Variable 1 ((1, 0) ∷ (2, 0) ∷ []) (Some 2) ∷ note.Hc local.Tj 2 8 2 ∷ []
unfolding load.comes_before load.load_of
plan-fours_by_cells = refl

-- what each worker sends; what goes from worker 0 to worker 1; and what worker 1 is given of the second item
pub sent-fours_by_cells : map (λ moves. map (sent moves) (0 ∷ 1 ∷ [])) (moved shuffle_kind.Hc 2 fours join_fours) ≡ (4 ∷ 4 ∷ []) ∷ []
unfolding load.comes_before load.load_of
sent-fours_by_cells = refl

pub between-fours_by_cells : map (λ moves. rows_between moves 0 0 1) (moved shuffle_kind.Hc 2 fours join_fours) ≡ singles (0 ∷ 2 ∷ []) ∷ []
unfolding load.comes_before load.load_of
between-fours_by_cells = refl

pub given-fours_by_cells : map (λ moves. rows_given moves 1 1) (moved shuffle_kind.Hc 2 fours join_fours) ≡ singles (0 ∷ 2 ∷ 3 ∷ []) ∷ []
unfolding load.comes_before load.load_of
given-fours_by_cells = refl

pub parts-fours_by_keys : parts shuffle_kind.Rs 2 fours join_fours ≡ (singles (0 ∷ 3 ∷ []) ∷ singles (1 ∷ 2 ∷ []) ∷ []) ∷ []
parts-fours_by_keys = refl

pub traffic-fours_by_keys : traffic shuffle_kind.Rs 2 fours join_fours ≡ noted 1 (exchange.Rs 2) (4 ∷ 4 ∷ []) (2 ∷ 2 ∷ []) ∷ []
traffic-fours_by_keys = refl

-- the first of two items of one size stays; its rows are not moved
pub traffic-fours_by_broadcast : traffic shuffle_kind.Br 2 fours join_fours ≡ noted 1 exchange.Br (4 ∷ 4 ∷ []) (2 ∷ 2 ∷ []) ∷ []
traffic-fours_by_broadcast = refl

pub given-fours_by_broadcast : map (λ moves. rows_given moves 0 1 ∷ rows_given moves 1 1 ∷ []) (moved shuffle_kind.Br 2 fours join_fours)
    ≡ ([] ∷ singles (0 ∷ 2 ∷ 1 ∷ 3 ∷ []) ∷ []) ∷ []
given-fours_by_broadcast = refl

pub plan-fours_by_broadcast : planned shuffle_kind.Br 2 fours join_fours
    ≡ note.Statement 1 plan.From 4 ∷ note.Item 1 4 0 4 ∷ note.Item 2 4 0 4 ∷ note.Variable 1 ((1, 0) ∷ (2, 0) ∷ []) None ∷ note.Br local.Tj 1 ∷ []
plan-fours_by_broadcast = refl

-- ---- a variable with two columns of one item: [from R, S where R.x = S.z and R.y = S.z emit R.x, S.z]

abbrev both : List File
both = file (codes "R") two_ints (pairs ((1, 1) ∷ (1, 2) ∷ (2, 2) ∷ [])) ∷ file (codes "S") one_int (singles (1 ∷ 2 ∷ 2 ∷ [])) ∷ []

abbrev join_both : CheckedTree
join_both =
    alone two_ints
    (Join (joined ((kind.Int ∷ kind.Int ∷ []) ∷ (kind.Int ∷ []) ∷ []) (equal 0 2 ∷ equal 1 2 ∷ []) (At 0 ∷ At 2 ∷ [])) (first_file ∷ second_file ∷ []))

pub plan-both : planned shuffle_kind.Hc 2 both join_both
    ≡ note.Statement 1 plan.From 3 ∷ note.Item 1 3 1 2 ∷ note.Item 2 3 0 3
    ∷ note.Variable 1 ((1, 0) ∷ (1, 1) ∷ (2, 0) ∷ []) (Some 2) ∷ note.Hc local.Tj 2 5 2 ∷ []
unfolding load.comes_before load.load_of
plan-both = refl

pub traffic-both : traffic shuffle_kind.Hc 2 both join_both ≡ noted 1 exchange.Hc (2 ∷ 3 ∷ []) (1 ∷ 2 ∷ []) ∷ []
unfolding load.comes_before load.load_of
traffic-both = refl

-- the item with the most kept rows stays, though both have as many rows
pub plan-both_by_broadcast : planned shuffle_kind.Br 2 both join_both
    ≡ note.Statement 1 plan.From 3 ∷ note.Item 1 3 1 2 ∷ note.Item 2 3 0 3 ∷ note.Variable 1 ((1, 0) ∷ (1, 1) ∷ (2, 0) ∷ []) None ∷ note.Br local.Tj 2 ∷ []
plan-both_by_broadcast = refl

-- where the equality of R.x and R.y stands among the keeps as well, it counts as pushed a second time, with the same kept rows
abbrev pushed_shape : Shape
pushed_shape = record {
  atoms = record { kinds = kind.Int ∷ kind.Int ∷ []; keeps = equal 0 1 ∷ [] } ∷ record { kinds = kind.Int ∷ []; keeps = [] } ∷ [];
  variables = (0 ∷ 1 ∷ 2 ∷ []) ∷ [];
  plain = equal 0 2 ∷ equal 1 2 ∷ [];
  arith = [];
  emits = At 0 ∷ At 2 ∷ [];
}

pub pushed-twice : pushed_of pushed_shape 0 ≡ 2
pushed-twice = refl

pub kept-alike : length (kept_of pushed_shape 0 (pairs ((1, 1) ∷ (1, 2) ∷ (2, 2) ∷ []))) ≡ 2
kept-alike = refl

-- ---- which conjuncts are pushed: those that read columns of one item and no others

abbrev number : ℕ → Scalar
number n = Lit (value.Int (pos n))

abbrev fours_shape : List Scalar → Shape
fours_shape conjuncts = joined ((kind.Int ∷ []) ∷ (kind.Int ∷ []) ∷ []) conjuncts (At 0 ∷ [])

-- the join of `fours` by these conjuncts
abbrev fours_where : List Scalar → CheckedTree
fours_where conjuncts = alone one_int (Join (fours_shape conjuncts) (first_file ∷ second_file ∷ []))

-- .. where r.x = 1 and r.x = s.x
abbrev equal_to_1 : List Scalar
equal_to_1 = Bin op.Eq (At 0) (number 1) ∷ equal 0 1 ∷ []

pub pushed-equal_to_1 : map (pushed_of (fours_shape equal_to_1)) (0 ∷ 1 ∷ []) ≡ 1 ∷ 0 ∷ []
pushed-equal_to_1 = refl

pub plan-equal_to_1 : planned shuffle_kind.Hc 2 fours (fours_where equal_to_1)
    ≡ note.Statement 1 plan.From 1 ∷ note.Item 1 4 1 1 ∷ note.Item 2 4 0 4
    ∷ note.Variable 1 ((1, 0) ∷ (2, 0) ∷ []) (Some 2) ∷ note.Hc local.Tj 2 5 2 ∷ []
unfolding load.comes_before load.load_of
plan-equal_to_1 = refl

-- .. where R.x = R.y and R.x = S.z: the conjunct, and the variable's second column in R
pub pushed-two_columns : map (pushed_of (joined ((kind.Int ∷ kind.Int ∷ []) ∷ (kind.Int ∷ []) ∷ []) (equal 0 1 ∷ equal 0 2 ∷ []) (At 0 ∷ []))) (0 ∷ 1 ∷ []) ≡ 2 ∷ 0 ∷ []
pushed-two_columns = refl

-- .. where 1 = 2 and r.x = s.x: a conjunct without columns is pushed to no item, and rules out no row there
pub pushed-no_columns : map (pushed_of (fours_shape (Bin op.Eq (number 1) (number 2) ∷ equal 0 1 ∷ []))) (0 ∷ 1 ∷ []) ≡ 0 ∷ 0 ∷ []
pushed-no_columns = refl

-- ---- rows that aren't kept are not sent: .. where r.x > 0 and s.x < 3 and r.x = s.x, or s.x < 2

abbrev within : ℕ → List Scalar
within n = Bin op.Gt (At 0) (number 0) ∷ Bin op.Lt (At 1) (number n) ∷ equal 0 1 ∷ []

-- 1, 2 and 3 of R and 0, 1 and 2 of S go to the homes of their keys
pub traffic-kept_by_keys : traffic shuffle_kind.Rs 2 fours (fours_where (within 3)) ≡ noted 1 (exchange.Rs 2) (2 ∷ 4 ∷ []) (0 ∷ 2 ∷ []) ∷ []
traffic-kept_by_keys = refl

-- R stays, with three kept rows; 0 and 1 of S go to both workers
pub traffic-kept_by_broadcast : traffic shuffle_kind.Br 2 fours (fours_where (within 2)) ≡ noted 1 exchange.Br (2 ∷ 2 ∷ []) (0 ∷ 1 ∷ []) ∷ []
traffic-kept_by_broadcast = refl

-- ---- no variable: one cell, worker 0

abbrev apart : List File
apart = file (codes "R") one_int (singles (1 ∷ 2 ∷ 3 ∷ [])) ∷ file (codes "S") one_int (singles (10 ∷ 20 ∷ 30 ∷ 40 ∷ [])) ∷ []

abbrev join_apart : CheckedTree
join_apart = alone two_ints (Join (joined ((kind.Int ∷ []) ∷ (kind.Int ∷ []) ∷ []) [] (At 0 ∷ At 1 ∷ [])) (first_file ∷ second_file ∷ []))

pub traffic-apart : traffic shuffle_kind.Hc 8 apart join_apart
    ≡ noted 1 exchange.Hc (7 ∷ 0 ∷ 0 ∷ 0 ∷ 0 ∷ 0 ∷ 0 ∷ 0 ∷ []) (12 ∷ 0 ∷ 0 ∷ 0 ∷ 0 ∷ 0 ∷ 0 ∷ 0 ∷ []) ∷ []
traffic-apart = refl

pub plan-apart : planned shuffle_kind.Hc 8 apart join_apart
    ≡ note.Statement 1 plan.From 12 ∷ note.Item 1 3 0 3 ∷ note.Item 2 4 0 4 ∷ note.Hc local.Tj 1 7 1 ∷ []
unfolding load.comes_before load.load_of
plan-apart = refl

-- ---- no rows: A = scan(R); J = [from A as a, A as b where a.y = b.x emit a.x, b.y]

abbrev no_rows : List File
no_rows = file (codes "R") two_ints [] ∷ []

abbrev join_no_rows : CheckedTree
join_no_rows = record {
  steps = step 1 two_ints (Same first_file)
      ∷ step 2 two_ints (Join (joined ((kind.Int ∷ kind.Int ∷ []) ∷ (kind.Int ∷ kind.Int ∷ []) ∷ []) (equal 1 2 ∷ []) (At 0 ∷ At 3 ∷ [])) (source.Result 1 ∷ source.Result 1 ∷ []))
      ∷ [];
  stores = store 3 (codes "Out") (source.Result 2) ∷ [];
}

pub plan-no_rows : planned shuffle_kind.Hc 4 no_rows join_no_rows
    ≡ note.Statement 1 plan.Copy 0 ∷ note.Statement 2 plan.From 0 ∷ note.Item 1 0 0 0 ∷ note.Item 2 0 0 0
    ∷ note.Variable 1 ((1, 1) ∷ (2, 0) ∷ []) (Some 1) ∷ note.Hc local.Tj 1 0 1 ∷ []
unfolding load.comes_before load.load_of
plan-no_rows = refl

pub traffic-no_rows : traffic shuffle_kind.Hc 4 no_rows join_no_rows ≡ noted 2 exchange.Hc (0 ∷ 0 ∷ 0 ∷ 0 ∷ []) (0 ∷ 0 ∷ 0 ∷ 0 ∷ []) ∷ []
unfolding load.comes_before load.load_of
traffic-no_rows = refl

-- ---- a triangle: [from R, S, T where R.b = S.b and S.c = T.c and T.a = R.a emit R.a, R.b, S.c], each with the rows 0,0 to 2,2

abbrev diagonal : Rows
diagonal = pairs ((0, 0) ∷ (1, 1) ∷ (2, 2) ∷ [])

abbrev diagonals : List File
diagonals = file (codes "R") two_ints diagonal ∷ file (codes "S") two_ints diagonal ∷ file (codes "T") two_ints diagonal ∷ []

abbrev triangle : Shape
triangle =
    joined ((kind.Int ∷ kind.Int ∷ []) ∷ (kind.Int ∷ kind.Int ∷ []) ∷ (kind.Int ∷ kind.Int ∷ []) ∷ [])
    (equal 1 2 ∷ equal 3 4 ∷ equal 5 0 ∷ []) (At 0 ∷ At 1 ∷ At 3 ∷ [])

abbrev join_triangle : CheckedTree
join_triangle =
    alone (column (codes "a") kind.Int ∷ column (codes "b") kind.Int ∷ column (codes "c") kind.Int ∷ []) (Join triangle (first_file ∷ second_file ∷ third_file ∷ []))

pub checked-triangle : is_of diagonals join_triangle ≡ true
checked-triangle = refl

-- a row goes to two of eight cells, one for each coordinate of the variable that it lacks
pub destinations-triangle : map (λ j. destinations 0 (2 ∷ 2 ∷ 2 ∷ []) triangle j (numbers (1 ∷ 1 ∷ []))) (0 ∷ 1 ∷ 2 ∷ [])
    ≡ (0 ∷ 1 ∷ []) ∷ (1 ∷ 5 ∷ []) ∷ (1 ∷ 3 ∷ []) ∷ []
destinations-triangle = refl

-- these rows meet at the one cell that is among the destinations of each
pub meeting-triangle : meeting_cell 0 (2 ∷ 2 ∷ 2 ∷ []) triangle (numbers (1 ∷ 1 ∷ 1 ∷ 1 ∷ 1 ∷ 1 ∷ [])) ≡ 1
meeting-triangle = refl

pub plan-triangle_at_8 : planned shuffle_kind.Hc 8 diagonals join_triangle
    ≡ note.Statement 1 plan.From 3 ∷ note.Item 1 3 0 3 ∷ note.Item 2 3 0 3 ∷ note.Item 3 3 0 3
    ∷ note.Variable 1 ((1, 0) ∷ (3, 1) ∷ []) (Some 2) ∷ note.Variable 2 ((1, 1) ∷ (2, 0) ∷ []) (Some 2)
    ∷ note.Variable 3 ((2, 1) ∷ (3, 0) ∷ []) (Some 2) ∷ note.Hc local.Tj 8 18 8 ∷ []
unfolding load.comes_before load.load_of
plan-triangle_at_8 = refl

pub traffic-triangle_at_8 : traffic shuffle_kind.Hc 8 diagonals join_triangle
    ≡ noted 1 exchange.Hc (1 ∷ 4 ∷ 1 ∷ 1 ∷ 2 ∷ 4 ∷ 3 ∷ 2 ∷ []) (0 ∷ 1 ∷ 0 ∷ 0 ∷ 0 ∷ 1 ∷ 1 ∷ 0 ∷ []) ∷ []
unfolding load.comes_before load.load_of
traffic-triangle_at_8 = refl

-- shares that a plan names are taken as they are; nine cells, or a share too few, give way to broadcast
pub named-shares : ruled_shuffle (Fixed (ByCells (8 ∷ 1 ∷ 1 ∷ []))) 8 triangle [] ≡ ByCells (8 ∷ 1 ∷ 1 ∷ [])
named-shares = refl

pub named-nine_cells : ruled_shuffle (Fixed (ByCells (3 ∷ 3 ∷ 1 ∷ []))) 8 triangle [] ≡ Broadcast
named-nine_cells = refl

pub named-two_shares : ruled_shuffle (Fixed (ByCells (2 ∷ 2 ∷ []))) 8 triangle [] ≡ Broadcast
named-two_shares = refl

-- with seven workers six cells send less than seven would; the last worker gets nothing
pub plan-triangle_at_7 : planned shuffle_kind.Hc 7 diagonals join_triangle
    ≡ note.Statement 1 plan.From 3 ∷ note.Item 1 3 0 3 ∷ note.Item 2 3 0 3 ∷ note.Item 3 3 0 3
    ∷ note.Variable 1 ((1, 0) ∷ (3, 1) ∷ []) (Some 1) ∷ note.Variable 2 ((1, 1) ∷ (2, 0) ∷ []) (Some 2)
    ∷ note.Variable 3 ((2, 1) ∷ (3, 0) ∷ []) (Some 3) ∷ note.Hc local.Tj 6 18 6 ∷ []
unfolding load.comes_before load.load_of
plan-triangle_at_7 = refl

pub traffic-triangle_at_7 : traffic shuffle_kind.Hc 7 diagonals join_triangle
    ≡ noted 1 exchange.Hc (2 ∷ 6 ∷ 3 ∷ 1 ∷ 3 ∷ 3 ∷ 0 ∷ []) (0 ∷ 2 ∷ 0 ∷ 0 ∷ 0 ∷ 1 ∷ 0 ∷ []) ∷ []
unfolding load.comes_before load.load_of
traffic-triangle_at_7 = refl

pub parts-triangle_at_7 : parts shuffle_kind.Hc 7 diagonals join_triangle
    ≡ ([] ∷ map numbers ((1 ∷ 1 ∷ 1 ∷ []) ∷ (2 ∷ 2 ∷ 2 ∷ []) ∷ []) ∷ [] ∷ [] ∷ [] ∷ map numbers ((0 ∷ 0 ∷ 0 ∷ []) ∷ []) ∷ [] ∷ []) ∷ []
unfolding load.comes_before load.load_of
parts-triangle_at_7 = refl

-- ---- a chain, two at a time: [from R, S, T where R.y = S.x and S.y = T.x emit R.x, T.y]

abbrev chain_files : List File
chain_files =
    file (codes "R") two_ints (pairs ((0, 1) ∷ (1, 2) ∷ (2, 3) ∷ (5, 1) ∷ [])) ∷ file (codes "S") two_ints (pairs ((1, 0) ∷ (2, 2) ∷ (2, 3) ∷ (7, 7) ∷ []))
    ∷ file (codes "T") two_ints (pairs ((0, 4) ∷ (2, 5) ∷ (3, 6) ∷ (3, 7) ∷ [])) ∷ []

abbrev join_chain : CheckedTree
join_chain =
    alone two_ints
    (Join (joined ((kind.Int ∷ kind.Int ∷ []) ∷ (kind.Int ∷ kind.Int ∷ []) ∷ (kind.Int ∷ kind.Int ∷ []) ∷ []) (equal 1 2 ∷ equal 3 4 ∷ []) (At 0 ∷ At 5 ∷ []))
    (first_file ∷ second_file ∷ third_file ∷ []))

pub traffic-chain_by_keys : traffic shuffle_kind.Rs 2 chain_files join_chain
    ≡ noted 1 (exchange.Rs 2) (1 ∷ 7 ∷ []) (0 ∷ 4 ∷ []) ∷ noted 1 (exchange.Rs 3) (6 ∷ 2 ∷ []) (4 ∷ 1 ∷ []) ∷ []
traffic-chain_by_keys = refl

pub parts-chain_by_keys : parts shuffle_kind.Rs 2 chain_files join_chain
    ≡ (pairs ((0, 4) ∷ (1, 6) ∷ (1, 7) ∷ (5, 4) ∷ []) ∷ pairs ((1, 5) ∷ []) ∷ []) ∷ []
parts-chain_by_keys = refl

pub plan-chain_by_keys : planned shuffle_kind.Rs 2 chain_files join_chain
    ≡ note.Statement 1 plan.From 5 ∷ note.Item 1 4 0 4 ∷ note.Item 2 4 0 4 ∷ note.Item 3 4 0 4
    ∷ note.Variable 1 ((1, 1) ∷ (2, 0) ∷ []) None ∷ note.Variable 2 ((2, 1) ∷ (3, 0) ∷ []) None ∷ note.Rs local.Tj ∷ []
plan-chain_by_keys = refl

-- .. and R.x < 5 and T.y < 7: the last row of R, the prefix that it is in, and the last row of T are not sent
abbrev some_of_chain : CheckedTree
some_of_chain =
    alone two_ints
    (Join
    (joined ((kind.Int ∷ kind.Int ∷ []) ∷ (kind.Int ∷ kind.Int ∷ []) ∷ (kind.Int ∷ kind.Int ∷ []) ∷ [])
    (equal 1 2 ∷ equal 3 4 ∷ Bin op.Lt (At 0) (number 5) ∷ Bin op.Lt (At 5) (number 7) ∷ []) (At 0 ∷ At 5 ∷ []))
    (first_file ∷ second_file ∷ third_file ∷ []))

pub traffic-some_of_chain_by_keys : traffic shuffle_kind.Rs 2 chain_files some_of_chain
    ≡ noted 1 (exchange.Rs 2) (1 ∷ 6 ∷ []) (0 ∷ 3 ∷ []) ∷ noted 1 (exchange.Rs 3) (4 ∷ 2 ∷ []) (2 ∷ 1 ∷ []) ∷ []
traffic-some_of_chain_by_keys = refl

-- ---- groups, from partial rows: [from R emit x, count(*) as n]

abbrev grouped : List File
grouped = file (codes "R") one_int (singles (0 ∷ 1 ∷ 2 ∷ 3 ∷ 0 ∷ [])) ∷ []

abbrev group_them : CheckedTree
group_them = alone two_ints (Group (joined ((kind.Int ∷ []) ∷ []) [] (At 0 ∷ Lit (value.Bool true) ∷ [])) (first_file ∷ []) (None ∷ Some agg.CountAll ∷ []))

-- worker 0 has the keys 0 and 2, worker 1 the keys 1 and 3; 0 and 3 go to worker 0
pub traffic-grouped : traffic shuffle_kind.Hc 2 grouped group_them ≡ noted 1 exchange.Group (2 ∷ 2 ∷ []) (2 ∷ 2 ∷ []) ∷ []
traffic-grouped = refl

pub between-grouped : map (λ moves. map (λ w. rows_between moves 0 0 w) (0 ∷ 1 ∷ [])) (moved shuffle_kind.Hc 2 grouped group_them)
    ≡ (pairs ((0, 2) ∷ []) ∷ pairs ((2, 1) ∷ []) ∷ []) ∷ []
between-grouped = refl

pub plan-grouped : planned shuffle_kind.Hc 2 grouped group_them ≡ note.Statement 1 plan.From 4 ∷ note.Item 1 5 0 5 ∷ note.Group 1 1 ∷ []
plan-grouped = refl

-- sums that leave 64 bits at worker 0, and fit in two columns: [from Pay emit dept, sum(pay) as t]
abbrev text : List ℕ → Value
text s = value.Str s

abbrev pays : List File
pays =
    file (codes "Pay") (column (codes "dept") kind.Str ∷ column (codes "pay") kind.Int ∷ [])
    ((text (codes "a") ∷ value.Int (pos 9223372036854775807) ∷ []) ∷ (text (codes "a") ∷ value.Int (negsuc 9223372036854775806) ∷ [])
    ∷ (text (codes "a") ∷ value.Int (pos 9223372036854775807) ∷ []) ∷ []) ∷ []

abbrev sum_pays : CheckedTree
sum_pays =
    alone (column (codes "dept") kind.Str ∷ column (codes "t") kind.Int ∷ [])
    (Group (joined ((kind.Str ∷ kind.Int ∷ []) ∷ []) [] (At 0 ∷ At 1 ∷ [])) (first_file ∷ []) (None ∷ Some agg.Sum ∷ []))

pub given-pays : map (λ moves. rows_given moves 0 0) (moved shuffle_kind.Hc 2 pays sum_pays)
    ≡ ((text (codes "a") ∷ value.Int (pos 3) ∷ value.Int (pos 4611686018427387902) ∷ []) ∷ (text (codes "a") ∷ value.Int (negsuc 1) ∷ value.Int (pos 1) ∷ []) ∷ []) ∷ []
given-pays = refl

pub traffic-pays : traffic shuffle_kind.Hc 2 pays sum_pays ≡ noted 1 exchange.Group (2 ∷ 0 ∷ []) (1 ∷ 0 ∷ []) ∷ []
traffic-pays = refl

pub parts-pays : parts shuffle_kind.Hc 2 pays sum_pays ≡ (((text (codes "a") ∷ value.Int (pos 9223372036854775807) ∷ []) ∷ []) ∷ [] ∷ []) ∷ []
parts-pays = refl

-- without a key all partial rows go to worker 0: [from A emit count(*) as n]
abbrev count_all : CheckedTree
count_all = alone one_int (Group (joined ((kind.Int ∷ []) ∷ []) [] (Lit (value.Bool true) ∷ [])) (first_file ∷ []) (Some agg.CountAll ∷ []))

pub traffic-count_all : traffic shuffle_kind.Hc 3 grouped count_all ≡ noted 1 exchange.Group (3 ∷ 0 ∷ 0 ∷ []) (1 ∷ 0 ∷ 0 ∷ []) ∷ []
traffic-count_all = refl

-- ---- a script of several statements: D = diff(A, B); E = empty(x:int); F = distinct(E); G = distinct(A); U = unionall(A, A)

abbrev bags : List File
bags = file (codes "A") one_int (singles (1 ∷ 1 ∷ 2 ∷ 3 ∷ 3 ∷ [])) ∷ file (codes "B") one_int (singles (3 ∷ 4 ∷ 4 ∷ [])) ∷ []

abbrev operators : CheckedTree
operators = record {
  steps = step 1 one_int (Diff first_file second_file) ∷ step 2 one_int Empty ∷ step 3 one_int (Distinct (source.Result 2))
      ∷ step 4 one_int (Distinct first_file) ∷ step 5 one_int (UnionAll first_file first_file) ∷ [];
  stores = store 6 (codes "D") (source.Result 1) ∷ store 7 (codes "F") (source.Result 3) ∷ store 8 (codes "G") (source.Result 4)
      ∷ store 9 (codes "U") (source.Result 5) ∷ [];
}

pub parts-operators : parts shuffle_kind.Hc 2 bags operators
    ≡ ([] ∷ singles (1 ∷ 2 ∷ []) ∷ []) ∷ ([] ∷ [] ∷ []) ∷ (singles (3 ∷ []) ∷ singles (1 ∷ 2 ∷ []) ∷ [])
    ∷ (singles (1 ∷ 2 ∷ 3 ∷ 1 ∷ 2 ∷ 3 ∷ []) ∷ singles (1 ∷ 3 ∷ 1 ∷ 3 ∷ []) ∷ []) ∷ []
parts-operators = refl

pub traffic-operators : traffic shuffle_kind.Hc 2 bags operators
    ≡ noted 1 exchange.Diff (3 ∷ 5 ∷ []) (0 ∷ 2 ∷ []) ∷ noted 3 exchange.Distinct (0 ∷ 0 ∷ []) (0 ∷ 0 ∷ []) ∷ noted 4 exchange.Distinct (2 ∷ 3 ∷ []) (1 ∷ 2 ∷ []) ∷ []
traffic-operators = refl

pub plan-operators : planned shuffle_kind.Hc 2 bags operators
    ≡ note.Statement 1 plan.Diff 2 ∷ note.Statement 2 plan.Empty 0 ∷ note.Statement 3 plan.Distinct 0 ∷ note.Statement 4 plan.Distinct 3
    ∷ note.Statement 5 plan.UnionAll 10 ∷ []
plan-operators = refl

-- ---- a stored key that is scanned again, and a statement that isn't needed

-- A = scan(R); store(A, K); B = scan(K); J = [from B as p, A as q where p.y = q.x emit p.x, q.y]; N = distinct(B); store(J, L)
abbrev edges : List File
edges = file (codes "R") two_ints (pairs ((1, 2) ∷ (2, 3) ∷ (2, 3) ∷ (3, 1) ∷ [])) ∷ []

abbrev two_steps : Shape
two_steps = joined ((kind.Int ∷ kind.Int ∷ []) ∷ (kind.Int ∷ kind.Int ∷ []) ∷ []) (equal 1 2 ∷ []) (At 0 ∷ At 3 ∷ [])

abbrev scanned_again : CheckedTree
scanned_again = record {
  steps = step 1 two_ints (Same first_file) ∷ step 3 two_ints (Same (source.Result 1))
      ∷ step 4 two_ints (Join two_steps (source.Result 3 ∷ source.Result 1 ∷ [])) ∷ step 5 two_ints (Distinct (source.Result 3)) ∷ [];
  stores = store 2 (codes "K") (source.Result 1) ∷ store 6 (codes "L") (source.Result 4) ∷ [];
}

pub checked-scanned_again : is_of edges scanned_again ≡ true
checked-scanned_again = refl

-- the rows of the scanned key lie where they were stored
pub parts-scanned_again : parts shuffle_kind.Hc 2 edges scanned_again
    ≡ (pairs ((1, 2) ∷ (2, 3) ∷ []) ∷ pairs ((2, 3) ∷ (3, 1) ∷ []) ∷ []) ∷ (pairs ((3, 2) ∷ []) ∷ pairs ((1, 3) ∷ (1, 3) ∷ (2, 1) ∷ (2, 1) ∷ []) ∷ []) ∷ []
unfolding load.comes_before load.load_of
parts-scanned_again = refl

pub traffic-scanned_again : traffic shuffle_kind.Hc 2 edges scanned_again ≡ noted 4 exchange.Hc (2 ∷ 6 ∷ []) (1 ∷ 4 ∷ []) ∷ []
unfolding load.comes_before load.load_of
traffic-scanned_again = refl

pub plan-scanned_again : planned shuffle_kind.Br 2 edges scanned_again
    ≡ note.Statement 1 plan.Copy 4 ∷ note.Statement 3 plan.Copy 4 ∷ note.Statement 4 plan.From 5
    ∷ note.Item 1 4 0 4 ∷ note.Item 2 4 0 4 ∷ note.Variable 1 ((1, 1) ∷ (2, 0) ∷ []) None ∷ note.Br local.Tj 1 ∷ []
plan-scanned_again = refl

-- ---- a shuffle of its own for each statement: J = the join of `fours`, K = J joined with R, once by cells and once by broadcast

abbrev joined_twice : CheckedTree
joined_twice = record {
  steps = step 1 one_int (Join (joined ((kind.Int ∷ []) ∷ (kind.Int ∷ []) ∷ []) (equal 0 1 ∷ []) (At 0 ∷ [])) (first_file ∷ second_file ∷ []))
      ∷ step 2 one_int (Join (joined ((kind.Int ∷ []) ∷ (kind.Int ∷ []) ∷ []) (equal 0 1 ∷ []) (At 0 ∷ [])) (source.Result 1 ∷ first_file ∷ [])) ∷ [];
  stores = store 3 (codes "Out") (source.Result 2) ∷ [];
}

abbrev by_statement : Placing
by_statement = record {
  workers = 2;
  seed = 0;
  reduce = false;
  shuffle = λ number shape given. cond (number == 1) (ByCells (2 ∷ [])) Broadcast;
}

pub traffic-by_statement : traffic_of by_statement fours joined_twice
    ≡ noted 1 exchange.Hc (2 ∷ 6 ∷ []) (1 ∷ 3 ∷ []) ∷ noted 2 exchange.Br (4 ∷ 4 ∷ []) (1 ∷ 3 ∷ []) ∷ []
traffic-by_statement = refl

-- ---- an arithmetic test cuts what is listed, and not what is sent: .. where r.x = s.x and r.x + s.x > 2

abbrev join_large : CheckedTree
join_large =
    alone one_int
    (Join (joined ((kind.Int ∷ []) ∷ (kind.Int ∷ []) ∷ []) (equal 0 1 ∷ Bin op.Gt (Bin op.Add (At 0) (At 1)) (Lit (value.Int (pos 2))) ∷ []) (At 0 ∷ []))
    (first_file ∷ second_file ∷ []))

pub traffic-large_by_keys : traffic shuffle_kind.Rs 2 fours join_large ≡ noted 1 (exchange.Rs 2) (4 ∷ 4 ∷ []) (1 ∷ 1 ∷ []) ∷ []
traffic-large_by_keys = refl

pub parts-large_by_keys : parts shuffle_kind.Rs 2 fours join_large ≡ (singles (3 ∷ []) ∷ singles (2 ∷ []) ∷ []) ∷ []
parts-large_by_keys = refl

-- ---- a join and then groups: [from D as d, E as e where d.k = e.k emit d.d, sum(d.k * e.v) as s, max(e.v) as m]

abbrev named : List File
named =
    file (codes "D") (column (codes "d") kind.Str ∷ column (codes "k") kind.Int ∷ [])
    ((text (codes "a") ∷ numbers (1 ∷ [])) ∷ (text (codes "b") ∷ numbers (2 ∷ [])) ∷ (text (codes "a") ∷ numbers (2 ∷ [])) ∷ [])
    ∷ file (codes "E") two_ints (pairs ((1, 10) ∷ (2, 20) ∷ (1, 30) ∷ (2, 40) ∷ (3, 50) ∷ [])) ∷ []

abbrev join_and_group : CheckedTree
join_and_group =
    alone (column (codes "d") kind.Str ∷ column (codes "s") kind.Int ∷ column (codes "m") kind.Int ∷ [])
    (Group (joined ((kind.Str ∷ kind.Int ∷ []) ∷ (kind.Int ∷ kind.Int ∷ []) ∷ []) (equal 1 2 ∷ []) (At 0 ∷ Bin op.Mul (At 1) (At 3) ∷ At 3 ∷ []))
    (first_file ∷ second_file ∷ []) (None ∷ Some agg.Sum ∷ Some agg.Max ∷ []))

pub traffic-join_and_group : traffic shuffle_kind.Hc 2 named join_and_group
    ≡ noted 1 exchange.Hc (3 ∷ 5 ∷ []) (2 ∷ 4 ∷ []) ∷ noted 1 exchange.Group (2 ∷ 1 ∷ []) (1 ∷ 1 ∷ []) ∷ []
unfolding load.comes_before load.load_of
traffic-join_and_group = refl

-- one key and two aggregates
pub plan-join_and_group : planned shuffle_kind.Hc 2 named join_and_group
    ≡ note.Statement 1 plan.From 2 ∷ note.Item 1 3 0 3 ∷ note.Item 2 5 0 5
    ∷ note.Variable 1 ((1, 1) ∷ (2, 0) ∷ []) (Some 2) ∷ note.Hc local.Tj 2 8 2 ∷ note.Group 1 2 ∷ []
unfolding load.comes_before load.load_of
plan-join_and_group = refl

-- ---- reduced rows are joined: R = 0, 1, 2, 3 and S = 2, 3, of which the rows above 1 are in an answer

abbrev some_match : List File
some_match = file (codes "R") one_int (singles (0 ∷ 1 ∷ 2 ∷ 3 ∷ [])) ∷ file (codes "S") one_int (singles (2 ∷ 3 ∷ [])) ∷ []

abbrev reducing : ShuffleKind → ℕ → Placing
reducing kind n = record { workers = n; seed = 0; reduce = true; shuffle = λ number. ruled_shuffle (usual_rule kind) n }

pub traffic-reduced : traffic_of (reducing shuffle_kind.Hc 2) some_match join_fours ≡ noted 1 exchange.Hc (0 ∷ 4 ∷ []) (0 ∷ 2 ∷ []) ∷ []
unfolding load.comes_before load.load_of
traffic-reduced = refl

pub traffic-not_reduced : traffic shuffle_kind.Hc 2 some_match join_fours ≡ noted 1 exchange.Hc (1 ∷ 5 ∷ []) (0 ∷ 2 ∷ []) ∷ []
unfolding load.comes_before load.load_of
traffic-not_reduced = refl

-- the lines of items tell all rows and all kept rows, and the load those that are joined
pub plan-reduced : plan_of (reducing shuffle_kind.Hc 2) local.Tj some_match join_fours
    ≡ note.Statement 1 plan.From 2 ∷ note.Item 1 4 0 4 ∷ note.Item 2 2 0 2 ∷ note.Reduced (2 ∷ 2 ∷ [])
    ∷ note.Variable 1 ((1, 0) ∷ (2, 0) ∷ []) (Some 2) ∷ note.Hc local.Tj 2 4 2 ∷ []
unfolding load.comes_before load.load_of
plan-reduced = refl

-- a triangle is cyclic, so that all of its rows are joined
pub plan-reduced_triangle : plan_of (reducing shuffle_kind.Rs 2) local.Tj diagonals join_triangle
    ≡ note.Statement 1 plan.From 3 ∷ note.Item 1 3 0 3 ∷ note.Item 2 3 0 3 ∷ note.Item 3 3 0 3 ∷ note.ReduceCyclic
    ∷ note.Variable 1 ((1, 0) ∷ (3, 1) ∷ []) None ∷ note.Variable 2 ((1, 1) ∷ (2, 0) ∷ []) None
    ∷ note.Variable 3 ((2, 1) ∷ (3, 0) ∷ []) None ∷ note.Rs local.Tj ∷ []
plan-reduced_triangle = refl
