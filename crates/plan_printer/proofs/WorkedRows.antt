-- Worked plans and traffic: their texts, proved by computing.
use Rattle.std.proofs.Common.{◌≡◌, [], ◌∷◌, Some, None, codes, refl}
use Rattle.std.specs.Fmt.{digits}
use Rattle.algebra.specs.declared.notes.PlanKind.TheVariants as plan
use Rattle.algebra.specs.declared.notes.PlanNote.TheVariants as note
use Rattle.algebra.specs.declared.notes.Exchange.TheVariants as exchange
use Rattle.algebra.specs.declared.settings.JoinKind.TheVariants as join
use Rattle.plan_printer.specs.PlanTexts.{plan_text}
use Rattle.plan_printer.specs.TrafficTexts.{traffic_text}

-- a join by cells of an item with two columns of one variable and an item with one
pub by_cells : plan_text (note.Statement 1 plan.From 3 ∷ note.Item 1 3 1 2 ∷ note.Item 2 3 0 3
    ∷ note.Variable 1 ((1, 0) ∷ (1, 1) ∷ (2, 0) ∷ []) (Some 2) ∷ note.Hc join.Tj 2 5 2 ∷ [])
    ≡ codes "-- plan 1 from rows 3\n-- item 1 rows 3 pushed 1 kept 2\n-- item 2 rows 3 pushed 0 kept 3\n-- variable 1 1.$0 1.$1 2.$0 share 2\n-- shuffle hc join tj cells 2 load 5/2\n"
unfolding digits
by_cells = refl

-- a copy of no rows, and a join of two items of no rows, whose load is 0
pub without_rows : plan_text (note.Statement 1 plan.Copy 0 ∷ note.Statement 2 plan.From 0 ∷ note.Item 1 0 0 0 ∷ note.Item 2 0 0 0
    ∷ note.Variable 1 ((1, 1) ∷ (2, 0) ∷ []) (Some 1) ∷ note.Hc join.Tj 1 0 1 ∷ [])
    ≡ codes "-- plan 1 copy rows 0\n-- plan 2 from rows 0\n-- item 1 rows 0 pushed 0 kept 0\n-- item 2 rows 0 pushed 0 kept 0\n-- variable 1 1.$1 2.$0 share 1\n-- shuffle hc join tj cells 1 load 0/1\n"
unfolding digits
without_rows = refl

-- the other lines
pub other_lines : plan_text (note.Statement 10 plan.UnionAll 44 ∷ note.Statement 11 plan.Diff 2 ∷ note.Statement 12 plan.Distinct 7 ∷ note.Statement 13 plan.Empty 0
    ∷ note.Variable 2 ((1, 0) ∷ (3, 1) ∷ []) None ∷ note.Rs join.Hj ∷ note.Br join.Tj 2 ∷ note.Group 1 2 ∷ [])
    ≡ codes "-- plan 10 unionall rows 44\n-- plan 11 diff rows 2\n-- plan 12 distinct rows 7\n-- plan 13 empty rows 0\n-- variable 2 1.$0 3.$1\n-- shuffle rs join hj\n-- shuffle br join tj stays 2\n-- group keys 1 aggregates 2\n"
unfolding digits
other_lines = refl

-- the rows that are joined: of each item its number, also where none is left, and the line where the items go round in a ring
pub reduced_rows : plan_text (note.Item 1 2 0 2 ∷ note.Item 2 3 0 3 ∷ note.Item 3 2 0 2 ∷ note.Reduced (1 ∷ 1 ∷ 1 ∷ []) ∷ [])
    ≡ codes "-- item 1 rows 2 pushed 0 kept 2\n-- item 2 rows 3 pushed 0 kept 3\n-- item 3 rows 2 pushed 0 kept 2\n-- reduce 1 1 1\n"
unfolding digits
reduced_rows = refl

pub no_row_or_many : plan_text (note.Reduced (0 ∷ 0 ∷ []) ∷ note.Reduced (18446744073709551615 ∷ 120 ∷ []) ∷ note.ReduceCyclic ∷ [])
    ≡ codes "-- reduce 0 0\n-- reduce 18446744073709551615 120\n-- reduce cyclic\n"
unfolding digits
no_row_or_many = refl

-- a step of a join two at a time, and a grouping
pub step_and_group : traffic_text (record { statement = 1; exchange = exchange.Rs 2; received = 4 ∷ 4 ∷ []; listed = 2 ∷ 2 ∷ [] }
    ∷ record { statement = 1; exchange = exchange.Group; received = 3 ∷ 2 ∷ []; listed = 2 ∷ 2 ∷ [] } ∷ [])
    ≡ codes "-- traffic 1 join rs step 2\n-- worker 0 received 4 listed 2\n-- worker 1 received 4 listed 2\n-- traffic 1 group\n-- worker 0 received 3 listed 2\n-- worker 1 received 2 listed 2\n"
unfolding digits
step_and_group = refl

-- a join by cells at two workers
pub cells : traffic_text (record { statement = 1; exchange = exchange.Hc; received = 2 ∷ 3 ∷ []; listed = 1 ∷ 2 ∷ [] } ∷ [])
    ≡ codes "-- traffic 1 join hc\n-- worker 0 received 2 listed 1\n-- worker 1 received 3 listed 2\n"
unfolding digits
cells = refl
