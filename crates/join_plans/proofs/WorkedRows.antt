-- Worked cases of plans.
use Rattle.std.proofs.Common.{◌≡◌, ℕ, false, true, List, [], ◌∷◌, map, None, refl}
use Rattle.std.specs.Prelude.{pos}
use Rattle.rel_base.specs.declared.values.ColType.TheVariants as kind
use Rattle.rel_base.specs.declared.values.Value.TheVariants as value
use Rattle.algebra.specs.declared.notes.PlanNote.TheVariants as note
use Rattle.algebra.specs.declared.settings.JoinKind.TheVariants as local
use Rattle.algebra.specs.Trees.{AtomTree, Shape}
use Rattle.placement.specs.Layouts.{PlacedRelation}
use Rattle.placement.specs.declared.choices.ShuffleChoice.TheVariants as choice
use Rattle.join_plans.specs.declared.sizes.Reduction.TheVariants as reduction
use Rattle.join_plans.specs.JoinPlans.{IsStaying, reduction_of, joined_sizes}
use Rattle.join_plans.specs.inner.Counts.{place_in, bits_in}
use Rattle.join_plans.specs.inner.Lines.{join_lines}

-- of an item of one joined row and one of two the second stays
pub larger-item-stays : IsStaying (1 ∷ 2 ∷ []) (choice.Broadcast 1)
larger-item-stays = refl

-- at a tie the first
pub first-item-stays : IsStaying (2 ∷ 2 ∷ []) (choice.Broadcast 0)
first-item-stays = refl

-- behind an item of two columns, column 2 is the first of the second item
pub second-item : place_in (2 ∷ 1 ∷ []) 2 ≡ (1, 0)
second-item = refl

-- of two variables the second has a column among the first two
pub second-variable : bits_in (record { from = 0; to = 2 }) ((2 ∷ 3 ∷ []) ∷ (1 ∷ 4 ∷ []) ∷ []) ≡ 2
second-variable = refl

-- ---- joined rows

abbrev atom : AtomTree
atom = record { kinds = kind.Int ∷ []; keeps = [] }

abbrev edge : AtomTree
edge = record { kinds = kind.Int ∷ kind.Int ∷ []; keeps = [] }

abbrev joining : List AtomTree → List (List ℕ) → Shape
joining atoms variables = record { atoms = atoms; variables = variables; plain = []; arith = []; emits = [] }

-- [from R as r, S as s where r.x = s.x emit ..]
abbrev equal_items : Shape
equal_items = joining (atom ∷ atom ∷ []) ((0 ∷ 1 ∷ []) ∷ [])

abbrev triangle : Shape
triangle = joining (edge ∷ edge ∷ edge ∷ []) ((0 ∷ 5 ∷ []) ∷ (1 ∷ 2 ∷ []) ∷ (3 ∷ 4 ∷ []) ∷ [])

abbrev numbers : List ℕ → PlacedRelation
numbers all = record { relation = record { schema = []; rows = map (λ n. value.Int (pos n) ∷ []) all }; parts = [] }

-- R = 1, 2, 3 and S = 2, 2
abbrev given : List PlacedRelation
given = numbers (1 ∷ 2 ∷ 3 ∷ []) ∷ numbers (2 ∷ 2 ∷ []) ∷ []

-- two items aren't cyclic, and a triangle is
pub items-reduced : reduction_of true equal_items ≡ reduction.Reduced
items-reduced = refl

pub triangle-cyclic : reduction_of true triangle ≡ reduction.Cyclic
triangle-cyclic = refl

-- one row of R and both of S are in an answer
pub one-joined : joined_sizes reduction.Reduced equal_items given ≡ 1 ∷ 2 ∷ []
one-joined = refl

-- without a reduction all are joined
pub all-joined : joined_sizes (reduction_of false equal_items) equal_items given ≡ 3 ∷ 2 ∷ []
all-joined = refl

-- all rows are kept, and of the joined ones those of the second item are the most
pub lines-reduced : join_lines (choice.Broadcast 1) local.Tj equal_items reduction.Reduced (3 ∷ 2 ∷ []) (3 ∷ 2 ∷ []) (1 ∷ 2 ∷ [])
    ≡ note.Item 1 3 0 3 ∷ note.Item 2 2 0 2 ∷ note.Reduced (1 ∷ 2 ∷ []) ∷ note.Variable 1 ((1, 0) ∷ (2, 0) ∷ []) None
    ∷ note.Br local.Tj 2 ∷ []
lines-reduced = refl

-- an item alone has its own line, and no more
pub lines-alone : join_lines (choice.Broadcast 0) local.Tj (joining (atom ∷ []) []) reduction.Reduced (3 ∷ []) (3 ∷ []) (3 ∷ [])
    ≡ note.Item 1 3 0 3 ∷ []
lines-alone = refl
