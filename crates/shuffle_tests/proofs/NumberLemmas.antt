-- Numbers at workers are such as a shuffle asks.
use Rattle.std.proofs.Common.{◌≡◌, ◌∙◌, ℕ, zero, suc, ◌<◌, true, cond, List, [], ◌∷◌, length, get_or, All, refl, sym, ap, subst, arith}
use Rattle.std.specs.Ordering.{is_eq}
use Rattle.rel_base.specs.Values.{value_order}
use Rattle.myrial_ast.specs.Scalars.{Scalar, value_at}
use Rattle.myrial_ast.specs.Combinations.{Row, Rows}
use Rattle.myrial_ast.specs.KeptRows.{put_at}
use Rattle.algebra.specs.Trees.{Shape}
use Rattle.algebra.specs.ShapeConditions.{HasKinds}
use Rattle.algebra.specs.Joins.{IsPart, agrees_in}
use Rattle.algebra.proofs.ShapeLemmas.{tie-holds}
use Rattle.row_exchange.specs.Routes.{rows_at}
use Rattle.algebra.specs.Shapes.{kept_of}
use Rattle.placement.specs.Layouts.{rows_of, together}
use Rattle.placement.specs.Plans.{kept_sizes}
use Rattle.kept_rows.specs.KeptTests.{is_kept}
use Rattle.routed_joins.specs.PlacedJoins.{placed_items}
use Rattle.join_plans.specs.JoinPlans.{staying_of, IsStaying}
use Rattle.placement.specs.declared.choices.ShuffleChoice.{ShuffleChoice}
use Rattle.placement.specs.declared.choices.ShuffleChoice.TheVariants as choice
use Rattle.join_plans.proofs.ChoiceLemmas.{staying-same}
use Rattle.join_runs.specs.JoinRuns.{IsStayingAtom}
use Rattle.routed_joins.specs.RouteJoins.{ArePartsAtWorkers}
use Rattle.shuffle_tests.specs.inner.Numbers.{number_kinds, number_atom, JoinsNumbers, AreNumbers}

abbrev of_numbers : List Scalar → List Scalar → List Scalar → Shape
of_numbers plain arith emits = record { atoms = number_atom ∷ number_atom ∷ []; variables = (0 ∷ 1 ∷ []) ∷ []; plain = plain; arith = arith; emits = emits }

itself : (row : Row) (c : ℕ) → is_eq (value_order (value_at row c) (value_at row c)) ≡ true
itself row c = tie-holds row c c refl

agrees-first : (plain arith emits : List Scalar) (row : Row) → agrees_in (of_numbers plain arith emits) 0 row ≡ true
agrees-first plain arith emits row = let a = itself row 0 in rw a refl

agrees-second : (plain arith emits : List Scalar) (row : Row) → agrees_in (of_numbers plain arith emits) 1 row ≡ true
agrees-second plain arith emits row = let a = itself (put_at 1 row) 1 in rw a refl

pub numbers-ready : (shape : Shape) (n : ℕ) (parts : List (List Rows)) → JoinsNumbers shape → length parts ≡ 2 → All (AreNumbers n) parts → ArePartsAtWorkers shape n parts
numbers-ready shape n parts is two all =
    subst (λ s. ArePartsAtWorkers s n parts)
    (λ i. record { atoms = sym is.atoms i; variables = sym is.variables i; plain = shape.plain; arith = shape.arith; emits = shape.emits })
    (record { one_each = two; each_worker = λ k d below. (all k d below).0; each = each })
  where
    typed : (j u : ℕ) → j < length parts → u < n → HasKinds number_kinds (rows_at parts j u)
    typed j u one here = let numbers = all j [] one in numbers.1 u [] (omega (arith, here, numbers.0))

    part : (j u : ℕ) → j < 2 → HasKinds number_kinds (rows_at parts j u) → IsPart (of_numbers shape.plain shape.arith shape.emits) j (rows_at parts j u)
    part zero u one kinds = record { typed = kinds; kept = λ k d l. refl; agreeing = λ k d l. agrees-first shape.plain shape.arith shape.emits (get_or (rows_at parts 0 u) k d) }
    part (suc zero) u one kinds = record { typed = kinds; kept = λ k d l. refl; agreeing = λ k d l. agrees-second shape.plain shape.arith shape.emits (get_or (rows_at parts 1 u) k d) }
    part (suc (suc j)) u one kinds = absurd (omega arith)

    each : (j u : ℕ) → j < length parts → u < n → IsPart (of_numbers shape.plain shape.arith shape.emits) j (rows_at parts j u)
    each j u one here = part j u (omega (arith, one, two)) (typed j u one here)

-- ---- which of them stay in a broadcast

-- all numbers are kept
first-passes : (computed emits : List Scalar) (row : Row) → is_kept (of_numbers [] computed emits) 0 row ≡ true
first-passes computed emits row = let a = itself (put_at 0 row) 0 in rw a refl

second-passes : (computed emits : List Scalar) (row : Row) → is_kept (of_numbers [] computed emits) 1 row ≡ true
second-passes computed emits row = let a = itself (put_at 1 row) 1 in rw a refl

all-kept : (shape : Shape) (atom : ℕ) → ((row : Row) → is_kept shape atom row ≡ true) → (rows : Rows) → kept_of shape atom rows ≡ rows
all-kept shape atom passes [] = refl
all-kept shape atom passes (row ∷ rows) =
    ap (λ b. cond b (row ∷ kept_of shape atom rows) (kept_of shape atom rows)) (passes row) ∙ ap (λ (rest : Rows). row ∷ rest) (all-kept shape atom passes rows)

pub numbers-counted : (shape : Shape) (parts : List (List Rows)) → JoinsNumbers shape → length parts ≡ 2
    → kept_sizes shape (rows_of (placed_items parts)) ≡ length (together (get_or parts 0 [])) ∷ length (together (get_or parts 1 [])) ∷ []
numbers-counted shape [] is two = absurd (omega (arith, two))
numbers-counted shape (p ∷ []) is two = absurd (omega (arith, two))
numbers-counted shape (p ∷ q ∷ r ∷ parts) is two = absurd (omega (arith, two))
numbers-counted shape (p ∷ q ∷ []) is two =
    subst (λ s. kept_sizes s (rows_of (placed_items (p ∷ q ∷ []))) ≡ length (together p) ∷ length (together q) ∷ [])
    (λ i. record { atoms = sym is.atoms i; variables = sym is.variables i; plain = sym is.plain i; arith = shape.arith; emits = shape.emits })
    (λ i. length (first i) ∷ length (second i) ∷ [])
  where
    numbers : Shape
    numbers = of_numbers [] shape.arith shape.emits

    first : kept_of numbers 0 (together p) ≡ together p
    first = all-kept numbers 0 (first-passes shape.arith shape.emits) (together p)

    second : kept_of numbers 1 (together q) ≡ together q
    second = all-kept numbers 1 (second-passes shape.arith shape.emits) (together q)

pub numbers-stay : (shape : Shape) (parts : List (List Rows)) (counts : List ℕ) (choice : ShuffleChoice) → JoinsNumbers shape → length parts ≡ 2
    → counts ≡ length (together (get_or parts 0 [])) ∷ length (together (get_or parts 1 [])) ∷ [] → IsStaying counts choice → IsStayingAtom shape parts choice
numbers-stay shape parts counts (choice.Cells shares) is two counted h = tt
numbers-stay shape parts counts choice.Keys is two counted h = tt
numbers-stay shape parts counts (choice.Broadcast stays) is two counted h =
    h ∙ ap staying_of (counted ∙ sym (numbers-counted shape parts is two)) ∙ staying-same shape (rows_of (placed_items parts))
