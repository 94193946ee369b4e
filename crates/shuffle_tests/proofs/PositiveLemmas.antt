-- Numbers above 0 are kept.
use Rattle.std.proofs.Common.{◌≡◌, ◌∙◌, ℕ, zero, suc, ◌<◌, Bool, true, false, List, [], ◌∷◌, length, map, get_or, All, refl, sym, ap, subst, arith}
use Rattle.std.specs.Prelude.{◌&&◌}
use Rattle.std.specs.Ordering.{is_eq}
use Rattle.std.proofs.lemmas.List.{length-map}
use Rattle.std.proofs.lemmas.List.Elements.{filter_agree, All-nil, All-cons}
use Rattle.rel_base.specs.Values.{value_order}
use Rattle.myrial_ast.specs.Scalars.{Scalar, value_at, holds}
use Rattle.myrial_ast.specs.Combinations.{Row, Rows, all_hold}
use Rattle.algebra.specs.Trees.{Shape}
use Rattle.algebra.specs.Shapes.{kept_of, kept_spreads}
use Rattle.algebra.specs.ShapeConditions.{HasKinds}
use Rattle.algebra.specs.Rewriting.{KeepsAreKept}
use Rattle.algebra.proofs.ShapeLemmas.{tie-holds}
use Rattle.kept_rows.specs.KeptTests.{is_kept}
use Rattle.kept_rows.specs.KeptSpreads.{AreTypedParts}
use Rattle.routed_joins.specs.RouteJoins.{ArePartsAtWorkers}
use Rattle.routed_joins.proofs.KeptLemmas.{kept-parts}
use Rattle.shuffle_tests.specs.inner.Numbers.{is_positive, positive_atom, ListsPositive, AreNumbers}

abbrev of_positives : List Scalar → List Scalar → Shape
of_positives arith emits = record { atoms = positive_atom ∷ []; variables = []; plain = []; arith = arith; emits = emits }

kept-row : (arith emits : List Scalar) (row : Row) → all_hold (is_positive ∷ []) row ≡ is_kept (of_positives arith emits) 0 row
kept-row arith emits row = by (holds is_positive row) (is_eq (value_order (value_at row 0) (value_at row 0))) (tie-holds row 0 0 refl)
  where
    by : (b t : Bool) → t ≡ true → (b && true) ≡ ((b && true) && ((t && true) && true))
    by true t h = sym (ap (λ t. (t && true) && true) h)
    by false t h = refl

of-shape : (shape : Shape) → ListsPositive shape → (P : Shape → Type 0) → P (of_positives shape.arith shape.emits) → P shape
of-shape shape is P p = subst P (λ i. record { atoms = sym is.atoms i; variables = sym is.variables i; plain = sym is.plain i; arith = shape.arith; emits = shape.emits }) p

pub positives-kept : (shape : Shape) → ListsPositive shape → KeepsAreKept shape
positives-kept shape is = of-shape shape is KeepsAreKept by
  where
    by : KeepsAreKept (of_positives shape.arith shape.emits)
    by zero rows below kinds = filter_agree (all_hold (is_positive ∷ [])) (is_kept (of_positives shape.arith shape.emits) 0) (kept-row shape.arith shape.emits) rows
    by (suc j) rows below kinds = absurd (omega (arith, below))

pub positives-typed : (shape : Shape) (n : ℕ) (parts : List (List Rows)) (spread : List Rows) → ListsPositive shape → parts ≡ spread ∷ [] → AreNumbers n spread → AreTypedParts shape parts
positives-typed shape n parts spread is only numbers =
    subst (AreTypedParts shape) (sym only) (of-shape shape is (λ s. AreTypedParts s (spread ∷ [])) (record {
      one_each = refl;
      typed = by;
    }))
  where
    by : (j : ℕ) → j < 1 → All (HasKinds (get_or (positive_atom ∷ []) j (record { kinds = []; keeps = [] })).kinds) (get_or (spread ∷ []) j [])
    by zero below = numbers.1
    by (suc j) below = absurd (omega (arith, below))

pub one-spread : (n : ℕ) (parts : List (List Rows)) (spread : List Rows) → parts ≡ spread ∷ [] → AreNumbers n spread → All (λ (s : List Rows). length s ≡ n) parts
one-spread n parts spread only numbers = subst (All (λ (s : List Rows). length s ≡ n)) (sym only) (All-cons (λ (s : List Rows). length s ≡ n) spread [] numbers.0 (All-nil (λ (s : List Rows). length s ≡ n)))

pub positives-ready : (shape : Shape) (parts kept : List (List Rows)) (spread own : List Rows) → ListsPositive shape → parts ≡ spread ∷ [] → AreNumbers 2 spread
    → kept ≡ kept_spreads shape parts → own ≡ get_or kept 0 own → (length own ≡ 2) × ArePartsAtWorkers shape (length own) (own ∷ [])
positives-ready shape parts kept spread own is only numbers is_kept at =
    let same : own ≡ map (kept_of shape 0) spread = at ∙ ap (λ (l : List (List Rows)). get_or l 0 own) (is_kept ∙ ap (kept_spreads shape) only) in
    let long : length own ≡ 2 = ap length same ∙ length-map spread (kept_of shape 0) ∙ numbers.0 in
    let ready : ArePartsAtWorkers shape 2 (kept_spreads shape (spread ∷ [])) =
    kept-parts shape 2 (spread ∷ []) (positives-kept shape is) (positives-typed shape 2 (spread ∷ []) spread is refl numbers) (one-spread 2 (spread ∷ []) spread refl numbers) in
    (long, subst (λ (n : ℕ). ArePartsAtWorkers shape n (own ∷ [])) (sym long) (subst (λ (s : List Rows). ArePartsAtWorkers shape 2 (s ∷ [])) (sym same) ready))
