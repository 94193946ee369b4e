-- The spans of atoms, and the places of columns in them.
use Rattle.std.proofs.Common.{◌≡◌, ℕ, suc, ◌+◌, ◌-◌, ◌<◌, ◌≤◌, Bool, true, false, List, [], ◌∷◌, length, length-append, map, get_or, take, refl, sym, ap, ◌∙◌, arith}
use Rattle.std.specs.Prelude.{nat_lt, nat_le, sum}
use Rattle.std.specs.List.{flat_map, list_all}
use Rattle.std.proofs.lemmas.Bool.{ltb-true, leb-true}
use Rattle.std.proofs.lemmas.List.Sums.{sum_by-cons, sum_by_more}
use Rattle.myrial_ast.specs.Classes.{item_of}
use Rattle.myrial_ast.specs.Scalars.{Scalar, Lit, At, Not, Neg, Bin, columns_of}
use Rattle.rel_base.specs.Limits.{most_items, most_variables}
use Rattle.algebra.specs.Trees.{Shape}
use Rattle.algebra.specs.Shapes.{shifted, widths_of}
use Rattle.algebra.specs.ShapeConditions.{is_shape, is_atom, is_variable, all_different, are_atoms, are_variables, are_scalars, kinds_of}
use Rattle.placement.specs.Plans.{places_of}
use Rattle.placement.proofs.WidthLemmas.{three}
use Rattle.join_plans.specs.inner.Counts.{place_in, places_in}

-- the columns of one item more
pub sum-more : (widths : List ℕ) (j : ℕ) → j < length widths → sum (take (suc j) widths) ≡ sum (take j widths) + get_or widths j 0
sum-more widths j low =
    let one : suc j ≡ j + 1 = omega arith in
    ap (λ n. sum (take n widths)) one ∙ sum_by_more (λ (w : ℕ). w) widths j 0 low

-- the place of a column is how far it lies behind the front of its item
pub place-behind : (widths : List ℕ) (c : ℕ) → place_in widths c ≡ (item_of widths c, c - sum (take (item_of widths c) widths))
place-behind [] c = let none : c ≡ c - sum [] = let z : sum [] ≡ 0 = refl in omega arith in (λ i. (0, none i))
place-behind (width ∷ widths) c = by (nat_lt c width) refl (place-behind widths (c - width))
  where
    by : (b : Bool) → nat_lt c width ≡ b
        → place_in widths (c - width) ≡ (item_of widths (c - width), (c - width) - sum (take (item_of widths (c - width)) widths))
        → place_in (width ∷ widths) c ≡ (item_of (width ∷ widths) c, c - sum (take (item_of (width ∷ widths) c) (width ∷ widths)))
    by true e rest = rw e (let none : c ≡ c - sum [] = let z : sum [] ≡ 0 = refl in omega arith in (λ i. (0, none i)))
    by false e rest = rw e (
        let k : ℕ = item_of widths (c - width) in
        let one : item_of widths (c - width) + 1 ≡ 1 + item_of widths (c - width) = omega arith in
        let next : 1 + item_of widths (c - width) ≡ suc (item_of widths (c - width)) = omega arith in
        let front = ap (λ n. sum (take n (width ∷ widths))) next ∙ sum_by-cons (λ (w : ℕ). w) width (take k widths) in
        let back : (c - width) - sum (take (item_of widths (c - width)) widths)
        ≡ c - sum (take (1 + item_of widths (c - width)) (width ∷ widths)) = omega (arith, front) in
        (λ i. ((rest i).0 + 1, (rest i).1)) ∙ (λ i. (one i, back i)))

-- a scalar that is moved by nothing is itself
pub unmoved : (e : Scalar) → shifted 0 e ≡ e
unmoved (Lit v) = refl
unmoved (At c) = let same : 0 + c ≡ c = omega arith in (λ i. At (same i))
unmoved (Not e) = ap Not (unmoved e)
unmoved (Neg e) = ap Neg (unmoved e)
unmoved (Bin o l r) = (λ i. Bin o (unmoved l i) (unmoved r i))

pub all-unmoved : (es : List Scalar) → map (shifted 0) es ≡ es
all-unmoved [] = refl
all-unmoved (e ∷ es) = (λ i. unmoved e i ∷ all-unmoved es i)

-- it reads as many columns wherever its row begins
pub moved-columns : (start : ℕ) (e : Scalar) → length (columns_of (shifted start e)) ≡ length (columns_of e)
moved-columns start (Lit v) = refl
moved-columns start (At c) = refl
moved-columns start (Not e) = moved-columns start e
moved-columns start (Neg e) = moved-columns start e
moved-columns start (Bin o l r) =
    length-append (columns_of (shifted start l)) (columns_of (shifted start r))
    ∙ (λ i. moved-columns start l i + moved-columns start r i)
    ∙ sym (length-append (columns_of l) (columns_of r))

-- the places of a variable's columns are those of the plan
pub places-are : (shape : Shape) (variable : List ℕ) → places_in (widths_of shape) variable ≡ places_of shape variable
places-are shape [] = refl
places-are shape (c ∷ variable) =
    let behind = place-behind (widths_of shape) c in
    let one : item_of (widths_of shape) c + 1 ≡ suc (item_of (widths_of shape) c) = omega arith in
    (λ i. ((behind i).0 + 1, (behind i).1) ∷ places-are shape variable i)
    ∙ (λ i. (one i, c - sum (take (item_of (widths_of shape) c) (widths_of shape))) ∷ places_of shape variable)

-- a shape has 1 to 8 atoms, and at most 8 variables
pub record IsSmall (shape : Shape) : Type 0 where
  pub some_atom : 0 < length shape.atoms
  pub few_atoms : length shape.atoms ≤ most_items
  pub few_variables : length shape.variables ≤ most_variables

pub shape-small : (shape : Shape) → is_shape shape ≡ true → IsSmall shape
shape-small shape well =
    let parts = three (are_atoms shape.atoms) (are_variables (kinds_of shape) (widths_of shape) shape.variables)
    (are_scalars (kinds_of shape) shape.plain shape.arith shape.emits) well in
    let atoms = three (nat_lt 0 (length shape.atoms)) (nat_le (length shape.atoms) most_items) (list_all is_atom shape.atoms)
    parts.0 in
    let variables = three (nat_le (length shape.variables) most_variables)
    (list_all (is_variable (kinds_of shape) (widths_of shape)) shape.variables) (all_different (flat_map (λ v. v) shape.variables))
    parts.1 in
    record {
      some_atom = ltb-true 0 (length shape.atoms) atoms.0;
      few_atoms = leb-true (length shape.atoms) most_items atoms.1;
      few_variables = leb-true (length shape.variables) most_variables variables.0;
    }
