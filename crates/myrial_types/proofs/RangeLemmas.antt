-- The equalities of a comprehension are of columns of its items.
use Rattle.std.proofs.Common.{◌≡◌, ◌∙◌, ℕ, suc, ◌+◌, ◌<◌, ◌≤◌, Bool, true, false, cond, List, [], ◌∷◌, ◌++◌, filter, map, length, refl, sym, ap, subst, arith, Option, Some, None}
use Rattle.std.specs.Prelude.{option_map, option_and_then, sum, ⊤}
use Rattle.std.specs.List.{enumerate_from, flat_map, cons_option}
use Rattle.std.proofs.lemmas.List.{length-append, length-map}
use Rattle.std.proofs.lemmas.List.Sums.{sum_by-cons}
use Rattle.rel_base.specs.declared.relations.Column.{Column}
use Rattle.myrial_ast.specs.declared.expressions.ColRef.{ColRef}
use Rattle.myrial_ast.specs.declared.operators.BinOp.TheVariants as op
use Rattle.myrial_ast.specs.Trees.{Tree}
use Rattle.myrial_ast.specs.Trees as tree
use Rattle.myrial_ast.specs.Scalars.{Scalar, Lit, At, Not, Neg, Bin, conjuncts}
use Rattle.myrial_ast.specs.Classes.{equality, equalities}
use Rattle.myrial_scopes.specs.Scopes.{ItemSchema, ScopeColumn, columns_of, scope_of, may_mean, only, place_of, places_of, scalar_of, scoped}
use Rattle.myrial_scopes.specs.Emits.{conjuncts_of}
use Rattle.algebra.specs.Conditions.{kinds_of_columns}
use Rattle.algebra.specs.ShapeLaws.{InRange, widths_in}
use Rattle.algebra.proofs.ShapeLemmas.{equality-is}
use Rattle.myrial_types.specs.Resolving.{MeantItem, kinds_of_items, schemas_of}

-- ---- places

abbrev pub AllBelow : ℕ → List ℕ → Type 0
AllBelow n [] = ⊤
AllBelow n (x ∷ xs) = (x < n) × AllBelow n xs

pub places-below : {X : Type 0} (test : ℕ → X → Bool) (end from : ℕ) (xs : List X) → from + length xs ≤ end
    → AllBelow end (map (λ (p : ℕ × X). p.0) (filter (λ (p : ℕ × X). test p.0 p.1) (enumerate_from from xs)))
places-below test end from [] l = tt
places-below {X} test end from (x ∷ xs) l = by (test from x) (places-below test end (from + 1) xs (omega (arith, l)))
  where
    by : (t : Bool) → AllBelow end (map (λ (p : ℕ × X). p.0) (filter (λ (p : ℕ × X). test p.0 p.1) (enumerate_from (from + 1) xs)))
        → AllBelow end (map (λ (p : ℕ × X). p.0) (cond t ((from, x) ∷ filter (λ (p : ℕ × X). test p.0 p.1) (enumerate_from (from + 1) xs)) (filter (λ (p : ℕ × X). test p.0 p.1) (enumerate_from (from + 1) xs))))
    by true h = (omega (arith, l), h)
    by false h = h

only-below : (n : ℕ) (xs : List ℕ) (place : ℕ) → AllBelow n xs → only xs ≡ Some place → place < n
only-below n [] place h e = cc
only-below n (x ∷ []) place h e = let same : x ≡ place = cc in subst (λ p. p < n) same h.0
only-below n (x ∷ y ∷ xs) place h e = cc

pub place-below : (scope : List ScopeColumn) (r : ColRef) (place : ℕ) → place_of scope r ≡ Some place → place < length scope
place-below scope r place e = only-below (length scope) (places_of scope r) place (places-below (may_mean r) (length scope) 0 scope (omega arith)) e

-- ---- expressions

abbrev ReadsBelow : ℕ → Scalar → Type 0
ReadsBelow n (Lit v) = ⊤
ReadsBelow n (At c) = c < n
ReadsBelow n (Not e) = ReadsBelow n e
ReadsBelow n (Neg e) = ReadsBelow n e
ReadsBelow n (Bin o l r) = ReadsBelow n l × ReadsBelow n r

abbrev AllRead : ℕ → List Scalar → Type 0
AllRead n [] = ⊤
AllRead n (e ∷ es) = ReadsBelow n e × AllRead n es

abbrev IfRead : ℕ → Option Scalar → Type 0
IfRead n None = ⊤
IfRead n (Some s) = ReadsBelow n s

scalar-below : (scope : List ScopeColumn) (e : Tree) → IfRead (length scope) (scalar_of scope e)
scalar-below scope (tree.Lit v) = tt
scalar-below scope (tree.Col c) = by (place_of scope c) (place-below scope c)
  where
    by : (o : Option ℕ) → ((place : ℕ) → o ≡ Some place → place < length scope) → IfRead (length scope) (option_map At o)
    by None h = tt
    by (Some place) h = h place refl
scalar-below scope (tree.Not e) = by (scalar_of scope e) (scalar-below scope e)
  where
    by : (o : Option Scalar) → IfRead (length scope) o → IfRead (length scope) (option_map Not o)
    by None h = tt
    by (Some s) h = h
scalar-below scope (tree.Neg e) = by (scalar_of scope e) (scalar-below scope e)
  where
    by : (o : Option Scalar) → IfRead (length scope) o → IfRead (length scope) (option_map Neg o)
    by None h = tt
    by (Some s) h = h
scalar-below scope (tree.Bin o l r) = by (scalar_of scope l) (scalar_of scope r) (scalar-below scope l) (scalar-below scope r)
  where
    by : (a b : Option Scalar) → IfRead (length scope) a → IfRead (length scope) b
        → IfRead (length scope) (option_and_then (λ left. option_map (λ right. Bin o left right) b) a)
    by None b g h = tt
    by (Some s) None g h = tt
    by (Some s) (Some t) g h = (g, h)
scalar-below scope (tree.Agg o e) = tt
scalar-below scope (tree.AggAll o) = tt

-- ---- conjuncts

read-append : (n : ℕ) (xs ys : List Scalar) → AllRead n xs → AllRead n ys → AllRead n (xs ++ ys)
read-append n [] ys h k = k
read-append n (x ∷ xs) ys h k = (h.0, read-append n xs ys h.1 k)

conjuncts-below : (n : ℕ) (e : Scalar) → ReadsBelow n e → AllRead n (conjuncts e)
conjuncts-below n (Bin op.And l r) h = read-append n (conjuncts l) (conjuncts r) (conjuncts-below n l h.0) (conjuncts-below n r h.1)
conjuncts-below n (Lit v) h = (h, tt)
conjuncts-below n (At c) h = (h, tt)
conjuncts-below n (Not e) h = (h, tt)
conjuncts-below n (Neg e) h = (h, tt)
conjuncts-below n (Bin op.Or l r) h = (h, tt)
conjuncts-below n (Bin op.Eq l r) h = (h, tt)
conjuncts-below n (Bin op.Ne l r) h = (h, tt)
conjuncts-below n (Bin op.Lt l r) h = (h, tt)
conjuncts-below n (Bin op.Le l r) h = (h, tt)
conjuncts-below n (Bin op.Gt l r) h = (h, tt)
conjuncts-below n (Bin op.Ge l r) h = (h, tt)
conjuncts-below n (Bin op.Add l r) h = (h, tt)
conjuncts-below n (Bin op.Sub l r) h = (h, tt)
conjuncts-below n (Bin op.Mul l r) h = (h, tt)

equalities-below : (n : ℕ) (es : List Scalar) → AllRead n es → InRange n (equalities es)
equalities-below n [] h = tt
equalities-below n (e ∷ es) h = by (equality e) refl (equalities-below n es h.1)
  where
    by : (o : Option (ℕ × ℕ)) → equality e ≡ o → InRange n (equalities es) → InRange n (cons_option o (equalities es))
    by None k rest = rest
    by (Some pair) k rest = (subst (ReadsBelow n) (equality-is e pair k) h.0, rest)

condition-below : (scope : List ScopeColumn) (condition : Option Tree) (cs : List Scalar) → conjuncts_of scope condition ≡ Some cs → AllRead (length scope) cs
condition-below scope None cs e = let none : [] ≡ cs = cc in subst (AllRead (length scope)) none tt
condition-below scope (Some condition) cs e = by (scalar_of scope condition) (scalar-below scope condition) e
  where
    by : (o : Option Scalar) → IfRead (length scope) o → option_map conjuncts o ≡ Some cs → AllRead (length scope) cs
    by None h e = cc
    by (Some s) h e = let same : conjuncts s ≡ cs = cc in subst (AllRead (length scope)) same (conjuncts-below (length scope) s h)

-- ---- scopes

numbered-length : (number : ℕ) (i : ItemSchema) → length (columns_of number i) ≡ length i.schema
numbered-length number i = length-map (enumerate_from 0 i.schema) (λ (p : ℕ × Column). scoped number i.alias p.0 p.1) ∙ numbers 0 i.schema
  where
    numbers : (from : ℕ) (xs : List Column) → length (enumerate_from from xs) ≡ length xs
    numbers from [] = refl
    numbers from (x ∷ xs) = ap suc (numbers (from + 1) xs)

pub scope-wide : (number : ℕ) (items : List MeantItem)
    → length (flat_map (λ (p : ℕ × ItemSchema). columns_of p.0 p.1) (enumerate_from number (schemas_of items))) ≡ sum (widths_in (kinds_of_items items))
scope-wide number [] = refl
scope-wide number (i ∷ items) =
    let own : ItemSchema = record { alias = i.alias; schema = i.meant.schema } in
    length-append (columns_of number own) (flat_map (λ (p : ℕ × ItemSchema). columns_of p.0 p.1) (enumerate_from (number + 1) (schemas_of items)))
    ∙ ap (λ n. n + length (flat_map (λ (p : ℕ × ItemSchema). columns_of p.0 p.1) (enumerate_from (number + 1) (schemas_of items)))) (numbered-length number own ∙ sym (length-map i.meant.schema (λ (c : Column). c.kind)))
    ∙ ap (λ n. length (kinds_of_columns i.meant.schema) + n) (scope-wide (number + 1) items)
    ∙ sym (sum_by-cons (λ y. y) (length (kinds_of_columns i.meant.schema)) (widths_in (kinds_of_items items)))

-- the equalities of a resolved condition are of columns that there are
pub conjuncts-range : (items : List MeantItem) (condition : Option Tree) (cs : List Scalar) → conjuncts_of (scope_of (schemas_of items)) condition ≡ Some cs
    → InRange (sum (widths_in (kinds_of_items items))) (equalities cs)
conjuncts-range items condition cs e =
    subst (λ n. InRange n (equalities cs)) (scope-wide 0 items)
    (equalities-below (length (scope_of (schemas_of items))) cs (condition-below (scope_of (schemas_of items)) condition cs e))
