-- Shapes and terms that were made are those of the definitions.
use Rattle.std.proofs.Common.{◌≡◌, ◌∙◌, ℕ, ◌+◌, ◌<◌, Bool, true, false, not, cond, List, [], ◌∷◌, ◌++◌, get_or, length, map, take, Option, Some, None, refl, sym, ap}
use Rattle.std.specs.Prelude.{◌↔◌, IfOk, IfSome, IsSome, IsTrue, MatchOption, Result, Ok, Err, is_some}
use Rattle.std.specs.List.{cons_option, filter_map, list_any}
use Rattle.std.proofs.lemmas.List.{map_push, take_more}
use Rattle.std.proofs.lemmas.Bool.{false_from_ne_true}
use Rattle.rel_base.specs.declared.failure.Memory.{Memory}
use Rattle.rel_base.specs.declared.values.ColType.{ColType}
use Rattle.myrial_ast.specs.declared.scalars.Scalar as code
use Rattle.myrial_ast.specs.Classes.{equality, equalities}
use Rattle.myrial_ast.specs.ScalarTrees.{scalar_tree_of}
use Rattle.myrial_ast.specs.Combinations.{Comprehension}
use Rattle.myrial_ast.specs.Groups.{Kinds, has_aggregate}
use Rattle.myrial_scopes.specs.Emits.{Emit}
use Rattle.myrial_scopes.specs.Resolutions.{emit_of}
use Rattle.myrial_scopes.specs.declared.emits.EmittedColumn.{EmittedColumn}
use Rattle.algebra.specs.declared.shapes.JoinShape.{JoinShape}
use Rattle.algebra.specs.declared.terms.Source.{Source}
use Rattle.algebra.specs.ShapeConditions.{is_shape}
use Rattle.algebra.specs.Shapes.{shape_of}
use Rattle.algebra.specs.ShapeTrees.{shape_tree_of}
use Rattle.algebra.specs.Trees.{Shape, TermTree, Join, Group}
use Rattle.myrial_types.specs.Kinds.{is_term_past_limit}
use Rattle.myrial_types.specs.Resolving.{join_term}
use Rattle.myrial_types.proofs.KindLemmas.{list_any-map}

module _ (parts shape : Shape) (same : parts ≡ shape) where
  made-shape : (made : Option JoinShape) → IfSome made (λ s. shape_tree_of s ≡ parts) → (IsSome made ↔ IsTrue (is_shape parts))
      → MatchOption made (is_shape shape ≡ false) (λ s. (shape_tree_of s ≡ shape) × (is_shape shape ≡ true))
  made-shape None h says = sym (ap is_shape same) ∙ false_from_ne_true (is_shape parts) (λ t. let e : false ≡ true = says.1 t in cc)
  made-shape (Some s) h says = (h ∙ same, sym (ap is_shape same) ∙ says.0 refl)

  -- the shape that was made of parts, or none where it isn't well formed
  pub made-result : (made : Result (Option JoinShape) Memory) → IfOk made (λ m. IfSome m (λ s. shape_tree_of s ≡ parts))
      → IfOk made (λ m. IsSome m ↔ IsTrue (is_shape parts))
      → IfOk made (λ m. MatchOption m (is_shape shape ≡ false) (λ s. (shape_tree_of s ≡ shape) × (is_shape shape ≡ true)))
  made-result (Ok made) h says = made-shape made h says
  made-result (Err refused) h says = tt

-- whether an aggregate is emitted
pub aggregates-same : (emits : List EmittedColumn)
    → list_any (λ e. is_some (emit_of e).aggregate) emits ≡ has_aggregate (map (λ (e : Emit). e.aggregate) (map emit_of emits))
aggregates-same emits =
    sym (list_any-map is_some (λ (e : Emit). e.aggregate) (map emit_of emits) ∙ list_any-map (λ (e : Emit). is_some e.aggregate) emit_of emits)

module _ (kinds : List (List ColType)) (sources : List Source) (c : Comprehension) where
  abbrev pub IsMade : TermTree → Type 0
  IsMade term = (term ≡ join_term kinds sources c) × (is_term_past_limit (join_term kinds sources c) ≡ false)

  -- the term of a comprehension that groups, and of one that doesn't
  pub group-made : (shape : Shape) (ss : List Source) (ks : Kinds) → shape ≡ shape_of kinds c → is_shape (shape_of kinds c) ≡ true → ss ≡ sources → ks ≡ c.aggregates
      → has_aggregate c.aggregates ≡ true → IsMade (Group shape ss ks)
  group-made shape ss ks e formed f g grouped =
      let chosen : join_term kinds sources c ≡ Group (shape_of kinds c) sources c.aggregates =
      ap (λ b. cond b (Group (shape_of kinds c) sources c.aggregates) (Join (shape_of kinds c) sources)) grouped in
      ((λ i. Group (e i) (f i) (g i)) ∙ sym chosen, ap is_term_past_limit chosen ∙ ap not formed)

  pub join-made : (shape : Shape) (ss : List Source) → shape ≡ shape_of kinds c → is_shape (shape_of kinds c) ≡ true → ss ≡ sources
      → has_aggregate c.aggregates ≡ false → IsMade (Join shape ss)
  join-made shape ss e formed f single =
      let chosen : join_term kinds sources c ≡ Join (shape_of kinds c) sources =
      ap (λ b. cond b (Group (shape_of kinds c) sources c.aggregates) (Join (shape_of kinds c) sources)) single in
      ((λ i. Join (e i) (f i)) ∙ sym chosen, ap is_term_past_limit chosen ∙ ap not formed)

  -- a shape that isn't well formed is past a limit
  pub none-made : is_shape (shape_of kinds c) ≡ false → is_term_past_limit (join_term kinds sources c) ≡ true
  none-made e = by (has_aggregate c.aggregates)
    where
      by : (b : Bool) → is_term_past_limit (cond b (Group (shape_of kinds c) sources c.aggregates) (Join (shape_of kinds c) sources)) ≡ true
      by true = ap not e
      by false = ap not e

-- ---- equalities

filter_map-push : {X Y : Type 0} (f : X → Option Y) (xs : List X) (x : X) → filter_map f (xs ++ x ∷ []) ≡ filter_map f xs ++ cons_option (f x) []
filter_map-push f [] x = refl
filter_map-push {X} {Y} f (y ∷ ys) x = by (f y) (filter_map-push f ys x)
  where
    by : (o : Option Y) → filter_map f (ys ++ x ∷ []) ≡ filter_map f ys ++ cons_option (f x) []
        → cons_option o (filter_map f (ys ++ x ∷ [])) ≡ cons_option o (filter_map f ys) ++ cons_option (f x) []
    by None h = h
    by (Some v) h = ap (λ vs. v ∷ vs) h

-- the equalities among one conjunct more
pub equalities-more : (conjuncts : List code.Scalar) (i : ℕ) (x : code.Scalar) → i < length conjuncts → x ≡ get_or conjuncts i x
    → equalities (map scalar_tree_of (take (i + 1) conjuncts)) ≡ equalities (map scalar_tree_of (take i conjuncts)) ++ cons_option (equality (scalar_tree_of x)) []
equalities-more conjuncts i x low at =
    ap (λ cs. equalities (map scalar_tree_of cs)) (take_more conjuncts i x low ∙ ap (λ y. take i conjuncts ++ y ∷ []) (sym at))
    ∙ ap equalities (map_push scalar_tree_of (take i conjuncts) x)
    ∙ filter_map-push equality (map scalar_tree_of (take i conjuncts)) (scalar_tree_of x)
