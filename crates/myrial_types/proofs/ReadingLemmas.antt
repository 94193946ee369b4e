-- What is wrong with the parts of a comprehension, one part further.
use Rattle.std.proofs.Common.{◌≡◌, ◌∙◌, ℕ, ◌+◌, ◌<◌, ◌==◌, Bool, true, false, ◌||◌, not, List, [], ◌∷◌, ◌++◌, length, map, take}
use Rattle.std.proofs.Common.{get_or, Option, Some, None, refl, ap}
use Rattle.std.specs.Prelude.{is_none, nat_lt}
use Rattle.std.specs.List.{flat_map, list_any}
use Rattle.std.proofs.lemmas.List.{append-nil, append_assoc, map_push, take_more}
use Rattle.std.proofs.lemmas.List.Concat.{flat_map-append}
use Rattle.std.proofs.lemmas.List.Folds.{list_any-append}
use Rattle.rel_base.specs.declared.values.ColType.{ColType}
use Rattle.rel_base.specs.declared.values.ColType.TheVariants as coltype
use Rattle.myrial_ast.specs.declared.expressions.ColRef.{ColRef}
use Rattle.myrial_ast.specs.declared.relations.EmitItem.{EmitItem}
use Rattle.myrial_ast.specs.Trees.{Name, Tree, EmitTree, emit_tree_of}
use Rattle.myrial_ast.specs.Trees as tree
use Rattle.myrial_scopes.specs.Scopes.{ItemSchema, is_alias, scope_of}
use Rattle.algebra.specs.ShapeConditions.{is_kind}
use Rattle.myrial_types.specs.declared.kinds.Faults.{Faults}
use Rattle.myrial_types.specs.Kinds.{condition_trees, emitted_alias, emitted_tree, has_any_aggregate, has_inner_aggregate}
use Rattle.myrial_types.specs.Kinds.{is_unknown_behind}
use Rattle.myrial_types.specs.Kinds.{meanings_of, references, references_in, tree_kind, trees_in}
use Rattle.myrial_types.specs.inner.Readings.{either_faults, faults_in, reference_faults}

-- ---- tests

or_false : (b : Bool) → b || false ≡ b
or_false true = refl
or_false false = refl

or_or : (a b c d : Bool) → (a || b) || (c || d) ≡ (a || c) || (b || d)
or_or true b c d = refl
or_or false true true d = refl
or_or false true false d = refl
or_or false false c d = refl

or_last : (a b c : Bool) → (a || b) || c ≡ (a || c) || (b || false)
or_last true b c = refl
or_last false true true = refl
or_last false true false = refl
or_last false false true = refl
or_last false false false = refl

or_middle : (a b c : Bool) → a || (b || c) ≡ (a || b) || c
or_middle true b c = refl
or_middle false b c = refl

-- ---- references

module _ (items : List ItemSchema) where
  pub references_of_two : (xs ys : List ColRef)
      → reference_faults items (xs ++ ys) ≡ either_faults (reference_faults items xs) (reference_faults items ys)
  references_of_two xs ys = λ i. let f : Faults = record {
    relation = list_any-append (is_unknown_behind items) xs ys i;
    column = list_any-append (λ r. meanings_of items r == 0) xs ys i;
    ambiguous = list_any-append (λ r. nat_lt 1 (meanings_of items r)) xs ys i;
    mismatch = false;
    misplaced = false;
  } in f

  pub reference_of_one : (r : ColRef) → reference_faults items (r ∷ []) ≡ record {
    relation = is_unknown_behind items r;
    column = meanings_of items r == 0;
    ambiguous = nat_lt 1 (meanings_of items r);
    mismatch = false;
    misplaced = false;
  }
  reference_of_one r = λ i. let f : Faults = record {
    relation = or_false (is_unknown_behind items r) i;
    column = or_false (meanings_of items r == 0) i;
    ambiguous = or_false (nat_lt 1 (meanings_of items r)) i;
    mismatch = false;
    misplaced = false;
  } in f

-- ---- parts

-- a type that an expression hasn't is no boolean either
no_truth : (k : Option ColType) → (is_none k || false) || (not (is_kind coltype.Bool k) || false) ≡ not (is_kind coltype.Bool k)
no_truth None = refl
no_truth (Some coltype.Int) = refl
no_truth (Some coltype.Str) = refl
no_truth (Some coltype.Bool) = refl

module _ (items : List ItemSchema) where
  pub condition_of_one : (e : Tree) → faults_in items (Some e) [] ≡ record {
    relation = list_any (is_unknown_behind items) (references e);
    column = list_any (λ r. meanings_of items r == 0) (references e);
    ambiguous = list_any (λ r. nat_lt 1 (meanings_of items r)) (references e);
    mismatch = not (is_kind coltype.Bool (tree_kind (scope_of items) e));
    misplaced = has_any_aggregate e;
  }
  condition_of_one e =
      let alone = append-nil (references e) in
      λ i. let f : Faults = record {
        relation = (or_false (list_any (is_unknown_behind items) (references e ++ []))
            ∙ ap (list_any (is_unknown_behind items)) alone) i;
        column = list_any (λ r. meanings_of items r == 0) (alone i);
        ambiguous = list_any (λ r. nat_lt 1 (meanings_of items r)) (alone i);
        mismatch = no_truth (tree_kind (scope_of items) e) i;
        misplaced = (or_false (has_any_aggregate e || false) ∙ or_false (has_any_aggregate e)) i;
      } in f

  pub emit_of_one : (e : Tree) (name : Option Name) → faults_in items None (tree.One e name ∷ []) ≡ record {
    relation = list_any (is_unknown_behind items) (references e);
    column = list_any (λ r. meanings_of items r == 0) (references e);
    ambiguous = list_any (λ r. nat_lt 1 (meanings_of items r)) (references e);
    mismatch = is_none (tree_kind (scope_of items) e);
    misplaced = has_inner_aggregate e;
  }
  emit_of_one e name =
      let alone = append-nil (references e) in
      λ i. let f : Faults = record {
        relation = (or_false (list_any (is_unknown_behind items) (references e ++ []))
            ∙ ap (list_any (is_unknown_behind items)) alone) i;
        column = list_any (λ r. meanings_of items r == 0) (alone i);
        ambiguous = list_any (λ r. nat_lt 1 (meanings_of items r)) (alone i);
        mismatch = (or_false (is_none (tree_kind (scope_of items) e) || false)
            ∙ or_false (is_none (tree_kind (scope_of items) e))) i;
        misplaced = or_false (has_inner_aggregate e) i;
      } in f

  pub emit_of_alias : (alias : Name) → faults_in items None (tree.AllOf alias ∷ []) ≡ record {
    relation = not (is_alias items alias);
    column = false;
    ambiguous = false;
    mismatch = false;
    misplaced = false;
  }
  emit_of_alias alias = λ i. let f : Faults = record {
    relation = or_false (not (is_alias items alias)) i;
    column = false;
    ambiguous = false;
    mismatch = false;
    misplaced = false;
  } in f

-- ---- one emit item further

trees_in-push : (condition : Option Tree) (emits : List EmitTree) (emit : EmitTree)
    → trees_in condition (emits ++ emit ∷ []) ≡ trees_in condition emits ++ trees_in None (emit ∷ [])
trees_in-push condition emits emit =
    rw (
      flat_map-append emitted_tree emits (emit ∷ []),
      append_assoc (condition_trees condition) (flat_map emitted_tree emits) (flat_map emitted_tree (emit ∷ [])),
    ) refl

references_in-push : (condition : Option Tree) (emits : List EmitTree) (emit : EmitTree)
    → references_in condition (emits ++ emit ∷ []) ≡ references_in condition emits ++ references_in None (emit ∷ [])
references_in-push condition emits emit =
    ap (flat_map references) (trees_in-push condition emits emit)
    ∙ flat_map-append references (trees_in condition emits) (trees_in None (emit ∷ []))

module _ (items : List ItemSchema) (condition : Option Tree) where
  faults_in-push : (emits : List EmitTree) (emit : EmitTree)
      → faults_in items condition (emits ++ emit ∷ [])
      ≡ either_faults (faults_in items condition emits) (faults_in items None (emit ∷ []))
  faults_in-push emits emit =
      let refs = references_in condition emits in
      let new = references_in None (emit ∷ []) in
      let more = references_in-push condition emits emit in
      let some : (p : ColRef → Bool)
      → list_any p (references_in condition (emits ++ emit ∷ [])) ≡ list_any p refs || list_any p new =
      λ p. ap (list_any p) more ∙ list_any-append p refs new in
      let unknown = λ (alias : Name). not (is_alias items alias) in
      let behind = is_unknown_behind items in
      let untyped = λ (e : Tree). is_none (tree_kind (scope_of items) e) in
      let no_bool = list_any (λ e. not (is_kind coltype.Bool (tree_kind (scope_of items) e))) (condition_trees condition) in
      λ i. let f : Faults = record {
        relation = (ap (λ a. a || list_any unknown (flat_map emitted_alias (emits ++ emit ∷ []))) (some behind)
            ∙ (ap (λ a. (list_any behind refs || list_any behind new) || a)
            (ap (list_any unknown) (flat_map-append emitted_alias emits (emit ∷ []))
            ∙ list_any-append unknown (flat_map emitted_alias emits) (flat_map emitted_alias (emit ∷ [])))
            ∙ or_or (list_any behind refs) (list_any behind new) (list_any unknown (flat_map emitted_alias emits))
            (list_any unknown (flat_map emitted_alias (emit ∷ []))))) i;
        column = some (λ r. meanings_of items r == 0) i;
        ambiguous = some (λ r. nat_lt 1 (meanings_of items r)) i;
        mismatch = (ap (λ a. a || no_bool)
            (ap (list_any untyped) (trees_in-push condition emits emit)
            ∙ list_any-append untyped (trees_in condition emits) (trees_in None (emit ∷ [])))
            ∙ or_last (list_any untyped (trees_in condition emits)) (list_any untyped (trees_in None (emit ∷ []))) no_bool) i;
        misplaced = (ap (λ a. list_any has_any_aggregate (condition_trees condition) || a)
            (ap (list_any has_inner_aggregate) (flat_map-append emitted_tree emits (emit ∷ []))
            ∙ list_any-append has_inner_aggregate (flat_map emitted_tree emits) (flat_map emitted_tree (emit ∷ [])))
            ∙ or_middle (list_any has_any_aggregate (condition_trees condition))
            (list_any has_inner_aggregate (flat_map emitted_tree emits))
            (list_any has_inner_aggregate (flat_map emitted_tree (emit ∷ [])))) i;
      } in f

  pub faults_of_next : (emits : List EmitItem) (i : ℕ) (emit : EmitItem) → i < length emits → emit ≡ get_or emits i emit
      → faults_in items condition (map emit_tree_of (take (i + 1) emits))
      ≡ either_faults (faults_in items condition (map emit_tree_of (take i emits))) (faults_in items None (emit_tree_of emit ∷ []))
  faults_of_next emits i emit low at =
      rw (take_more emits i emit low, ← at, map_push emit_tree_of (take i emits) emit)
      (faults_in-push (map emit_tree_of (take i emits)) (emit_tree_of emit))
