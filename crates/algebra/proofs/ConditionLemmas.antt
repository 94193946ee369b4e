-- The parts of a shape are well formed where the shape of their trees is.
use Rattle.std.proofs.Common.{◌≡◌, ◌∙◌, ℕ, Bool, List, [], ◌∷◌, ◌++◌, length, map, refl, sym, ap}
use Rattle.std.specs.Prelude.{◌&&◌, nat_lt, nat_le}
use Rattle.std.specs.List.{flat_map, list_all}
use Rattle.std.proofs.lemmas.List.{length-map}
use Rattle.std.proofs.lemmas.List.Folds.{list_all-map}
use Rattle.rel_base.specs.Limits.{most_items, most_variables}
use Rattle.rel_base.specs.declared.values.ColType.{ColType}
use Rattle.myrial_ast.specs.declared.scalars.Scalar.{Scalar}
use Rattle.myrial_ast.specs.Scalars.{Scalar as ScalarTree}
use Rattle.myrial_ast.specs.ScalarTrees.{scalar_tree_of}
use Rattle.algebra.specs.declared.shapes.Atom.{Atom}
use Rattle.algebra.specs.Trees.{AtomTree, atom_tree_of, shape_of_parts}
use Rattle.algebra.specs.ShapeConditions.{is_plain_test, is_truth, is_typed, is_atom, is_variable, all_different, is_shape}

-- what is read of the atoms is read of their trees
kinds-through : (atoms : List Atom) → flat_map (λ (a : Atom). a.kinds) atoms ≡ flat_map (λ (a : AtomTree). a.kinds) (map atom_tree_of atoms)
kinds-through [] = refl
kinds-through (a ∷ atoms) = ap (λ kinds. a.kinds ++ kinds) (kinds-through atoms)

widths-through : (atoms : List Atom) → map (λ (a : Atom). length a.kinds) atoms ≡ map (λ (a : AtomTree). length a.kinds) (map atom_tree_of atoms)
widths-through [] = refl
widths-through (a ∷ atoms) = ap (λ widths. length a.kinds ∷ widths) (widths-through atoms)

-- a test of each scalar over these types is one of its tree
trees-pass : (test : List ColType → ScalarTree → Bool) (kinds others : List ColType) (scalars : List Scalar) → kinds ≡ others
    → list_all (λ e. test kinds (scalar_tree_of e)) scalars ≡ list_all (test others) (map scalar_tree_of scalars)
trees-pass test kinds others scalars e =
    ap (λ ks. list_all (λ s. test ks (scalar_tree_of s)) scalars) e ∙ sym (list_all-map (test others) scalar_tree_of scalars)

module _ (atoms : List Atom) (variables : List (List ℕ)) (plain arith emits : List Scalar) (kinds : List ColType) (widths columns : List ℕ) where
  pub is_shape-parts : kinds ≡ flat_map (λ (a : Atom). a.kinds) atoms → widths ≡ map (λ (a : Atom). length a.kinds) atoms → columns ≡ flat_map (λ v. v) variables
      → ((nat_lt 0 (length atoms) && nat_le (length atoms) most_items && list_all (λ a. is_atom (atom_tree_of a)) atoms)
      && (nat_le (length variables) most_variables && list_all (is_variable kinds widths) variables && all_different columns)
      && (list_all (λ e. is_plain_test kinds (scalar_tree_of e)) plain && list_all (λ e. is_truth kinds (scalar_tree_of e)) arith
      && list_all (λ e. is_typed kinds (scalar_tree_of e)) emits))
      ≡ is_shape (shape_of_parts atoms variables plain arith emits)
  is_shape-parts k w v =
      let ks : kinds ≡ flat_map (λ (a : AtomTree). a.kinds) (map atom_tree_of atoms) = k ∙ kinds-through atoms in
      let ws : widths ≡ map (λ (a : AtomTree). length a.kinds) (map atom_tree_of atoms) = w ∙ widths-through atoms in
      let own = flat_map (λ (a : AtomTree). a.kinds) (map atom_tree_of atoms) in
      let many : length atoms ≡ length (map atom_tree_of atoms) = sym (length-map atoms atom_tree_of) in
      let each : list_all (λ a. is_atom (atom_tree_of a)) atoms ≡ list_all is_atom (map atom_tree_of atoms) = sym (list_all-map is_atom atom_tree_of atoms) in
      λ i. (nat_lt 0 (many i) && nat_le (many i) most_items && each i)
      && (nat_le (length variables) most_variables && list_all (is_variable (ks i) (ws i)) variables && all_different (v i))
      && (trees-pass is_plain_test kinds own plain ks i && trees-pass is_truth kinds own arith ks i && trees-pass is_typed kinds own emits ks i)
