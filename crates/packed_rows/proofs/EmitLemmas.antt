-- What rows emit: all of their values, or those of picks.
use Rattle.std.proofs.Common.{◌≡◌, ℕ, ◌<◌, List, [], ◌∷◌, length, map, get_or, refl, sym, ◌∙◌, ap, arith}
use Rattle.std.specs.Prelude.{pos}
use Rattle.std.proofs.lemmas.List.{length-map, get_or-map}
use Rattle.rel_base.specs.declared.values.Value.TheVariants as value
use Rattle.myrial_ast.specs.Scalars.{exact_value, value_at}
use Rattle.myrial_ast.specs.declared.scalars.Scalar as code
use Rattle.myrial_ast.specs.ScalarTrees.{scalar_tree_of}
use Rattle.myrial_ast.specs.Combinations.{Row, Rows, emitted}
use Rattle.packed_rows.specs.declared.emits.Emits.TheVariants as emits
use Rattle.packed_rows.specs.Emitted.{all_emitted}

-- rows that emit all of their values
pub whole-rows : (rows : Rows) → all_emitted emits.Whole rows ≡ rows
whole-rows [] = refl
whole-rows (row ∷ rows) = ap (λ rest. row ∷ rest) (whole-rows rows)

-- what is emitted at a place
pub emitted-at : (es : List code.Scalar) (row : Row) (i : ℕ) (e : code.Scalar) → i < length es → e ≡ get_or es i e
    → exact_value (scalar_tree_of e) row ≡ value_at (emitted (map scalar_tree_of es) row) i
emitted-at es row i e low is =
    ap (λ x. exact_value (scalar_tree_of x) row) is
    ∙ sym (get_or-map (λ e. exact_value e row) (map scalar_tree_of es) i (scalar_tree_of e) (value.Int (pos 0)) (omega (arith, low, length-map es scalar_tree_of))
    ∙ ap (λ x. exact_value x row) (get_or-map scalar_tree_of es i e (scalar_tree_of e) low))
