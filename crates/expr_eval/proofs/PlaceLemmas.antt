-- Values by place.
use Rattle.std.proofs.Common.{◌≡◌, ℕ, zero, suc, [], ◌∷◌, None, refl}
use Rattle.std.specs.Prelude.{pos}
use Rattle.std.specs.List.{slice_get}
use Rattle.rel_base.specs.declared.values.Value.TheVariants as value
use Rattle.myrial_ast.specs.Scalars.{value_at}
use Rattle.myrial_ast.specs.Combinations.{Row}

-- past the end stands the number 0
pub value_at-past : (row : Row) (place : ℕ) → slice_get row place ≡ None → value_at row place ≡ value.Int (pos 0)
value_at-past [] place e = refl
value_at-past (v ∷ row) zero e = cc
value_at-past (v ∷ row) (suc place) e = value_at-past row place e
