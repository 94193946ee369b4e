-- Worked rows of pushed shapes and rewritten scripts.
use Rattle.std.proofs.Common.{◌≡◌, false, [], ◌∷◌, refl}
use Rattle.std.specs.Prelude.{pos}
use Rattle.rel_base.specs.declared.values.ColType.TheVariants as kind
use Rattle.rel_base.specs.declared.values.Value.TheVariants as value
use Rattle.myrial_ast.specs.declared.operators.BinOp.TheVariants as op
use Rattle.myrial_ast.specs.Scalars.{Scalar, Lit, At, Bin}
use Rattle.algebra.specs.Trees.{Shape}
use Rattle.plan_rewrite.specs.inner.Pushing.{is_tied, pushed}

abbrev equal : Scalar → Scalar → Scalar
equal l r = Bin op.Eq l r

abbrev one : Scalar
one = Lit (value.Int (pos 1))

-- R(x, y), S(z) where R.x = R.y and S.z = R.x and R.y < S.z and R.y = 1 and S.z < 1 and 1 = 1
abbrev of_two : Shape
of_two = record {
  atoms = record { kinds = kind.Int ∷ kind.Int ∷ []; keeps = [] } ∷ record { kinds = kind.Int ∷ []; keeps = [] } ∷ [];
  variables = (0 ∷ 1 ∷ 2 ∷ []) ∷ [];
  plain = equal (At 0) (At 1) ∷ equal (At 2) (At 0) ∷ Bin op.Lt (At 1) (At 2) ∷ equal (At 1) one ∷ Bin op.Lt (At 2) one ∷ equal one one ∷ [];
  arith = [];
  emits = At 2 ∷ [];
}

-- the tests of R and of S are their keeps, each over its own columns, and that R.x and R.y are one variable is another of R's; the
-- equality of R and S goes, since their variable says it; their other test stays, and so does the test without columns
pushed-of-two : pushed of_two
    ≡ record {
      atoms =
          record { kinds = kind.Int ∷ kind.Int ∷ []; keeps = equal (At 0) (At 1) ∷ equal (At 1) one ∷ equal (At 0) (At 1) ∷ [] }
          ∷ record { kinds = kind.Int ∷ []; keeps = Bin op.Lt (At 0) one ∷ [] } ∷ [];
      variables = (0 ∷ 1 ∷ 2 ∷ []) ∷ [];
      plain = Bin op.Lt (At 1) (At 2) ∷ equal one one ∷ [];
      arith = [];
      emits = At 2 ∷ [];
    }
pushed-of-two = refl

-- an equality of columns of two variables, or of one column that has a variable, isn't said by one
tied-apart : is_tied ((0 ∷ 2 ∷ []) ∷ (1 ∷ 3 ∷ []) ∷ []) (equal (At 0) (At 1)) ≡ false
tied-apart = refl

tied-of-one : is_tied ((0 ∷ 2 ∷ []) ∷ []) (equal (At 2) (At 1)) ≡ false
tied-of-one = refl

-- a keep without columns is a test of candidates, and a keep with columns stays one
abbrev with_keeps : Shape
with_keeps = record {
  atoms = record { kinds = kind.Int ∷ []; keeps = [] } ∷ record { kinds = kind.Int ∷ []; keeps = equal one one ∷ equal (At 0) one ∷ [] } ∷ [];
  variables = [];
  plain = [];
  arith = [];
  emits = [];
}

pushed-with-keeps : pushed with_keeps
    ≡ record {
      atoms = record { kinds = kind.Int ∷ []; keeps = [] } ∷ record { kinds = kind.Int ∷ []; keeps = equal (At 0) one ∷ [] } ∷ [];
      variables = [];
      plain = equal one one ∷ [];
      arith = [];
      emits = [];
    }
pushed-with-keeps = refl
