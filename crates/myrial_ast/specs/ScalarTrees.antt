-- Scalars, without the places in memory where their nodes lie.
--
--   scalar_tree_of e          the tree of a scalar
use Rattle.myrial_ast.specs.declared.scalars.Scalar as code
use Rattle.myrial_ast.specs.Scalars.{Scalar, Lit, At, Not, Neg, Bin}

-- the tree of a scalar
abbrev pub scalar_tree_of : code.Scalar → Scalar
scalar_tree_of (code.Lit v) = Lit v
scalar_tree_of (code.At place) = At place
scalar_tree_of (code.Not' p e) = Not (scalar_tree_of e)
scalar_tree_of (code.Neg' p e) = Neg (scalar_tree_of e)
scalar_tree_of (code.Bin' op p l q r) = Bin op (scalar_tree_of l) (scalar_tree_of r)
