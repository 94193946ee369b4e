-- The shape whose tests of one atom are keeps of that atom.
--
--   lowered places e              the scalar over a row that begins so many places further on
--   spans_from column atoms       the columns of each atom, where the first begins at a column
--   is_of_one spans e             whether it reads columns of one of these alone
--   ties_within span variables    the equalities that variables make among the columns of a span
--   is_tied variables e           whether it is an equality of two columns of one variable
--   pushed shape                  the shape with each test that reads columns of one atom alone
--                                 among its keeps, and without what its variables say
use Rattle.std.specs.Prelude.{ℕ, ◌+◌, ◌-◌, ◌==◌, Bool, false, not, ◌&&◌, List, [], ◌∷◌, ◌++◌, filter, length, map, Option, Some, None}
use Rattle.std.specs.List.{flat_map, list_any}
use Rattle.myrial_ast.specs.Classes.{equality}
use Rattle.myrial_ast.specs.KeptRows.{Span, lies_in, reads_within}
use Rattle.myrial_ast.specs.Scalars.{Scalar, Lit, At, Not, Neg, Bin}
use Rattle.algebra.specs.Shapes.{tests_of, tie_test, ties_in}
use Rattle.algebra.specs.Trees.{AtomTree, Shape}

-- the scalar over a row that begins so many places further on: each column is counted from there
abbrev pub lowered : ℕ → Scalar → Scalar
lowered places (Lit v) = Lit v
lowered places (At c) = At (c - places)
lowered places (Not e) = Not (lowered places e)
lowered places (Neg e) = Neg (lowered places e)
lowered places (Bin o l r) = Bin o (lowered places l) (lowered places r)

-- the columns of an atom that begins at a column
abbrev pub span_at : ℕ → AtomTree → Span
span_at column a = record { from = column; to = column + length a.kinds }

-- the columns of each atom, where the first begins at a column
abbrev pub spans_from : ℕ → List AtomTree → List Span
spans_from column [] = []
spans_from column (a ∷ atoms) = span_at column a ∷ spans_from (column + length a.kinds) atoms

-- whether a test reads columns of one of these spans alone
abbrev pub is_of_one : List Span → Scalar → Bool
is_of_one spans e = list_any (λ span. reads_within span e) spans

-- the equalities that variables make among the columns of a span
abbrev pub ties_within : Span → List (List ℕ) → List (ℕ × ℕ)
ties_within span variables = flat_map (λ v. ties_in (filter (lies_in span) v)) variables

-- what is said of the columns of a span alone: the tests that read them and no others, and that those of a variable are equal
abbrev pub own_tests : List Scalar → List (List ℕ) → Span → List Scalar
own_tests tests variables span =
    filter (reads_within span) tests ++ map tie_test (ties_within span variables)

-- the atom of a span, which keeps what is said of its columns alone
abbrev pub pushed_atom : List Scalar → List (List ℕ) → Span → AtomTree → AtomTree
pushed_atom tests variables span a =
    record { kinds = a.kinds; keeps = map (lowered span.from) (own_tests tests variables span) }

-- the atoms, of which the first begins at a column, each with its own keeps
abbrev pub pushed_from : List Scalar → List (List ℕ) → ℕ → List AtomTree → List AtomTree
pushed_from tests variables column [] = []
pushed_from tests variables column (a ∷ atoms) =
    pushed_atom tests variables (span_at column a) a
    ∷ pushed_from tests variables (column + length a.kinds) atoms

-- whether a column is one of these
abbrev pub is_among : List ℕ → ℕ → Bool
is_among columns c = list_any (λ d. d == c) columns

-- whether two columns are of one variable
abbrev pub share_variable : List (List ℕ) → ℕ → ℕ → Bool
share_variable variables a b = list_any (λ v. is_among v a && is_among v b) variables

-- whether the columns of an equality are of one variable
abbrev pub are_tied : List (List ℕ) → Option (ℕ × ℕ) → Bool
are_tied variables None = false
are_tied variables (Some pair) = share_variable variables pair.0 pair.1

-- whether a test is an equality of two columns of one variable: it holds wherever each variable has
-- one value
abbrev pub is_tied : List (List ℕ) → Scalar → Bool
is_tied variables e = are_tied variables (equality e)

-- the tests of no atom, which read no column or columns of two atoms, but for those that the
-- variables say
abbrev pub left_tests : List AtomTree → List (List ℕ) → List Scalar → List Scalar
left_tests atoms variables tests =
    filter (λ e. not (is_of_one (spans_from 0 atoms) e) && not (is_tied variables e)) tests

-- the shape with each test that reads columns of one atom alone among its keeps and no other, and
-- without what its variables say
abbrev pub pushed : Shape → Shape
pushed s = record {
  atoms = pushed_from (tests_of s) s.variables 0 s.atoms;
  variables = s.variables;
  plain = left_tests s.atoms s.variables (tests_of s);
  arith = s.arith;
  emits = s.emits;
}
