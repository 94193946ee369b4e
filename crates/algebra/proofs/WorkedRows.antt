-- Worked examples, computed from the definitions: a wrong shape, term, step or condition does not check.
use Rattle.std.proofs.Common.{◌≡◌, ℕ, zero, true, false, List, [], ◌∷◌, Some, None, refl}
use Rattle.std.specs.Prelude.{pos, map, codes, replicate}
use Rattle.rel_base.specs.declared.values.Value.TheVariants as value
use Rattle.rel_base.specs.declared.values.ColType.{ColType}
use Rattle.rel_base.specs.declared.values.ColType.TheVariants as kind
use Rattle.rel_base.specs.declared.relations.Column.{Column}
use Rattle.rel_base.specs.declared.names.Key.{Key}
use Rattle.rel_base.specs.declared.faults.RunFault.TheVariants as fault
use Rattle.rel_base.specs.Keys.{File}
use Rattle.myrial_ast.specs.declared.operators.BinOp.TheVariants as op
use Rattle.myrial_ast.specs.declared.operators.AggOp.TheVariants as agg
use Rattle.myrial_ast.specs.Scalars.{Scalar, Lit, At, Not, Neg, Bin}
use Rattle.myrial_ast.specs.Combinations.{Row, Rows}
use Rattle.myrial_ast.specs.CandidateFaults.{joins_alone}
use Rattle.algebra.specs.declared.terms.Source.{Source}
use Rattle.algebra.specs.declared.terms.Source.TheVariants as source
use Rattle.algebra.specs.declared.terms.StoreStep.{StoreStep}
use Rattle.algebra.specs.Trees.{AtomTree, Shape, TermTree, Same, Empty, UnionAll, Diff, Distinct, Join, Group, StepTree, CheckedTree}
use Rattle.algebra.specs.Shapes.{candidates_of, kept_of, prefix_of, listed_of, shape_of}
use Rattle.algebra.specs.ShapeConditions.{kind_in, is_shape}
use Rattle.algebra.specs.Conditions.{is_of}
use Rattle.algebra.specs.Meanings.{term_rows, stored_by, needed_steps, checked_fault}

-- ---- shorter words for the examples

abbrev ints : List ℕ → Row
ints numbers = map (λ n. value.Int (pos n)) numbers

abbrev pairs_of : List (ℕ × ℕ) → Rows
pairs_of pairs = map (λ p. ints (p.0 ∷ p.1 ∷ [])) pairs

abbrev column : List ℕ → Rows
column numbers = map (λ n. ints (n ∷ [])) numbers

abbrev number : ℕ → Scalar
number n = Lit (value.Int (pos n))

abbrev equal : Scalar → Scalar → Scalar
equal a b = Bin op.Eq a b

abbrev most : Scalar
most = number 9223372036854775807

-- an atom with so many int columns
abbrev atom : ℕ → List Scalar → AtomTree
atom width keeps = record { kinds = replicate width kind.Int; keeps = keeps }

-- ---- a join of two columns and one: its plain tests say more of the first atom's columns than its variable does

abbrev tested : Shape
tested = record {
  atoms = atom 2 [] ∷ atom 1 [] ∷ [];
  variables = (0 ∷ 2 ∷ []) ∷ [];
  plain = equal (At 0) (At 2) ∷ equal (At 1) (At 2) ∷ [];
  arith = Bin op.Gt (Bin op.Add (At 0) (number 1)) (number 2) ∷ [];
  emits = At 2 ∷ [];
}

abbrev both_atoms : List Rows
both_atoms = pairs_of ((1, 1) ∷ (1, 2) ∷ (2, 2) ∷ []) ∷ column (1 ∷ 2 ∷ 2 ∷ []) ∷ []

-- only variables make classes, so the row 1,2 is kept
pub kept-by_variables_alone : kept_of tested 0 (pairs_of ((1, 1) ∷ (1, 2) ∷ (2, 2) ∷ [])) ≡ pairs_of ((1, 1) ∷ (1, 2) ∷ (2, 2) ∷ [])
kept-by_variables_alone = refl

-- the arithmetic test cuts no candidate, and what is listed
pub candidates-tested : candidates_of tested both_atoms ≡ map ints ((1 ∷ 1 ∷ 1 ∷ []) ∷ (2 ∷ 2 ∷ 2 ∷ []) ∷ (2 ∷ 2 ∷ 2 ∷ []) ∷ [])
candidates-tested = refl

pub listed-tested : listed_of tested both_atoms ≡ column (2 ∷ 2 ∷ [])
listed-tested = refl

-- a variable is a test where no plain test says the same
pub candidates-by_variables : candidates_of (record tested { plain = [] }) both_atoms
    ≡ map ints ((1 ∷ 1 ∷ 1 ∷ []) ∷ (1 ∷ 2 ∷ 1 ∷ []) ∷ (2 ∷ 2 ∷ 2 ∷ []) ∷ (2 ∷ 2 ∷ 2 ∷ []) ∷ [])
candidates-by_variables = refl

-- ---- keeps are tests over the atom's own columns, and one without a column cuts candidates and no kept rows

abbrev kept_second : Shape
kept_second = record { atoms = atom 2 [] ∷ atom 1 (equal (At 0) (number 2) ∷ []) ∷ []; variables = []; plain = []; arith = []; emits = [] }

pub kept-by_keeps : kept_of kept_second 1 (column (1 ∷ 2 ∷ [])) ≡ column (2 ∷ [])
kept-by_keeps = refl

pub candidates-by_keeps : candidates_of kept_second (pairs_of ((2, 5) ∷ []) ∷ column (1 ∷ 2 ∷ []) ∷ []) ≡ ints (2 ∷ 5 ∷ 2 ∷ []) ∷ []
candidates-by_keeps = refl

abbrev never : Shape
never = record { atoms = atom 1 (Lit (value.Bool false) ∷ []) ∷ []; variables = []; plain = []; arith = []; emits = [] }

pub kept-by_never : kept_of never 0 (column (1 ∷ [])) ≡ column (1 ∷ [])
kept-by_never = refl

pub candidates-by_never : candidates_of never (column (1 ∷ []) ∷ []) ≡ []
candidates-by_never = refl

-- a prefix of two atoms whose columns are of one variable with a column of the third
abbrev chained : Shape
chained = record { atoms = atom 1 [] ∷ atom 1 [] ∷ atom 1 [] ∷ []; variables = (0 ∷ 1 ∷ 2 ∷ []) ∷ []; plain = []; arith = []; emits = [] }

pub prefix-chained : prefix_of chained 2 (column (1 ∷ 2 ∷ []) ∷ column (2 ∷ 3 ∷ []) ∷ column [] ∷ []) ≡ pairs_of ((2, 2) ∷ [])
prefix-chained = refl

-- the shape of a comprehension: R.x = R.y makes no variable, and R.x = S.z one
pub shape-of_a_comprehension : shape_of (replicate 2 kind.Int ∷ replicate 1 kind.Int ∷ [])
    (record { conjuncts = equal (At 0) (At 1) ∷ equal (At 0) (At 2) ∷ Bin op.Gt (Neg (At 0)) (number 0) ∷ []; emits = At 1 ∷ []; aggregates = None ∷ [] })
    ≡ record {
      atoms = atom 2 [] ∷ atom 1 [] ∷ [];
      variables = (0 ∷ 1 ∷ 2 ∷ []) ∷ [];
      plain = equal (At 0) (At 1) ∷ equal (At 0) (At 2) ∷ [];
      arith = Bin op.Gt (Neg (At 0)) (number 0) ∷ [];
      emits = At 1 ∷ [];
    }
shape-of_a_comprehension = refl

-- ---- terms, over file 0 = 1,1,2 and file 1 = 2,3

abbrev given : Source → Rows
given (source.File zero) = column (1 ∷ 1 ∷ 2 ∷ [])
given _ = column (2 ∷ 3 ∷ [])

abbrev scanned : Shape
scanned = record { atoms = atom 1 [] ∷ []; variables = []; plain = []; arith = []; emits = At 0 ∷ [] }

pub rows-of_terms : map (term_rows given)
    (Same (source.File 0) ∷ Empty ∷ UnionAll (source.File 0) (source.File 1) ∷ Diff (source.File 0) (source.File 1) ∷ Distinct (source.File 0)
    ∷ Join scanned (source.File 1 ∷ []) ∷ Group scanned (source.File 0 ∷ []) (None ∷ []) ∷ Group scanned (source.File 0 ∷ []) (Some agg.Sum ∷ []) ∷ [])
    ≡ column (1 ∷ 1 ∷ 2 ∷ []) ∷ [] ∷ column (1 ∷ 1 ∷ 2 ∷ 2 ∷ 3 ∷ []) ∷ column (1 ∷ []) ∷ column (1 ∷ 2 ∷ [])
    ∷ column (2 ∷ 3 ∷ []) ∷ column (1 ∷ 2 ∷ []) ∷ column (4 ∷ []) ∷ []
rows-of_terms = refl

-- ---- types of scalars over an int, a string and a boolean column

abbrev mixed : List ColType
mixed = kind.Int ∷ kind.Str ∷ kind.Bool ∷ []

pub kinds-of_scalars : map (kind_in mixed)
    (At 1 ∷ At 3 ∷ Neg (At 0) ∷ Neg (At 1) ∷ Not (At 2) ∷ Not (At 0) ∷ equal (At 1) (At 1) ∷ equal (At 0) (At 1)
    ∷ Bin op.Add (At 0) (number 1) ∷ Bin op.Add (At 2) (At 2) ∷ Bin op.And (At 2) (At 2) ∷ Bin op.Or (At 2) (At 0) ∷ [])
    ≡ Some kind.Str ∷ None ∷ Some kind.Int ∷ None ∷ Some kind.Bool ∷ None ∷ Some kind.Bool ∷ None
    ∷ Some kind.Int ∷ None ∷ Some kind.Bool ∷ None ∷ []
kinds-of_scalars = refl

-- ---- shapes that are well formed, and shapes that are not

-- a shape of a column of each type and one more int
abbrev shaped : List (List ℕ) → List Scalar → List Scalar → Shape
shaped variables keeps plain = record {
  atoms = record { kinds = mixed; keeps = keeps } ∷ atom 1 [] ∷ [];
  variables = variables;
  plain = plain;
  arith = [];
  emits = At 1 ∷ [];
}

pub shapes-well_formed : map is_shape (tested ∷ kept_second ∷ never ∷ chained ∷ shaped ((0 ∷ 3 ∷ []) ∷ []) (At 2 ∷ []) (equal (At 0) (At 3) ∷ []) ∷ [])
    ≡ true ∷ true ∷ true ∷ true ∷ true ∷ []
shapes-well_formed = refl

-- no atom; nine; an atom without a column; a variable of one atom, of two types, out of range; a column in two variables
pub shapes-ill_formed : map is_shape
    (record tested { atoms = []; variables = []; plain = []; arith = []; emits = [] } ∷ record tested { atoms = replicate 9 (atom 1 []); variables = [] }
    ∷ record tested { atoms = atom 3 [] ∷ atom 0 [] ∷ []; variables = [] } ∷ shaped ((0 ∷ []) ∷ []) [] [] ∷ shaped ((1 ∷ 3 ∷ []) ∷ []) [] []
    ∷ shaped ((0 ∷ 4 ∷ []) ∷ []) [] [] ∷ shaped ((0 ∷ 3 ∷ []) ∷ (0 ∷ 3 ∷ []) ∷ []) [] [] ∷ [])
    ≡ replicate 7 false
shapes-ill_formed = refl

-- a keep that computes a number, that is no truth, that reads another atom; a plain test that computes a number
pub scalars-ill_formed : map is_shape
    (shaped [] (equal (Neg (At 0)) (number 1) ∷ []) [] ∷ shaped [] (At 0 ∷ []) [] ∷ shaped [] (equal (At 3) (number 1) ∷ []) []
    ∷ shaped [] [] (equal (Bin op.Mul (At 0) (At 3)) (number 1) ∷ []) ∷ record (shaped [] [] []) { emits = At 4 ∷ [] } ∷ [])
    ≡ replicate 5 false
scalars-ill_formed = refl

-- ---- a script: statement 1 overflows and isn't needed, 2 scans, 3 groups what 2 has, 4 and 5 store

abbrev adhoc : List ℕ → Key
adhoc name = record { user = codes "public"; program = codes "adhoc"; name = name }

abbrev int_column : Column
int_column = record { name = codes "x"; kind = kind.Int }

abbrev files : List File
files = (adhoc (codes "R"), record { schema = int_column ∷ []; rows = column (1 ∷ 1 ∷ 2 ∷ []) }) ∷ []

abbrev step : ℕ → TermTree → StepTree
step statement term = record { statement = statement; schema = int_column ∷ []; term = term }

abbrev store : ℕ → List ℕ → Source → StoreStep
store statement name from = record { statement = statement; key = adhoc name; source = from }

abbrev overflowing : StepTree
overflowing = step 1 (Join (record scanned { emits = Bin op.Add (At 0) most ∷ [] }) (source.File 0 ∷ []))

abbrev summed : StepTree
summed = step 3 (Group scanned (source.Result 2 ∷ []) (Some agg.Sum ∷ []))

abbrev script : CheckedTree
script = record {
  steps = overflowing ∷ step 2 (Same (source.File 0)) ∷ summed ∷ [];
  stores = store 4 (codes "Out") (source.Result 3) ∷ store 5 (codes "Copy") (source.File 0) ∷ [];
}

pub needed-of_the_script : needed_steps script.stores script.steps ≡ step 2 (Same (source.File 0)) ∷ summed ∷ []
needed-of_the_script = refl

pub stored-by_the_script : stored_by files script
    ≡ (adhoc (codes "Out"), record { schema = int_column ∷ []; rows = column (4 ∷ []) })
    ∷ (adhoc (codes "Copy"), record { schema = int_column ∷ []; rows = column (1 ∷ 1 ∷ 2 ∷ []) }) ∷ []
stored-by_the_script = refl

-- the fault of a statement that isn't needed doesn't count
pub fault-of_the_script : checked_fault (λ statement. joins_alone) files script ≡ None
fault-of_the_script = refl

pub fault-needed : checked_fault (λ statement. joins_alone) files (record script { stores = store 4 (codes "Out") (source.Result 1) ∷ [] }) ≡ Some (fault.Overflow 1)
fault-needed = refl

-- a sum past 64 bits, of the statement that has it
pub fault-of_a_sum : checked_fault (λ statement. joins_alone) ((adhoc (codes "R"), record { schema = int_column ∷ []; rows = column (9223372036854775807 ∷ 1 ∷ []) }) ∷ []) script
    ≡ Some (fault.AggregateOverflow 3)
fault-of_a_sum = refl

-- the script is of its files; it isn't where a file is missing, a source is of a later step, a store is of a later statement,
-- numbers don't rise, or a column has another type
pub scripts-of_files : map (is_of files)
    (script ∷ record script { steps = step 2 (Same (source.File 1)) ∷ summed ∷ [] } ∷ record script { steps = step 1 (Same (source.Result 3)) ∷ summed ∷ [] }
    ∷ record script { stores = store 3 (codes "Out") (source.Result 3) ∷ [] } ∷ record script { steps = step 2 Empty ∷ step 2 Empty ∷ summed ∷ [] }
    ∷ record script { steps = step 2 Empty ∷ step 3 (Join (record scanned { emits = equal (At 0) (At 0) ∷ [] }) (source.Result 2 ∷ [])) ∷ [] } ∷ [])
    ≡ true ∷ false ∷ false ∷ false ∷ false ∷ false ∷ []
scripts-of_files = refl
