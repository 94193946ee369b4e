-- Worked cases of a script step by step, computed: a wrong definition does not check.
use Rattle.std.proofs.Common.{◌≡◌, ℕ, true, false, List, [], ◌∷◌, map, codes, refl, Some, None}
use Rattle.std.specs.Prelude.{pos}
use Rattle.rel_base.specs.declared.faults.RunFault.TheVariants as fault
use Rattle.rel_base.specs.declared.names.Key.{Key}
use Rattle.rel_base.specs.declared.relations.Column.{Column}
use Rattle.rel_base.specs.declared.values.ColType.TheVariants as kind
use Rattle.rel_base.specs.declared.values.Value.TheVariants as value
use Rattle.rel_base.specs.Keys.{File}
use Rattle.myrial_ast.specs.Scalars.{At}
use Rattle.myrial_ast.specs.Combinations.{Rows}
use Rattle.algebra.specs.declared.terms.Source.TheVariants as source
use Rattle.algebra.specs.Conditions.{is_of}
use Rattle.algebra.specs.Trees.{Shape, TermTree, Same, UnionAll, Distinct, StepTree, CheckedTree}
use Rattle.placement.specs.Layouts.{Placing}
use Rattle.placement.specs.Plans.{LeastLoad, ruled_shuffle}
use Rattle.run_laws.specs.Values.{meant, rows_meant, result_of, first_of}
use Rattle.run_laws.specs.Rewritten.{needed, numbers_of}
use Rattle.run_laws.specs.Held.{parts_in}
use Rattle.run_laws.specs.KeptRuns.{joined_spreads}

abbrev adhoc : List ℕ → Key
adhoc name = record { user = codes "public"; program = codes "adhoc"; name = name }

abbrev singles : List ℕ → Rows
singles ns = map (λ n. value.Int (pos n) ∷ []) ns

abbrev one_int : List Column
one_int = record { name = codes "x"; kind = kind.Int } ∷ []

abbrev step : ℕ → TermTree → StepTree
step number term = record { statement = number; schema = one_int; term = term }

-- R = 0, 1, 2, dealt to two workers
abbrev files : List File
files = (adhoc (codes "R"), record { schema = one_int; rows = singles (0 ∷ 1 ∷ 2 ∷ []) }) ∷ []

abbrev two : Placing
two = record {
  workers = 2;
  seed = 0;
  reduce = false;
  shuffle = λ number. ruled_shuffle LeastLoad 2;
}

-- A = scan(R); B = distinct(scan(R)); C = unionall(A, scan(R)); store(C, Out): the second statement isn't needed
abbrev script : CheckedTree
script = record {
  steps =
      step 1 (Same (source.File 0)) ∷ step 2 (Distinct (source.File 0)) ∷ step 3 (UnionAll (source.Result 1) (source.File 0)) ∷ [];
  stores = record { statement = 4; key = adhoc (codes "Out"); source = source.Result 3 } ∷ [];
}

pub checked-script : is_of files script ≡ true
checked-script = refl

pub numbers-needed : numbers_of (needed script) ≡ 1 ∷ 3 ∷ []
numbers-needed = refl

-- a file and a result by what they stand for
pub parts-file : (meant two files script (source.File 0)).parts ≡ singles (0 ∷ 2 ∷ []) ∷ singles (1 ∷ []) ∷ []
parts-file = refl

pub rows-union : rows_meant two files script (source.Result 3) ≡ singles (0 ∷ 1 ∷ 2 ∷ 0 ∷ 1 ∷ 2 ∷ [])
rows-union = refl

pub parts-union : (meant two files script (source.Result 3)).parts ≡ singles (0 ∷ 2 ∷ 0 ∷ 2 ∷ []) ∷ singles (1 ∷ 1 ∷ []) ∷ []
parts-union = refl

pub parts-by_step : (result_of two (meant two files script) (step 3 (UnionAll (source.Result 1) (source.File 0)))).parts
    ≡ singles (0 ∷ 2 ∷ 0 ∷ 2 ∷ []) ∷ singles (1 ∷ 1 ∷ []) ∷ []
parts-by_step = refl

-- the first fault of several
pub first-of_two : first_of (None ∷ Some (fault.Overflow 3) ∷ Some (fault.TooManyRows 5) ∷ []) ≡ Some (fault.Overflow 3)
first-of_two = refl

pub first-of_none : first_of (None ∷ None ∷ []) ≡ None
first-of_none = refl

-- what is held for a file and for the result of a statement
abbrev held : List (ℕ × List Rows)
held = (1, singles (7 ∷ []) ∷ []) ∷ (3, singles (8 ∷ []) ∷ []) ∷ []

pub held-file : parts_in ((singles (0 ∷ 2 ∷ []) ∷ singles (1 ∷ []) ∷ []) ∷ []) held (source.File 0)
    ≡ singles (0 ∷ 2 ∷ []) ∷ singles (1 ∷ []) ∷ []
held-file = refl

pub held-result : parts_in [] held (source.Result 3) ≡ singles (8 ∷ []) ∷ []
held-result = refl

-- R = 0, 1, 2, 3 and S = 1, 3 at two workers, joined by their values
abbrev by_value : Shape
by_value = record {
  atoms = record { kinds = kind.Int ∷ []; keeps = [] } ∷ record { kinds = kind.Int ∷ []; keeps = [] } ∷ [];
  variables = (0 ∷ 1 ∷ []) ∷ [];
  plain = [];
  arith = [];
  emits = At 0 ∷ [];
}

abbrev two_spreads : List (List Rows)
two_spreads =
    (singles (0 ∷ 2 ∷ []) ∷ singles (1 ∷ 3 ∷ []) ∷ []) ∷ (singles (1 ∷ []) ∷ singles (3 ∷ []) ∷ []) ∷ []

pub joined-reduced : joined_spreads true by_value two_spreads
    ≡ (singles [] ∷ singles (1 ∷ 3 ∷ []) ∷ []) ∷ (singles (1 ∷ []) ∷ singles (3 ∷ []) ∷ []) ∷ []
joined-reduced = refl

pub joined-whole : joined_spreads false by_value two_spreads ≡ two_spreads
joined-whole = refl
