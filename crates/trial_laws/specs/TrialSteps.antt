-- What the script of a trial comes to.
--
--   trial_fetches     the files that it needs
--   trial_shape       the shape of its join
--   trial_checked     its steps and its store, with every name resolved
use Rattle.std.specs.Prelude.{ℕ, List, [], ◌∷◌, None, codes}
use Rattle.rel_base.specs.declared.relations.Column.{Column}
use Rattle.rel_base.specs.declared.values.ColType.TheVariants as kind
use Rattle.myrial_ast.specs.declared.operators.BinOp.TheVariants as op
use Rattle.myrial_ast.specs.Scalars.{Scalar, At, Bin}
use Rattle.myrial_ast.specs.Trees.{Name}
use Rattle.myrial_meaning.specs.declared.needed_files.Fetch.{Fetch}
use Rattle.algebra.specs.declared.terms.Source.TheVariants as source
use Rattle.algebra.specs.Trees.{AtomTree, Shape, StepTree, CheckedTree, Same, Join}
use Rattle.trial_gen.specs.Trials.{trial_columns, trial_key}

-- the file of a relation, which no statement loads
abbrev pub needed : Name → Fetch
needed name = record { key = trial_key name; form = None }

-- the files that the script of a trial needs, in order
abbrev pub trial_fetches : List Fetch
trial_fetches = needed (codes "E1") ∷ needed (codes "E2") ∷ needed (codes "E3") ∷ []

-- an atom of two numbers, without tests of its own
abbrev pub pairs : AtomTree
pairs = record { kinds = kind.Int ∷ kind.Int ∷ []; keeps = [] }

-- two columns of the combined row are equal
abbrev pub equal : ℕ → ℕ → Scalar
equal a b = Bin op.Eq (At a) (At b)

-- three atoms in a ring, with a variable between each two
abbrev pub trial_shape : Shape
trial_shape = record {
  atoms = pairs ∷ pairs ∷ pairs ∷ [];
  variables = (0 ∷ 5 ∷ []) ∷ (1 ∷ 2 ∷ []) ∷ (3 ∷ 4 ∷ []) ∷ [];
  plain = equal 1 2 ∷ equal 3 4 ∷ equal 5 0 ∷ [];
  arith = [];
  emits = At 0 ∷ At 2 ∷ At 4 ∷ [];
}

-- a column of numbers
abbrev pub number : Name → Column
number name = record { name = name; kind = kind.Int }

-- a statement of this number has the rows of the file at a place
abbrev pub scan : ℕ → ℕ → StepTree
scan statement place =
    record { statement = statement; schema = trial_columns; term = Same (source.File place) }

-- the three scans, the join of their results, and its store
abbrev pub trial_checked : CheckedTree
trial_checked = record {
  steps =
      scan 1 0 ∷ scan 2 1 ∷ scan 3 2
      ∷ record {
        statement = 4;
        schema = number (codes "x") ∷ number (codes "y") ∷ number (codes "z") ∷ [];
        term = Join trial_shape (source.Result 1 ∷ source.Result 2 ∷ source.Result 3 ∷ []);
      } ∷ [];
  stores = record { statement = 5; key = trial_key (codes "Tri"); source = source.Result 4 } ∷ [];
}
