-- What terms and steps mean.
--
--   found nothing files results s      what a source stands for, among what files and statements stand for
--   run value steps                    what each step comes to, the latest first
--   term_rows value t                  the rows of a term, by those of its sources
--   step_relation files results s      the relation of a step
--   stored_by files checked            what a checked script stores, in order, each relation known as a bag
--   needed_steps stores steps          the steps that a store needs
--   shape_fault rule number shape kinds given
--                                      the fault of a join
--   checked_fault rules files checked  the fault of a run: that of the first needed step that has one
use Rattle.std.specs.Prelude.{ℕ, Bool, false, ◌||◌, ◌==◌, if◌then◌else◌, List, [], ◌∷◌, map, fold, find, slice_index_or, Option, Some, None, option_map, is_some, unwrap_or}
use Rattle.std.specs.List.{list_any}
use Rattle.rel_base.specs.declared.faults.RunFault.{RunFault}
use Rattle.rel_base.specs.declared.faults.RunFault.TheVariants as fault
use Rattle.rel_base.specs.Keys.{File}
use Rattle.rel_base.specs.Relations.{RelationState}
use Rattle.myrial_ast.specs.Combinations.{Rows}
use Rattle.myrial_ast.specs.Bags.{union_all, distinct, difference}
use Rattle.myrial_ast.specs.Groups.{Kinds, groups}
use Rattle.myrial_ast.specs.CandidateFaults.{PrefixRule, FaultRule, too_many, prefix_too_long, join_fault}
use Rattle.algebra.specs.declared.terms.Source.{Source}
use Rattle.algebra.specs.declared.terms.Source.TheVariants as source
use Rattle.algebra.specs.declared.terms.StoreStep.{StoreStep}
use Rattle.algebra.specs.Trees.{Shape, TermTree, Same, Empty, UnionAll, Diff, Distinct, Join, Group, StepTree, CheckedTree}
use Rattle.algebra.specs.Shapes.{widths_of, tests_of, ties_of, candidates_of, joined_tables, listed_of}

module _ {X : Type 0} where
  -- what a source stands for: a file by its place, and a statement by its number
  abbrev pub found : X → List X → List (ℕ × X) → Source → X
  found nothing files results (source.File place) = slice_index_or files place nothing
  found nothing files results (source.Result number) =
      unwrap_or (option_map (λ r. r.1) (find (λ r. r.0 == number) results)) nothing

  -- what each step comes to, by what those before it come to; the latest first
  abbrev pub run : (List (ℕ × X) → StepTree → X) → List StepTree → List (ℕ × X)
  run value steps =
      fold (λ results (s : StepTree). (s.statement, value results s) ∷ results) [] steps

-- the rows of a term, by those of its sources
abbrev pub term_rows : (Source → Rows) → TermTree → Rows
term_rows value (Same s) = value s
term_rows value Empty = []
term_rows value (UnionAll s t) = union_all (value s) (value t)
term_rows value (Diff s t) = difference (value s) (value t)
term_rows value (Distinct s) = distinct (value s)
term_rows value (Join shape sources) = listed_of shape (map value sources)
term_rows value (Group shape sources kinds) = groups kinds (listed_of shape (map value sources))

-- what a source that isn't there stands for
abbrev pub no_relation : RelationState
no_relation = record { schema = []; rows = [] }

-- the relations of files
abbrev pub relations_of : List File → List RelationState
relations_of files = map (λ (f : File). f.1) files

-- the relation of a step, where those before it have these
abbrev pub step_relation : List File → List (ℕ × RelationState) → StepTree → RelationState
step_relation files results s =
    record {
      schema = s.schema;
      rows = term_rows (λ o. (found no_relation (relations_of files) results o).rows) s.term;
    }

-- the relation of each step with its number, the latest first
abbrev pub step_relations : List File → List StepTree → List (ℕ × RelationState)
step_relations files steps = run (step_relation files) steps

-- what the stores store, in their order
abbrev pub stored_by : List File → CheckedTree → List File
stored_by files c =
    map (λ (s : StoreStep).
    (s.key, found no_relation (relations_of files) (step_relations files c.steps) s.source))
    c.stores

-- ---- needed steps

-- the sources of a term
abbrev pub sources_of : TermTree → List Source
sources_of (Same s) = s ∷ []
sources_of Empty = []
sources_of (UnionAll s t) = s ∷ t ∷ []
sources_of (Diff s t) = s ∷ t ∷ []
sources_of (Distinct s) = s ∷ []
sources_of (Join shape sources) = sources
sources_of (Group shape sources kinds) = sources

-- whether a source is the result of the statement of this number
abbrev pub is_result : ℕ → Source → Bool
is_result number (source.File place) = false
is_result number (source.Result other) = other == number

-- whether a step has the result of this statement as a source
abbrev pub uses : ℕ → StepTree → Bool
uses number s = list_any (is_result number) (sources_of s.term)

-- whether one of these stores stores it, or one of these steps has it as a source
abbrev pub is_used : ℕ → List StoreStep → List StepTree → Bool
is_used number stores steps =
    list_any (λ (t : StoreStep). is_result number t.source) stores || list_any (uses number) steps

-- the steps whose results are stored, or are sources of later ones that are needed
abbrev pub needed_steps : List StoreStep → List StepTree → List StepTree
needed_steps stores [] = []
needed_steps stores (s ∷ rest) =
    let later = needed_steps stores rest in
    if is_used s.statement stores later then s ∷ later else later

-- ---- faults

-- whether some prefix that counts, of one atom at least and not of all, has too many candidates
abbrev pub has_long_prefix : PrefixRule → Shape → List Rows → Bool
has_long_prefix rule shape given =
    prefix_too_long rule (widths_of shape) (tests_of shape) (ties_of shape) given

-- the fault of a join in a statement of this number, whose listed rows are of these kinds
abbrev pub shape_fault : FaultRule → ℕ → Shape → Kinds → List Rows → Option RunFault
shape_fault rule number shape kinds given =
    join_fault number (has_long_prefix rule.prefixes shape (joined_tables rule.reduce shape given))
    shape.arith shape.emits kinds (candidates_of shape given)

-- the fault of a term: that of its join, or a `unionall` of too many rows
abbrev pub term_fault : FaultRule → ℕ → (Source → Rows) → TermTree → Option RunFault
term_fault rule number value (UnionAll s t) =
    if too_many (union_all (value s) (value t)) then Some (fault.TooManyRows number) else None
term_fault rule number value (Join shape sources) =
    shape_fault rule number shape [] (map value sources)
term_fault rule number value (Group shape sources kinds) =
    shape_fault rule number shape kinds (map value sources)
term_fault rule number value _ = None

-- the first fault of a needed one of the steps, where those before them have these results; which prefixes count is said by
-- statement
abbrev pub first_fault : (ℕ → FaultRule) → List File → List StoreStep → List (ℕ × RelationState)
    → List StepTree → Option RunFault
first_fault rules files stores results [] = None
first_fault rules files stores results (s ∷ rest) =
    let own =
    if is_used s.statement stores (needed_steps stores rest)
    then term_fault (rules s.statement) s.statement
    (λ o. (found no_relation (relations_of files) results o).rows) s.term
    else None in
    if is_some own then own
    else first_fault rules files stores
    ((s.statement, step_relation files results s) ∷ results) rest

-- the fault of the first needed step that has one
abbrev pub checked_fault : (ℕ → FaultRule) → List File → CheckedTree → Option RunFault
checked_fault rules files c = first_fault rules files c.stores [] c.steps
