-- The fault of a run: that of the first needed statement that has one.
--
--   statement_fault rule number files env s    what is wrong with a statement of this number
--   in_each rule                               one rule for all statements
--   run_fault rules files script               the fault of a run, with the number of its statement
--
-- A statement's rule says whether the candidates of the prefixes of a comprehension count as well, as
-- they do where its items are joined one after another, and whether these prefixes are of its reduced
-- rows, as they are where rows in no answer go before.
use Rattle.std.specs.Prelude.{ℕ, suc, if◌then◌else◌, List, [], ◌∷◌, map, length, Option, Some, None, option_and_then, is_some}
use Rattle.rel_base.specs.Each.{each_or_none}
use Rattle.rel_base.specs.Keys.{File}
use Rattle.rel_base.specs.Relations.{RelationState}
use Rattle.rel_base.specs.declared.faults.RunFault.{RunFault}
use Rattle.rel_base.specs.declared.faults.RunFault.TheVariants as fault
use Rattle.myrial_ast.specs.Trees.{RelTree, StatementTree}
use Rattle.myrial_ast.specs.Trees as tree
use Rattle.myrial_ast.specs.CandidateFaults.{FaultRule, too_many, comprehension_fault}
use Rattle.myrial_scopes.specs.Scopes.{scope_of}
use Rattle.myrial_scopes.specs.Emits.{Resolved, resolved}
use Rattle.myrial_meaning.specs.Environments.{nothing_yet}
use Rattle.myrial_meaning.specs.Meaning.{RelationEnvironment, ItemRelation, item_relation, items_of, tables_of, relation_of, after}
use Rattle.myrial_meaning.specs.Needed.{is_needed}

-- the numbers of columns of the items
abbrev pub widths_of : List ItemRelation → List ℕ
widths_of sources = map (λ (s : ItemRelation). length s.table.schema) sources

-- the fault of a relation expression: comprehensions have those above, and a `unionall` may have too many rows
abbrev pub relation_fault : FaultRule → ℕ → List File → RelationEnvironment → RelTree
    → Option RunFault
relation_fault rule number files env (tree.From items condition emits) =
    option_and_then (λ sources.
    option_and_then (λ (b : Resolved). comprehension_fault rule number
    (widths_of sources) b.comprehension (tables_of sources))
    (resolved (scope_of (items_of sources)) condition emits)) (each_or_none (item_relation files env) items)
relation_fault rule number files env (tree.UnionAll o p) =
    option_and_then (λ (t : RelationState). if too_many t.rows then Some (fault.TooManyRows number) else None)
    (relation_of files env (tree.UnionAll o p))
relation_fault rule number files env _ = None

-- the fault of a statement of this number
abbrev pub statement_fault : FaultRule → ℕ → List File → RelationEnvironment → StatementTree
    → Option RunFault
statement_fault rule number files env (tree.Assign name r) = relation_fault rule number files env r
statement_fault rule number files env _ = None

-- one rule for all statements
abbrev pub in_each : FaultRule → ℕ → FaultRule
in_each rule number = rule

-- the first fault of a needed statement of the rest, whose first statement has this number, where
-- each has its rule
abbrev pub fault_from : (ℕ → FaultRule) → List File → ℕ → RelationEnvironment
    → List StatementTree → Option RunFault
fault_from rules files number env [] = None
fault_from rules files number env (s ∷ rest) =
    let own = if is_needed s rest then statement_fault (rules number) number files env s else None in
    if is_some own then own else fault_from rules files (suc number) (after files env s) rest

-- the fault of the first needed statement that has one; statements are numbered from 1
abbrev pub run_fault : (ℕ → FaultRule) → List File → List StatementTree → Option RunFault
run_fault rules files script = fault_from rules files 1 nothing_yet script
