-- The worked scripts, computed from the definitions.
use Rattle.std.proofs.Common.{◌≡◌, ℕ, true, false, List, [], ◌∷◌, Option, Some, None, refl}
use Rattle.std.specs.Prelude.{pos, map, codes}
use Rattle.std.specs.Fmt.{digits}
use Rattle.rel_base.specs.declared.values.Value.{Value}
use Rattle.rel_base.specs.declared.values.Value.TheVariants as value
use Rattle.rel_base.specs.declared.values.ColType.TheVariants as kind
use Rattle.rel_base.specs.declared.names.Key.{Key}
use Rattle.rel_base.specs.declared.relations.Column.{Column}
use Rattle.rel_base.specs.declared.faults.RunFault.{RunFault}
use Rattle.rel_base.specs.declared.faults.RunFault.TheVariants as fault
use Rattle.rel_base.specs.Keys.{File}
use Rattle.rel_base.specs.Relations.{RelationState}
use Rattle.myrial_ast.specs.declared.relations.FromItem.{FromItem}
use Rattle.myrial_ast.specs.declared.relations.Operand.{Operand}
use Rattle.myrial_ast.specs.declared.relations.Operand.TheVariants as operand
use Rattle.myrial_ast.specs.declared.expressions.ColRef.TheVariants as ref
use Rattle.myrial_ast.specs.declared.operators.BinOp.TheVariants as op
use Rattle.myrial_ast.specs.declared.operators.AggOp.TheVariants as agg
use Rattle.myrial_ast.specs.Scalars as scalar
use Rattle.myrial_ast.specs.Trees.{Name, Tree, EmitTree, RelTree, StatementTree, Lit, Col, Bin, Agg, AggAll, One, Copy, Empty, Distinct, UnionAll, Diff, From, Assign, Store, Nothing}
use Rattle.myrial_ast.specs.Loads.{load_key}
use Rattle.myrial_ast.specs.CandidateFaults.{Counted, joins_alone}
use Rattle.myrial_meaning.specs.Meaning.{stored_relations}
use Rattle.myrial_meaning.specs.Needed.{is_needed}
use Rattle.myrial_meaning.specs.Fetches.{fetched_keys, fetches}
use Rattle.myrial_meaning.specs.Faults.{in_each, run_fault}
use Rattle.myrial_meaning.specs.Runnable.{has_meaning}
use Rattle.myrial_meaning.specs.inner.BoundTests.{may_begin}

-- ---- shorter words for the examples

abbrev adhoc : Name → Key
adhoc name = record { user = codes "public"; program = codes "adhoc"; name = name }

abbrev numbers : List ℕ → List Value
numbers ns = map (λ n. value.Int (pos n)) ns

abbrev int_columns : List Name → List Column
int_columns names = map (λ name. record { name = name; kind = kind.Int }) names

abbrev table : List Name → List (List ℕ) → RelationState
table names rows = record { schema = int_columns names; rows = map numbers rows }

abbrev scanned : Name → Operand
scanned name = operand.Scan (adhoc name)

abbrev item : Operand → Name → FromItem
item source alias = record { source = source; alias = alias }

abbrev column : Name → Name → Tree
column alias name = Col (ref.OfName alias name)

abbrev emitted : Tree → EmitTree
emitted e = One e None

abbrev file : Name → RelationState → File
file name t = (adhoc name, t)

-- ---- a relation joined with itself

-- R = x,y: 1,2 / 2,3 / 2,3 / 3,1
abbrev edges : List File
edges = file (codes "R") (table (codes "x" ∷ codes "y" ∷ []) ((1 ∷ 2 ∷ []) ∷ (2 ∷ 3 ∷ []) ∷ (2 ∷ 3 ∷ []) ∷ (3 ∷ 1 ∷ []) ∷ [])) ∷ []

-- J = [from scan(R) as a, scan(R) as b where a.y = b.x emit a.x, b.y]; store(J, Out);
abbrev two_edges : List StatementTree
two_edges =
    Assign (codes "J") (From (item (scanned (codes "R")) (codes "a") ∷ item (scanned (codes "R")) (codes "b") ∷ [])
    (Some (Bin op.Eq (column (codes "a") (codes "y")) (column (codes "b") (codes "x"))))
    (emitted (column (codes "a") (codes "x")) ∷ emitted (column (codes "b") (codes "y")) ∷ []))
    ∷ Store (codes "J") (adhoc (codes "Out")) ∷ []

pub stored-two_edges : stored_relations edges two_edges
    ≡ file (codes "Out") (table (codes "x" ∷ codes "y" ∷ []) ((1 ∷ 3 ∷ []) ∷ (1 ∷ 3 ∷ []) ∷ (2 ∷ 1 ∷ []) ∷ (2 ∷ 1 ∷ []) ∷ (3 ∷ 2 ∷ []) ∷ [])) ∷ []
stored-two_edges = refl

pub fault-two_edges : run_fault (in_each (record { prefixes = Counted; reduce = false })) edges two_edges ≡ None
fault-two_edges = refl

-- each row has a partner, so that the reduced rows are all
pub fault-reduced : run_fault (in_each (record { prefixes = Counted; reduce = true })) edges two_edges ≡ None
fault-reduced = refl

pub meaning-two_edges : has_meaning edges two_edges ≡ true
meaning-two_edges = refl

-- a column that isn't there means nothing
pub meaning-without_a_file : has_meaning [] two_edges ≡ false
meaning-without_a_file = refl

-- bags of other column types are not put together, nor taken from one another
abbrev with_flags : RelTree → List StatementTree
with_flags r = Assign (codes "A") (Empty (record { name = codes "x"; kind = kind.Int } ∷ record { name = codes "b"; kind = kind.Bool } ∷ [])) ∷ Assign (codes "B") r ∷ []

pub meaning-other_types : has_meaning edges (with_flags (UnionAll (scanned (codes "R")) (operand.Named (codes "A")))) ≡ false
meaning-other_types = refl

pub meaning-same_types : has_meaning edges (with_flags (Diff (scanned (codes "R")) (scanned (codes "R")))) ≡ true
meaning-same_types = refl

-- ---- what a name and a key stand for

-- S = x: 1 / 1 / 2
abbrev singles : List File
singles = file (codes "S") (table (codes "x" ∷ []) ((1 ∷ []) ∷ (1 ∷ []) ∷ (2 ∷ []) ∷ [])) ∷ []

-- A = scan(S); A = distinct(A); store(A, Out); -- a later assignment hides an earlier one
pub stored-hidden : stored_relations singles
    (Assign (codes "A") (Copy (scanned (codes "S"))) ∷ Assign (codes "A") (Distinct (operand.Named (codes "A"))) ∷ Store (codes "A") (adhoc (codes "Out")) ∷ [])
    ≡ file (codes "Out") (table (codes "x" ∷ []) ((1 ∷ []) ∷ (2 ∷ []) ∷ [])) ∷ []
stored-hidden = refl

-- A = scan(S); store(A, K); B = scan(K); store(B, L); -- a stored key is scanned again, though there is no such file
abbrev scanned_again : List StatementTree
scanned_again =
    Assign (codes "A") (Copy (scanned (codes "S"))) ∷ Store (codes "A") (adhoc (codes "K"))
    ∷ Assign (codes "B") (Copy (scanned (codes "K"))) ∷ Store (codes "B") (adhoc (codes "L")) ∷ []

pub stored-scanned_again : stored_relations singles scanned_again
    ≡ file (codes "K") (table (codes "x" ∷ []) ((1 ∷ []) ∷ (1 ∷ []) ∷ (2 ∷ []) ∷ []))
    ∷ file (codes "L") (table (codes "x" ∷ []) ((1 ∷ []) ∷ (1 ∷ []) ∷ (2 ∷ []) ∷ [])) ∷ []
stored-scanned_again = refl

-- a stored key hides its file, and the latest store of it an earlier one
pub stored-over_a_file : stored_relations singles
    (Assign (codes "A") (Diff (scanned (codes "S")) (scanned (codes "S"))) ∷ Store (codes "A") (adhoc (codes "S"))
    ∷ Assign (codes "B") (Copy (scanned (codes "S"))) ∷ Store (codes "B") (adhoc (codes "L")) ∷ [])
    ≡ file (codes "S") (table (codes "x" ∷ []) []) ∷ file (codes "L") (table (codes "x" ∷ []) []) ∷ []
stored-over_a_file = refl

-- ---- needed statements

-- P = v: 9223372036854775807
abbrev largest : List File
largest = file (codes "P") (table (codes "v" ∷ []) ((9223372036854775807 ∷ []) ∷ [])) ∷ []

-- N = [from scan(P) as p emit p.v + p.v]; -- overflows
abbrev overflowing : StatementTree
overflowing =
    Assign (codes "N") (From (item (scanned (codes "P")) (codes "p") ∷ []) None
    (emitted (Bin op.Add (column (codes "p") (codes "v")) (column (codes "p") (codes "v"))) ∷ []))

abbrev copied : StatementTree
copied = Assign (codes "A") (Copy (scanned (codes "P")))

-- a statement whose value no store needs has no fault
pub fault-unneeded : run_fault (in_each joins_alone) largest (overflowing ∷ copied ∷ Store (codes "A") (adhoc (codes "Out")) ∷ []) ≡ None
fault-unneeded = refl

pub fault-needed : run_fault (in_each joins_alone) largest (Nothing ∷ overflowing ∷ Store (codes "N") (adhoc (codes "Out")) ∷ []) ≡ Some (fault.Overflow 2)
fault-needed = refl

-- a value that is assigned anew before it is used isn't needed
pub needed-assigned_anew : is_needed overflowing (Assign (codes "N") (Copy (scanned (codes "P"))) ∷ Store (codes "N") (adhoc (codes "Out")) ∷ []) ≡ false
needed-assigned_anew = refl

-- it is needed where the new value is made of it, and stored
pub needed-through_another : is_needed overflowing (Assign (codes "N") (Distinct (operand.Named (codes "N"))) ∷ Store (codes "N") (adhoc (codes "Out")) ∷ []) ≡ true
needed-through_another = refl

-- but not where that one isn't needed
pub needed-by_no_store : is_needed overflowing (Assign (codes "B") (Distinct (operand.Named (codes "N"))) ∷ []) ≡ false
needed-by_no_store = refl

-- ---- names of columns

-- [from scan(S) as s emit s.x + 1, count(*)]: columns without a name are numbered by their places
pub stored-numbered_columns : stored_relations singles
    (Assign (codes "C") (From (item (scanned (codes "S")) (codes "s") ∷ []) None (emitted (column (codes "s") (codes "x")) ∷ emitted (AggAll agg.CountAll) ∷ []))
    ∷ Store (codes "C") (adhoc (codes "Out")) ∷ [])
    ≡ file (codes "Out") (table (codes "x" ∷ codes "_COLUMN1_" ∷ []) ((1 ∷ 2 ∷ []) ∷ (2 ∷ 1 ∷ []) ∷ [])) ∷ []
unfolding digits
stored-numbered_columns = refl

-- a name that two columns have means neither
pub meaning-two_columns_of_a_name : has_meaning edges
    (Assign (codes "J") (From (item (scanned (codes "R")) (codes "a") ∷ item (scanned (codes "R")) (codes "b") ∷ []) None (emitted (Col (ref.ByName (codes "x"))) ∷ [])) ∷ []) ≡ false
meaning-two_columns_of_a_name = refl

-- ---- the latest store of a key

-- T = x: 7
abbrev with_seven : List File
with_seven = file (codes "T") (table (codes "x" ∷ []) ((7 ∷ []) ∷ [])) ∷ singles

-- A = scan(S); store(A, K); B = scan(T); store(B, K); C = scan(K); store(C, L); -- the latest store hides the earlier one
pub stored-latest : stored_relations with_seven
    (Assign (codes "A") (Copy (scanned (codes "S"))) ∷ Store (codes "A") (adhoc (codes "K")) ∷ Assign (codes "B") (Copy (scanned (codes "T")))
    ∷ Store (codes "B") (adhoc (codes "K")) ∷ Assign (codes "C") (Copy (scanned (codes "K"))) ∷ Store (codes "C") (adhoc (codes "L")) ∷ [])
    ≡ file (codes "K") (table (codes "x" ∷ []) ((1 ∷ []) ∷ (1 ∷ []) ∷ (2 ∷ []) ∷ []))
    ∷ file (codes "K") (table (codes "x" ∷ []) ((7 ∷ []) ∷ []))
    ∷ file (codes "L") (table (codes "x" ∷ []) ((7 ∷ []) ∷ [])) ∷ []
stored-latest = refl

-- ---- faults of a run

-- P = v: 9223372036854775807 / 1
abbrev large_and_one : List File
large_and_one = file (codes "P") (table (codes "v" ∷ []) ((9223372036854775807 ∷ []) ∷ (1 ∷ []) ∷ [])) ∷ []

abbrev from_p : List EmitTree → Option Tree → StatementTree
from_p emits condition = Assign (codes "N") (From (item (scanned (codes "P")) (codes "p") ∷ []) condition emits)

abbrev fault_of : List EmitTree → Option Tree → Option RunFault
fault_of emits condition = run_fault (in_each joins_alone) large_and_one (from_p emits condition ∷ Store (codes "N") (adhoc (codes "Out")) ∷ [])

abbrev v : Tree
v = column (codes "p") (codes "v")

abbrev one : Tree
one = Lit (value.Int (pos 1))

-- emit v + v where v + 0 = 1: the sum that doesn't fit is not emitted, since the arithmetic doesn't hold there
pub fault-not_emitted : fault_of (emitted (Bin op.Add v v) ∷ []) (Some (Bin op.Eq (Bin op.Add v (Lit (value.Int (pos 0)))) one)) ≡ None
fault-not_emitted = refl

-- where it holds it is emitted, and where the arithmetic itself doesn't fit the run ends too
pub fault-emitted : fault_of (emitted (Bin op.Add v v) ∷ []) None ≡ Some (fault.Overflow 1)
fault-emitted = refl

pub fault-arithmetic : fault_of (emitted v ∷ []) (Some (Bin op.Eq (Bin op.Add v one) one)) ≡ Some (fault.Overflow 1)
fault-arithmetic = refl

-- emit sum(v): no listed value overflows, and their sum does
pub fault-aggregate : fault_of (emitted (Agg agg.Sum v) ∷ []) None ≡ Some (fault.AggregateOverflow 1)
fault-aggregate = refl

-- emit sum(v), v + 1: an overflow is told before that of an aggregate
pub fault-overflow_first : fault_of (emitted (Agg agg.Sum v) ∷ emitted (Bin op.Add v one) ∷ []) None ≡ Some (fault.Overflow 1)
fault-overflow_first = refl

-- ---- the files that are needed

-- A = scan(S); store(A, K); B = [from scan(K) as k, scan(S) as s, scan(T) as t emit k.x]; C = unionall(scan(T), scan(K));
pub fetched-keys : fetched_keys
    (Assign (codes "A") (Copy (scanned (codes "S"))) ∷ Store (codes "A") (adhoc (codes "K"))
    ∷ Assign (codes "B") (From (item (scanned (codes "K")) (codes "k") ∷ item (scanned (codes "S")) (codes "s") ∷ item (scanned (codes "T")) (codes "t") ∷ []) None
    (emitted (column (codes "k") (codes "x")) ∷ []))
    ∷ Assign (codes "C") (UnionAll (scanned (codes "T")) (scanned (codes "K"))) ∷ [])
    ≡ adhoc (codes "S") ∷ adhoc (codes "T") ∷ []
fetched-keys = refl

-- a key that is stored after its scan has a file to be read; one that a name stands for has none
pub fetched-before_store : fetched_keys
    (Assign (codes "A") (Copy (scanned (codes "S"))) ∷ Assign (codes "B") (Distinct (operand.Named (codes "A"))) ∷ Store (codes "B") (adhoc (codes "S"))
    ∷ Assign (codes "C") (Copy (scanned (codes "S"))) ∷ []) ≡ adhoc (codes "S") ∷ []
fetched-before_store = refl

-- ---- loaded files

abbrev loaded : Name → List Name → ℕ → Operand
loaded name columns skip = operand.Load name (int_columns columns) skip

-- A = load("S", csv(schema(x:int), skip=1)); store(A, K); B = [from load("K", csv(schema(y:int))) as k, scan(K) as l, scan(S) as s
-- emit k.y]; C = load("S", csv(schema(z:int))): a load has a file of its own, whatever is scanned or stored, and the form of its first load
abbrev loads_and_scans : List StatementTree
loads_and_scans =
    Assign (codes "A") (Copy (loaded (codes "S") (codes "x" ∷ []) 1)) ∷ Store (codes "A") (adhoc (codes "K"))
    ∷ Assign (codes "B") (From (item (loaded (codes "K") (codes "y" ∷ []) 0) (codes "k") ∷ item (scanned (codes "K")) (codes "l") ∷ item (scanned (codes "S")) (codes "s") ∷ []) None
    (emitted (column (codes "k") (codes "y")) ∷ []))
    ∷ Assign (codes "C") (Copy (loaded (codes "S") (codes "z" ∷ []) 0)) ∷ []

pub fetched-loads : fetches loads_and_scans
    ≡ record { key = load_key (codes "S"); form = Some (record { schema = int_columns (codes "x" ∷ []); skip = 1 }) }
    ∷ record { key = load_key (codes "K"); form = Some (record { schema = int_columns (codes "y" ∷ []); skip = 0 }) }
    ∷ record { key = adhoc (codes "S"); form = None } ∷ []
fetched-loads = refl

-- A = load("S", csv(schema(x:int))); store(A, Out); -- the loaded file, though a file is scanned under this name
pub stored-loaded : stored_relations (file (codes "S") (table (codes "x" ∷ []) ((1 ∷ []) ∷ [])) ∷ (load_key (codes "S"), table (codes "x" ∷ []) ((7 ∷ []) ∷ [])) ∷ [])
    (Assign (codes "A") (Copy (loaded (codes "S") (codes "x" ∷ []) 0)) ∷ Store (codes "A") (adhoc (codes "Out")) ∷ [])
    ≡ file (codes "Out") (table (codes "x" ∷ []) ((7 ∷ []) ∷ [])) ∷ []
stored-loaded = refl

-- ---- the first rows of a combination

-- behind x,y: 1,2 a test of y and the next column may still hold
abbrev joins_next : scalar.Scalar
joins_next = scalar.Bin op.Eq (scalar.At 1) (scalar.At 2)

pub may_begin-unbound : may_begin (joins_next ∷ []) (numbers (1 ∷ 2 ∷ [])) ≡ true
may_begin-unbound = refl

-- but x < 1 fails already
pub may_begin-failed : may_begin (joins_next ∷ scalar.Bin op.Lt (scalar.At 0) (scalar.Lit (value.Int (pos 1))) ∷ []) (numbers (1 ∷ 2 ∷ [])) ≡ false
may_begin-failed = refl
