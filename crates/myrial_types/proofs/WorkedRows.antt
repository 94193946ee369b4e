-- Worked rows of typing, computed from the definitions: what a script comes to, and the files that it needs. A wrong kind, a
-- kind that is looked for in a part of a statement before an earlier kind in the whole, a wrong source or a wrong class does
-- not check. Over files of these columns:
--
--   R x:int,y:int    S x:int,z:string    B b:boolean,s:string,n:int    D a:int,a:int,b:int    W c0 to c8:int
use Rattle.std.proofs.Common.{◌≡◌, ℕ, true, false, List, [], ◌∷◌, Some, None, refl}
use Rattle.std.specs.Prelude.{pos, codes, Ok, Err}
use Rattle.std.specs.Fmt.{digits}
use Rattle.rel_base.specs.declared.values.Value.TheVariants as value
use Rattle.rel_base.specs.declared.values.ColType.{ColType}
use Rattle.rel_base.specs.declared.values.ColType.TheVariants as kind
use Rattle.rel_base.specs.declared.names.Key.{Key}
use Rattle.rel_base.specs.declared.relations.Column.{Column}
use Rattle.rel_base.specs.Keys.{File}
use Rattle.myrial_ast.specs.Loads.{load_key}
use Rattle.myrial_ast.specs.declared.relations.FromItem.{FromItem}
use Rattle.myrial_ast.specs.declared.relations.LoadForm.{LoadForm}
use Rattle.myrial_ast.specs.declared.relations.Operand.{Operand}
use Rattle.myrial_ast.specs.declared.relations.Operand.TheVariants as operand
use Rattle.myrial_ast.specs.declared.expressions.ColRef.TheVariants as ref
use Rattle.myrial_ast.specs.declared.operators.BinOp.TheVariants as op
use Rattle.myrial_ast.specs.declared.operators.AggOp.TheVariants as agg
use Rattle.myrial_ast.specs.Scalars as scalar
use Rattle.myrial_ast.specs.Trees.{Name, Tree, StatementTree, Lit, Col, Bin, Agg, AggAll, All, One, Copy, UnionAll, Diff, From, Assign, Store}
use Rattle.myrial_meaning.specs.Fetches.{fetches}
use Rattle.algebra.specs.declared.terms.Source.TheVariants as source
use Rattle.algebra.specs.Trees as term
use Rattle.myrial_types.specs.declared.faults.TypeFault.TheVariants as refusal
use Rattle.myrial_types.specs.declared.faults.TypeKind.TheVariants as fault
use Rattle.myrial_types.specs.Checking.{checked_of}
use Rattle.myrial_types.specs.Fetching.{are_fetched}

abbrev adhoc : Name → Key
adhoc name = record { user = codes "public"; program = codes "adhoc"; name = name }

abbrev of_type : Name → ColType → Column
of_type name t = record { name = name; kind = t }

abbrev item : Operand → Name → FromItem
item source alias = record { source = source; alias = alias }

-- a file without rows
abbrev columns : Key → List Column → File
columns key schema = (key, record { schema = schema; rows = [] })

abbrev file_R : File
file_R = columns (adhoc (codes "R")) ((of_type (codes "x") kind.Int) ∷ (of_type (codes "y") kind.Int) ∷ [])

abbrev file_S : File
file_S = columns (adhoc (codes "S")) ((of_type (codes "x") kind.Int) ∷ (of_type (codes "z") kind.Str) ∷ [])

abbrev file_D : File
file_D = columns (adhoc (codes "D")) ((of_type (codes "a") kind.Int) ∷ (of_type (codes "a") kind.Int) ∷ (of_type (codes "b") kind.Int) ∷ [])

abbrev file_B : File
file_B = columns (adhoc (codes "B")) ((of_type (codes "b") kind.Bool) ∷ (of_type (codes "s") kind.Str) ∷ (of_type (codes "n") kind.Int) ∷ [])

abbrev file_W : File
file_W = columns (adhoc (codes "W")) ((of_type (codes "c0") kind.Int) ∷ (of_type (codes "c1") kind.Int) ∷ (of_type (codes "c2") kind.Int) ∷ (of_type (codes "c3") kind.Int) ∷ (of_type (codes "c4") kind.Int) ∷ (of_type (codes "c5") kind.Int) ∷ (of_type (codes "c6") kind.Int) ∷ (of_type (codes "c7") kind.Int) ∷ (of_type (codes "c8") kind.Int) ∷ [])

abbrev file_load_p_txt_0 : File
file_load_p_txt_0 = columns (record { user = []; program = []; name = (codes "p.txt") }) ((of_type (codes "n") kind.Str) ∷ (of_type (codes "k") kind.Int) ∷ [])

abbrev file_load_p_2 : File
file_load_p_2 = columns (record { user = []; program = []; name = (codes "p") }) ((of_type (codes "k") kind.Int) ∷ [])

-- A = [from scan(R) as r emit r.nosuch, q.x];
pub row-relation_before_column : checked_of (file_R ∷ [])
    (Assign (codes "A") (From (item (operand.Scan (adhoc (codes "R"))) (codes "r") ∷ []) None (One (Col (ref.OfName (codes "r") (codes "nosuch"))) None ∷ One (Col (ref.OfName (codes "q") (codes "x"))) None ∷ [])) ∷ [])
    ≡ Err (refusal.At 1 fault.UnknownRelation)
row-relation_before_column = refl

-- A = [from scan(R) where count(nosuch) = 1 emit x];
pub row-column_before_misplaced : checked_of (file_R ∷ [])
    (Assign (codes "A") (From (item (operand.Scan (adhoc (codes "R"))) (codes "R") ∷ []) (Some (Bin op.Eq (Agg agg.Count (Col (ref.ByName (codes "nosuch")))) (Lit (value.Int (pos 1))))) (One (Col (ref.ByName (codes "x"))) None ∷ [])) ∷ [])
    ≡ Err (refusal.At 1 fault.UnknownColumn)
row-column_before_misplaced = refl

-- A = [from scan(R) as t, scan(R) as t emit t.$3];
pub row-place_under_doubled_alias : checked_of (file_R ∷ [])
    (Assign (codes "A") (From (item (operand.Scan (adhoc (codes "R"))) (codes "t") ∷ item (operand.Scan (adhoc (codes "R"))) (codes "t") ∷ []) None (One (Col (ref.OfPlace (codes "t") 3)) None ∷ [])) ∷ [])
    ≡ Err (refusal.At 1 fault.UnknownColumn)
row-place_under_doubled_alias = refl

-- A = [from scan(R) as t, scan(S) as t emit t.$1];
pub row-alias_twice_and_place : checked_of (file_R ∷ file_S ∷ [])
    (Assign (codes "A") (From (item (operand.Scan (adhoc (codes "R"))) (codes "t") ∷ item (operand.Scan (adhoc (codes "S"))) (codes "t") ∷ []) None (One (Col (ref.OfPlace (codes "t") 1)) None ∷ [])) ∷ [])
    ≡ Err (refusal.At 1 fault.AmbiguousColumn)
row-alias_twice_and_place = refl

-- A = [from scan(D) as d emit d.a];
pub row-ambiguous_under_alias : checked_of (file_D ∷ [])
    (Assign (codes "A") (From (item (operand.Scan (adhoc (codes "D"))) (codes "d") ∷ []) None (One (Col (ref.OfName (codes "d") (codes "a"))) None ∷ [])) ∷ [])
    ≡ Err (refusal.At 1 fault.AmbiguousColumn)
row-ambiguous_under_alias = refl

-- A = [from scan(R), scan(R) emit 1];
pub row-alias_twice : checked_of (file_R ∷ [])
    (Assign (codes "A") (From (item (operand.Scan (adhoc (codes "R"))) (codes "R") ∷ item (operand.Scan (adhoc (codes "R"))) (codes "R") ∷ []) None (One (Lit (value.Int (pos 1))) None ∷ [])) ∷ [])
    ≡ Err (refusal.At 1 fault.AmbiguousColumn)
row-alias_twice = refl

-- A = [from scan(R) where count(*) emit x];
pub row-condition_count : checked_of (file_R ∷ [])
    (Assign (codes "A") (From (item (operand.Scan (adhoc (codes "R"))) (codes "R") ∷ []) (Some (AggAll agg.CountAll)) (One (Col (ref.ByName (codes "x"))) None ∷ [])) ∷ [])
    ≡ Err (refusal.At 1 fault.TypeMismatch)
row-condition_count = refl

-- A = [from scan(R) emit count(*) + 1, x = 'a'];
pub row-mismatch_before_misplaced_elsewhere : checked_of (file_R ∷ [])
    (Assign (codes "A") (From (item (operand.Scan (adhoc (codes "R"))) (codes "R") ∷ []) None (One (Bin op.Add (AggAll agg.CountAll) (Lit (value.Int (pos 1)))) None ∷ One (Bin op.Eq (Col (ref.ByName (codes "x"))) (Lit (value.Str (codes "a")))) None ∷ [])) ∷ [])
    ≡ Err (refusal.At 1 fault.TypeMismatch)
row-mismatch_before_misplaced_elsewhere = refl

-- A = [from scan(B) emit sum(s)];
pub row-sum_of_strings : checked_of (file_B ∷ [])
    (Assign (codes "A") (From (item (operand.Scan (adhoc (codes "B"))) (codes "B") ∷ []) None (One (Agg agg.Sum (Col (ref.ByName (codes "s")))) None ∷ [])) ∷ [])
    ≡ Err (refusal.At 1 fault.TypeMismatch)
row-sum_of_strings = refl

-- A = unionall(scan(R), scan(S));
pub row-union_of_types : checked_of (file_R ∷ file_S ∷ [])
    (Assign (codes "A") (UnionAll (operand.Scan (adhoc (codes "R"))) (operand.Scan (adhoc (codes "S")))) ∷ [])
    ≡ Err (refusal.At 1 fault.TypeMismatch)
row-union_of_types = refl

-- A = [from scan(B) where min(s) = 'a' emit n];
pub row-min_in_condition : checked_of (file_B ∷ [])
    (Assign (codes "A") (From (item (operand.Scan (adhoc (codes "B"))) (codes "B") ∷ []) (Some (Bin op.Eq (Agg agg.Min (Col (ref.ByName (codes "s")))) (Lit (value.Str (codes "a"))))) (One (Col (ref.ByName (codes "n"))) None ∷ [])) ∷ [])
    ≡ Err (refusal.At 1 fault.Misplaced)
row-min_in_condition = refl

-- A = [from scan(R) emit sum(count(*))];
pub row-sum_of_count : checked_of (file_R ∷ [])
    (Assign (codes "A") (From (item (operand.Scan (adhoc (codes "R"))) (codes "R") ∷ []) None (One (Agg agg.Sum (AggAll agg.CountAll)) None ∷ [])) ∷ [])
    ≡ Err (refusal.At 1 fault.Misplaced)
row-sum_of_count = refl

-- A = [from scan(W) as a, scan(W) as b emit *];
pub row-eighteen_columns : checked_of (file_W ∷ [])
    (Assign (codes "A") (From (item (operand.Scan (adhoc (codes "W"))) (codes "a") ∷ item (operand.Scan (adhoc (codes "W"))) (codes "b") ∷ []) None (All ∷ [])) ∷ [])
    ≡ Err (refusal.At 1 fault.Limit)
row-eighteen_columns = refl

-- Z = scan(R); A = scan(S); store(A, R); B = [from scan(R) emit z]; C = [from scan(R) emit y];
pub row-stored_key : checked_of (file_R ∷ file_S ∷ [])
    (Assign (codes "Z") (Copy (operand.Scan (adhoc (codes "R")))) ∷ Assign (codes "A") (Copy (operand.Scan (adhoc (codes "S")))) ∷ Store (codes "A") (adhoc (codes "R")) ∷ Assign (codes "B") (From (item (operand.Scan (adhoc (codes "R"))) (codes "R") ∷ []) None (One (Col (ref.ByName (codes "z"))) None ∷ [])) ∷ Assign (codes "C") (From (item (operand.Scan (adhoc (codes "R"))) (codes "R") ∷ []) None (One (Col (ref.ByName (codes "y"))) None ∷ [])) ∷ [])
    ≡ Err (refusal.At 5 fault.UnknownColumn)
row-stored_key = refl

-- A = load("p.txt", csv(schema(n:string, k:int))); B = load("p.txt", csv(schema(n:string, k:int), skip=1)); store(B, Out);
pub row-load_conflict_of_skip : checked_of (file_load_p_txt_0 ∷ [])
    (Assign (codes "A") (Copy (operand.Load (codes "p.txt") ((of_type (codes "n") kind.Str) ∷ (of_type (codes "k") kind.Int) ∷ []) 0)) ∷ Assign (codes "B") (Copy (operand.Load (codes "p.txt") ((of_type (codes "n") kind.Str) ∷ (of_type (codes "k") kind.Int) ∷ []) 1)) ∷ Store (codes "B") (adhoc (codes "Out")) ∷ [])
    ≡ Err (refusal.At 2 fault.LoadConflict)
row-load_conflict_of_skip = refl

-- A = [from load("p", csv(schema(k:int))) as a, load("p", csv(schema(k:int), skip=1)) as b emit a.k];
pub row-load_conflict_within : checked_of (file_load_p_2 ∷ [])
    (Assign (codes "A") (From (item (operand.Load (codes "p") ((of_type (codes "k") kind.Int) ∷ []) 0) (codes "a") ∷ item (operand.Load (codes "p") ((of_type (codes "k") kind.Int) ∷ []) 1) (codes "b") ∷ []) None (One (Col (ref.OfName (codes "a") (codes "k"))) None ∷ [])) ∷ [])
    ≡ Err (refusal.At 1 fault.LoadConflict)
row-load_conflict_within = refl

-- A = load("p", csv(schema(k:int))); B = [from load("p", csv(schema(w:int))) as p emit k];
pub row-column_before_conflict : checked_of (file_load_p_2 ∷ [])
    (Assign (codes "A") (Copy (operand.Load (codes "p") ((of_type (codes "k") kind.Int) ∷ []) 0)) ∷ Assign (codes "B") (From (item (operand.Load (codes "p") ((of_type (codes "w") kind.Int) ∷ []) 0) (codes "p") ∷ []) None (One (Col (ref.ByName (codes "k"))) None ∷ [])) ∷ [])
    ≡ Err (refusal.At 2 fault.UnknownColumn)
row-column_before_conflict = refl

-- ---- steps

-- two names with an equality between them
abbrev equals : Tree → Tree → Tree
equals left right = Bin op.Eq left right

abbrev column_of : Name → Name → Tree
column_of alias name = Col (ref.OfName alias name)

-- an equality under `or` makes no class, and a class may go through a third item:
-- J = [from scan(R) as a, scan(S) as b, scan(R) as c where a.x = b.x and b.x = c.y and (a.y = b.x or a.y = c.x) emit a.y, count(*)];
abbrev through_third : List StatementTree
through_third =
    Assign (codes "J") (From
    (item (operand.Scan (adhoc (codes "R"))) (codes "a") ∷ item (operand.Scan (adhoc (codes "S"))) (codes "b") ∷ item (operand.Scan (adhoc (codes "R"))) (codes "c") ∷ [])
    (Some (Bin op.And (Bin op.And (equals (column_of (codes "a") (codes "x")) (column_of (codes "b") (codes "x"))) (equals (column_of (codes "b") (codes "x")) (column_of (codes "c") (codes "y"))))
    (Bin op.Or (equals (column_of (codes "a") (codes "y")) (column_of (codes "b") (codes "x"))) (equals (column_of (codes "a") (codes "y")) (column_of (codes "c") (codes "x"))))))
    (One (column_of (codes "a") (codes "y")) None ∷ One (AggAll agg.CountAll) None ∷ [])) ∷ []

abbrev same : ℕ → ℕ → scalar.Scalar
same a b = scalar.Bin op.Eq (scalar.At a) (scalar.At b)

pub checked-through_third : checked_of (file_R ∷ file_S ∷ []) through_third ≡ Ok (record {
  steps = record {
    statement = 1;
    schema = of_type (codes "y") kind.Int ∷ of_type (codes "_COLUMN1_") kind.Int ∷ [];
    term = term.Group (record {
      atoms = record { kinds = kind.Int ∷ kind.Int ∷ []; keeps = [] } ∷ record { kinds = kind.Int ∷ kind.Str ∷ []; keeps = [] } ∷ record { kinds = kind.Int ∷ kind.Int ∷ []; keeps = [] } ∷ [];
      variables = (0 ∷ 2 ∷ 5 ∷ []) ∷ [];
      plain = same 0 2 ∷ same 2 5 ∷ scalar.Bin op.Or (same 1 2) (same 1 4) ∷ [];
      arith = [];
      emits = scalar.At 1 ∷ scalar.Lit (value.Bool true) ∷ [];
    }) (source.File 0 ∷ source.File 1 ∷ source.File 0 ∷ []) (None ∷ Some agg.CountAll ∷ []);
  } ∷ [];
  stores = [];
})
unfolding digits
checked-through_third = refl

-- ---- loads

abbrev two_columns : List Column
two_columns = of_type (codes "n") kind.Str ∷ of_type (codes "k") kind.Int ∷ []

abbrev form : List Column → ℕ → LoadForm
form schema skip = record { schema = schema; skip = skip }

-- A = scan(R); store(A, p); B = unionall(scan(p), load("q", csv(schema(n:string, k:int), skip=2)));
-- C = diff(load("p", csv(schema(n:string, k:int))), scan(S)); D = distinct(load("q", csv(schema(k:int))));
abbrev loads_some : List StatementTree
loads_some =
    Assign (codes "A") (Copy (operand.Scan (adhoc (codes "R")))) ∷ Store (codes "A") (adhoc (codes "p"))
    ∷ Assign (codes "B") (UnionAll (operand.Scan (adhoc (codes "p"))) (operand.Load (codes "q") two_columns 2))
    ∷ Assign (codes "C") (Diff (operand.Load (codes "p") two_columns 0) (operand.Scan (adhoc (codes "S"))))
    ∷ Assign (codes "D") (Copy (operand.Load (codes "q") (of_type (codes "k") kind.Int ∷ []) 0)) ∷ []

-- R, q, p and S, each once: a stored key is not fetched, the file `p` is, and the form of `q` is that of its first load
pub fetches-some : fetches loads_some
    ≡ record { key = adhoc (codes "R"); form = None } ∷ record { key = load_key (codes "q"); form = Some (form two_columns 2) }
    ∷ record { key = load_key (codes "p"); form = Some (form two_columns 0) } ∷ record { key = adhoc (codes "S"); form = None } ∷ []
fetches-some = refl

-- A = scan(R); store(A, p); B = load("p", csv(schema(n:string, k:int))); store(B, p); C = scan(p); store(C, Out);
abbrev loads_stored : List StatementTree
loads_stored =
    Assign (codes "A") (Copy (operand.Scan (adhoc (codes "R")))) ∷ Store (codes "A") (adhoc (codes "p"))
    ∷ Assign (codes "B") (Copy (operand.Load (codes "p") two_columns 0)) ∷ Store (codes "B") (adhoc (codes "p"))
    ∷ Assign (codes "C") (Copy (operand.Scan (adhoc (codes "p")))) ∷ Store (codes "C") (adhoc (codes "Out")) ∷ []

abbrev two_files : List File
two_files = file_R ∷ columns (load_key (codes "p")) two_columns ∷ []

-- a load stands for its file, whatever was stored, and a stored key for its latest store
pub checked-stored : checked_of two_files loads_stored ≡ Ok (record {
  steps =
      record { statement = 1; schema = of_type (codes "x") kind.Int ∷ of_type (codes "y") kind.Int ∷ []; term = term.Same (source.File 0) }
      ∷ record { statement = 3; schema = two_columns; term = term.Same (source.File 1) }
      ∷ record { statement = 5; schema = two_columns; term = term.Same (source.Result 3) } ∷ [];
  stores =
      record { statement = 2; key = adhoc (codes "p"); source = source.Result 1 }
      ∷ record { statement = 4; key = adhoc (codes "p"); source = source.Result 3 }
      ∷ record { statement = 6; key = adhoc (codes "Out"); source = source.Result 5 } ∷ [];
})
checked-stored = refl

-- the files are those that are needed and no others, and a loaded one has the columns of its form
pub fetched-stored : are_fetched two_files loads_stored ≡ true
fetched-stored = refl

pub fetched-wrong_columns : are_fetched (file_R ∷ columns (load_key (codes "p")) (of_type (codes "n") kind.Str ∷ []) ∷ []) loads_stored ≡ false
fetched-wrong_columns = refl
