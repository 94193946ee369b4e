-- Worked runs, each proved by computing: what scripts come to over their files.
use Rattle.std.proofs.Common.{◌≡◌, ℕ, true, false, inl, inr, cond, List, [], ◌∷◌, ◌++◌, Some, None, codes, refl, arith}
use Rattle.std.specs.Str.{bytes_eq}
use Rattle.std.proofs.lemmas.List.Elements.{All-cons, All-nil}
use Rattle.std.specs.Fmt.{digits}
use Rattle.relation_csv.specs.declared.faults.RelFault.TheVariants as fault
use Rattle.relation_csv.proofs.OnLiterals.{files_on_literals}
use Rattle.rel_base.specs.declared.names.Key.{Key}
use Rattle.rel_base.specs.declared.values.ColType.TheVariants as type
use Rattle.rel_io.specs.Outside.{Content, Rose, missing, there, untold}
use Rattle.rel_io.specs.Shelves.{CallCounts}
use Rattle.rel_io.specs.declared.shelves.ShelfFault.TheVariants as refusal
use Rattle.algebra.specs.declared.settings.ShuffleKind.{ShuffleKind}
use Rattle.algebra.specs.declared.settings.ShuffleKind.TheVariants as shuffle
use Rattle.algebra.specs.declared.settings.JoinKind.TheVariants as join
use Rattle.clap.proofs.OnLiterals.{clap_on_literals}
use Rattle.share_chooser.specs.Load as load
use Rattle.command_words.specs.Commands.{command}
use Rattle.command_words.specs.Requests.{asked}
use Rattle.command_words.specs.declared.requests.Mode.TheVariants as mode
use Rattle.command_words.specs.declared.requests.Request.{Request}
use Rattle.myrial_ast.specs.Loads.{load_key}
use Rattle.myrial_types.specs.declared.faults.TypeKind.TheVariants as kind
use Rattle.myrial_ast.specs.declared.operators.BinOp.TheVariants as op
use Rattle.myrial_ast.specs.declared.expressions.ColRef.TheVariants as ref
use Rattle.myrial_ast.specs.declared.relations.FromItem.{FromItem}
use Rattle.myrial_ast.specs.declared.relations.Operand.TheVariants as operand
use Rattle.myrial_ast.specs.Trees.{Name, Tree, StatementTree, Nothing, Assign, Store, Copy, Diff, Distinct, From, Bin, Col, One}
use Rattle.exchange_channels.specs.Wirings.{ReceiptState}
use Rattle.myrial_meaning.specs.declared.needed_files.Fetch.{Fetch}
use Rattle.myrial_parser.specs.Pieces.{Syntax, TooMany}
use Rattle.trial_laws.specs.TrialTrees.{trial_trees}
use Rattle.myrial_lexer.specs.declared.faults.LexWhat.TheVariants as lexical
use Rattle.myrial_parser.specs.declared.faults.What.TheVariants as many
use Rattle.myria_top.specs.declared.outcomes.Outcome.TheVariants as outcome
use Rattle.myria_top.specs.Outcomes.{line_of}
use Rattle.myria_top.specs.Reading.{HasFetchCause}
use Rattle.myria_top.specs.EachFile.{Allows, IsFirstBad, MayBeGood}
use Rattle.myria_top.specs.Moves.{HasNoReceipt, IsStill}
use Rattle.myria_top.specs.Verdicts.{Verdict, passes, refused, IfTold}
use Rattle.myria_top.specs.Verdicts as verdict
use Rattle.myria_top.specs.Requests.{script_asked, takes_workers}
use Rattle.myria_top.specs.Runs.{files_verdict, printed_verdict, trial_verdict}
use Rattle.myria_top.specs.Scripts.{ScriptComesTo, TextComesTo, no_script, too_long, short, not_text, bad_token, bad_piece, a_script}

abbrev pub adhoc : Name → Key
adhoc name = record { user = codes "public"; program = codes "adhoc"; name = name }

-- a shelf of one file
abbrev shelf_of : List ℕ → List ℕ → List ℕ → Content
shelf_of file bytes name = cond (bytes_eq name file) (there bytes) missing

-- what words ask for that name a script and nothing else
abbrev usual : Request
usual = record {
  mode = mode.Run;
  settings = record {
    workers = 4;
    capacity = 16;
    batch = 256;
    seed = 0;
    shuffle = shuffle.Hc;
    local = join.Tj;
    reduce = false;
    workers_in_range = (omega arith, omega arith);
    capacity_in_range = (omega arith, omega arith);
    batch_in_range = (omega arith, omega arith);
  };
  plan = false;
  traffic = false;
  size = 1000;
  from = None;
  script = codes "q";
  size_in_range = (omega arith, omega arith);
  plan_named = refl;
}

-- two workers, by this shuffle, with the plan and the traffic
abbrev pub two_workers : ShuffleKind → Request
two_workers kind = record usual {
  settings = record usual.settings {
    workers = 2;
    shuffle = kind;
    workers_in_range = (omega arith, omega arith);
  };
  plan = true;
  traffic = true;
}

-- ---- the script that words ask for

abbrev pub myria : List (List ℕ) → List (List ℕ)
myria words = codes "myria" ∷ words

pub asked-script : script_asked (asked (myria (codes "q" ∷ []))) ≡ Some (codes "q")
unfolding clap_on_literals command
asked-script = refl

pub asked-trial : script_asked (asked (myria (codes "--mode" ∷ codes "trial" ∷ codes "q" ∷ []))) ≡ None
unfolding clap_on_literals command
asked-trial = refl

pub asked-unread : script_asked (asked (myria (codes "--plan" ∷ []))) ≡ None
unfolding clap_on_literals command
asked-unread = refl

-- ---- whether workers are taken

pub takes-run : takes_workers (asked (myria (codes "q" ∷ []))) ≡ true
unfolding clap_on_literals command
takes-run = refl

pub takes-check : takes_workers (asked (myria (codes "--mode" ∷ codes "check" ∷ codes "q" ∷ []))) ≡ false
unfolding clap_on_literals command
takes-check = refl

pub takes-unread : takes_workers (asked (myria (codes "--plan" ∷ []))) ≡ false
unfolding clap_on_literals command
takes-unread = refl

-- an answer without receipts, and one with them
pub still-refused : IsStill {T = ℕ} (1 ∷ []) (1 ∷ []) outcome.NoScript
still-refused = record { taps = refl; receipts = tt }

pub still-done : (receipt : ReceiptState) → HasNoReceipt (outcome.Done (receipt ∷ [])) → ⊥
still-done receipt h = cc

-- ---- a scan that is stored

-- A = scan(R); store(A, Out);
abbrev scan_and_store : List StatementTree
scan_and_store = Assign (codes "A") (Copy (operand.Scan (adhoc (codes "R")))) ∷ Store (codes "A") (adhoc (codes "Out")) ∷ []

-- the rows come out in order, under their line and their header
pub printed-scan_and_store : printed_verdict usual (shelf_of (codes "public:adhoc:R.csv") (codes "x:int,y:int\n3,1\n1,2\n2,5\n")) scan_and_store
    ≡ passes (codes "-- store public:adhoc:Out 3 rows\nx:int,y:int\n1,2\n2,5\n3,1\n")
unfolding files_on_literals
printed-scan_and_store = refl

pub printed-without_a_relation : printed_verdict usual (shelf_of (codes "public:adhoc:S.csv") []) scan_and_store ≡ refused (outcome.NoRelation (adhoc (codes "R")))
printed-without_a_relation = refl

pub printed-of_a_short_row : printed_verdict usual (shelf_of (codes "public:adhoc:R.csv") (codes "x:int,y:int\n1,2\n3\n")) scan_and_store ≡ refused (outcome.BadRelation (adhoc (codes "R")) (fault.FieldCount 2))
unfolding files_on_literals
printed-of_a_short_row = refl

-- a relation of strings and booleans is stored as it is
pub printed-strings : printed_verdict usual (shelf_of (codes "public:adhoc:R.csv") (codes "name,ok:boolean\n\"b,\",TRUE\na,false\n")) scan_and_store
    ≡ passes (codes "-- store public:adhoc:Out 2 rows\nname:string,ok:boolean\na,false\n\"b,\",true\n")
unfolding files_on_literals
printed-strings = refl

-- ---- a relation joined with itself

abbrev column : Name → Name → Tree
column alias name = Col (ref.OfName alias name)

abbrev item : Name → FromItem
item alias = record { source = operand.Scan (adhoc (codes "R")); alias = alias }

-- J = [from scan(R) as a, scan(R) as b where a.y = b.x emit a.x, b.y]; store(J, Out);
abbrev join_with : Name → List StatementTree
join_with name =
    Assign (codes "J") (From (item (codes "a") ∷ item (codes "b") ∷ []) (Some (Bin op.Eq (column (codes "a") name) (column (codes "b") (codes "x"))))
    (One (column (codes "a") (codes "x")) None ∷ One (column (codes "b") (codes "y")) None ∷ []))
    ∷ Nothing ∷ Store (codes "J") (adhoc (codes "Out")) ∷ []

abbrev edges : List ℕ → Content
edges = shelf_of (codes "public:adhoc:R.csv") (codes "x:int,y:int\n1,2\n2,3\n2,3\n3,1\n")

pub printed-join : printed_verdict usual edges (join_with (codes "y")) ≡ passes (codes "-- store public:adhoc:Out 5 rows\nx:int,y:int\n1,3\n1,3\n2,1\n2,1\n3,2\n")
unfolding files_on_literals
printed-join = refl

-- a column that isn't in the header of its item, and one of another type
pub printed-join_of_no_column : printed_verdict usual edges (join_with (codes "z")) ≡ refused (outcome.Typing 1 kind.UnknownColumn)
unfolding files_on_literals
printed-join_of_no_column = refl

pub printed-join_of_two_types : printed_verdict usual (shelf_of (codes "public:adhoc:R.csv") (codes "x:int,y\n1,2\n")) (join_with (codes "y"))
    ≡ refused (outcome.Typing 1 kind.TypeMismatch)
unfolding files_on_literals
printed-join_of_two_types = refl

-- the file is read before a statement is typed
pub printed-bad_file_of_a_join : printed_verdict usual (shelf_of (codes "public:adhoc:R.csv") (codes "x:int\n1,2\n")) (join_with (codes "z"))
    ≡ refused (outcome.BadRelation (adhoc (codes "R")) (fault.FieldCount 1))
unfolding files_on_literals
printed-bad_file_of_a_join = refl

-- ---- a join in other modes, and its plan and traffic

pub printed-check : printed_verdict (record usual { mode = mode.Check }) edges (join_with (codes "y"))
    ≡ passes (codes "-- store public:adhoc:Out 5 rows\nx:int,y:int\n1,3\n1,3\n2,1\n2,1\n3,2\n")
unfolding files_on_literals
printed-check = refl

abbrev keys : List ℕ → Content
keys = shelf_of (codes "public:adhoc:R.csv") (codes "x:int\n0\n1\n2\n3\n")

-- J = [from scan(R) as a, scan(R) as b where a.x = b.x emit a.x]; store(J, Out);
abbrev pub join_of_keys : List StatementTree
join_of_keys =
    Assign (codes "J") (From (item (codes "a") ∷ item (codes "b") ∷ []) (Some (Bin op.Eq (column (codes "a") (codes "x")) (column (codes "b") (codes "x"))))
    (One (column (codes "a") (codes "x")) None ∷ [])) ∷ Store (codes "J") (adhoc (codes "Out")) ∷ []

-- the plan stands behind the relations, and the traffic behind the plan
pub printed-by_cells : printed_verdict (two_workers shuffle.Hc) keys join_of_keys
    ≡ passes (codes "-- store public:adhoc:Out 4 rows\nx:int\n0\n1\n2\n3\n"
    ++ codes "-- plan 1 from rows 4\n-- item 1 rows 4 pushed 0 kept 4\n-- item 2 rows 4 pushed 0 kept 4\n"
    ++ codes "-- variable 1 1.$0 2.$0 share 2\n-- shuffle hc join tj cells 2 load 8/2\n"
    ++ codes "-- traffic 1 join hc\n-- worker 0 received 2 listed 1\n-- worker 1 received 6 listed 3\n")
unfolding files_on_literals digits load.comes_before load.load_of
printed-by_cells = refl

pub printed-by_keys : printed_verdict (two_workers shuffle.Rs) keys join_of_keys
    ≡ passes (codes "-- store public:adhoc:Out 4 rows\nx:int\n0\n1\n2\n3\n"
    ++ codes "-- plan 1 from rows 4\n-- item 1 rows 4 pushed 0 kept 4\n-- item 2 rows 4 pushed 0 kept 4\n"
    ++ codes "-- variable 1 1.$0 2.$0\n-- shuffle rs join tj\n"
    ++ codes "-- traffic 1 join rs step 2\n-- worker 0 received 4 listed 2\n-- worker 1 received 4 listed 2\n")
unfolding files_on_literals digits
printed-by_keys = refl

-- a trial of size 1: all its numbers are 0, which has cell 0 of the variable with two shares
pub printed-trial : trial_verdict (record (two_workers shuffle.Hc) { mode = mode.Trial; size = 1; size_in_range = (omega arith, omega arith) }) trial_trees
    ≡ passes (codes "-- trial size 1\n-- rows 1\n-- distinct 1\n"
    ++ codes "-- plan 1 copy rows 1\n-- plan 2 copy rows 1\n-- plan 3 copy rows 1\n-- plan 4 from rows 1\n"
    ++ codes "-- item 1 rows 1 pushed 0 kept 1\n-- item 2 rows 1 pushed 0 kept 1\n-- item 3 rows 1 pushed 0 kept 1\n"
    ++ codes "-- variable 1 1.$0 3.$1 share 1\n-- variable 2 1.$1 2.$0 share 1\n-- variable 3 2.$1 3.$0 share 2\n"
    ++ codes "-- shuffle hc join tj cells 2 load 4/2\n"
    ++ codes "-- traffic 4 join hc\n-- worker 0 received 3 listed 1\n-- worker 1 received 1 listed 0\n")
unfolding files_on_literals digits load.comes_before load.load_of
printed-trial = refl

-- the plan alone
pub printed-plan : printed_verdict (record usual { mode = mode.Explain }) (shelf_of (codes "public:adhoc:R.csv") (codes "x:int,y:int\n3,1\n1,2\n2,5\n")) scan_and_store
    ≡ passes (codes "-- plan 1 copy rows 3\n")
unfolding files_on_literals digits
printed-plan = refl

-- ---- other statements

-- A = distinct(scan(R)); store(A, Out);
pub printed-distinct : printed_verdict usual edges (Assign (codes "A") (Distinct (operand.Scan (adhoc (codes "R")))) ∷ Store (codes "A") (adhoc (codes "Out")) ∷ [])
    ≡ passes (codes "-- store public:adhoc:Out 3 rows\nx:int,y:int\n1,2\n2,3\n3,1\n")
unfolding files_on_literals
printed-distinct = refl

-- a shelf of two files
abbrev two_of : List ℕ → List ℕ → List ℕ → Content
two_of first second name =
    cond (bytes_eq name (codes "public:adhoc:R.csv")) (there first) (cond (bytes_eq name (codes "public:adhoc:S.csv")) (there second) missing)

-- A = distinct(scan(R)); D = diff(scan(R), scan(S)); store(A, A); store(D, D); with two workers the keys 0 and 3 have worker 0
pub printed-rows_by_keys : printed_verdict (record (two_workers shuffle.Hc) { plan = false }) (two_of (codes "x:int\n0\n0\n1\n2\n4\n") (codes "x:int\n2\n3\n"))
    (Assign (codes "A") (Distinct (operand.Scan (adhoc (codes "R")))) ∷ Assign (codes "D") (Diff (operand.Scan (adhoc (codes "R"))) (operand.Scan (adhoc (codes "S"))))
    ∷ Store (codes "A") (adhoc (codes "A")) ∷ Store (codes "D") (adhoc (codes "D")) ∷ [])
    ≡ passes (codes "-- store public:adhoc:A 4 rows\nx:int\n0\n1\n2\n4\n-- store public:adhoc:D 3 rows\nx:int\n0\n1\n4\n"
    ++ codes "-- traffic 1 distinct\n-- worker 0 received 2 listed 1\n-- worker 1 received 3 listed 3\n"
    ++ codes "-- traffic 2 diff\n-- worker 0 received 3 listed 1\n-- worker 1 received 4 listed 2\n")
unfolding files_on_literals digits
printed-rows_by_keys = refl

pub printed-another_name : printed_verdict usual edges (Assign (codes "A") (Distinct (operand.Scan (adhoc (codes "R")))) ∷ Store (codes "B") (adhoc (codes "Out")) ∷ [])
    ≡ refused (outcome.Typing 2 kind.UnknownRelation)
unfolding files_on_literals
printed-another_name = refl

pub printed-nothing : printed_verdict usual edges [] ≡ passes []
printed-nothing = refl

-- ---- loaded files

-- P = load("p", csv(schema(n:string, k:int), skip=1)); store(P, Out);
abbrev load_and_store : List StatementTree
load_and_store =
    Assign (codes "P") (Copy (operand.Load (codes "p")
    (record { name = codes "n"; kind = type.Str } ∷ record { name = codes "k"; kind = type.Int } ∷ []) 1)) ∷ Store (codes "P") (adhoc (codes "Out")) ∷ []

-- the file is asked for by its own name, and has no header
pub printed-load : printed_verdict usual (shelf_of (codes "p") (codes "made by hand\nbob,4\nann,3\n")) load_and_store
    ≡ passes (codes "-- store public:adhoc:Out 2 rows\nn:string,k:int\nann,3\nbob,4\n")
unfolding files_on_literals
printed-load = refl

-- what is passed over isn't counted
pub printed-load_of_a_bad_int : printed_verdict usual (shelf_of (codes "p") (codes "made by hand\nann,x\n")) load_and_store
    ≡ refused (outcome.BadRelation (load_key (codes "p")) (fault.BadInt 1 2))
unfolding files_on_literals
printed-load_of_a_bad_int = refl

pub printed-load_of_no_file : printed_verdict usual (shelf_of (codes "public:adhoc:p.csv") []) load_and_store ≡ refused (outcome.NoRelation (load_key (codes "p")))
printed-load_of_no_file = refl

-- ---- why a fetch was refused

abbrev counts_from : ℕ → ℕ → CallCounts
counts_from before after = record { before = record { faults = 0; misses = before }; after = record { faults = 0; misses = after } }

-- a file that is told to be there isn't absent, and an absence needs a miss that rose
pub cause-missing : HasFetchCause (counts_from 4 5) missing refusal.Absent
cause-missing = (inl (omega arith), tt)

pub cause-there : HasFetchCause (counts_from 4 5) (there []) refusal.Absent → ⊥
cause-there h = h.1

pub cause-no_miss : HasFetchCause (counts_from 4 4) missing refusal.Absent → ⊥
cause-no_miss h = by h.0
  where
    by : Rose 4 4 → ⊥
    by (inl less) = absurd (omega arith)
    by (inr last) = cc

pub cause-no_fault : HasFetchCause (counts_from 4 5) missing refusal.Failed → ⊥
cause-no_fault h = by h
  where
    by : Rose 0 0 → ⊥
    by (inl less) = absurd (omega arith)
    by (inr last) = cc

-- ---- what each file says by itself

-- a shelf that tells one file alone
abbrev told_of : List ℕ → Content → List ℕ → Content
told_of file content name = cond (bytes_eq name file) content untold

abbrev scan_of : Name → Fetch
scan_of name = record { key = adhoc name; form = None }

-- R isn't told, and S isn't there: what both come to isn't told
abbrev without_S : List ℕ → Content
without_S = told_of (codes "public:adhoc:S.csv") missing

pub each-not_told : files_verdict without_S (scan_of (codes "R") ∷ scan_of (codes "S") ∷ []) ≡ verdict.untold
each-not_told = refl

-- where S stands first, it decides, whatever is told of R
pub each-decided : files_verdict without_S (scan_of (codes "S") ∷ scan_of (codes "R") ∷ []) ≡ refused (outcome.NoRelation (adhoc (codes "S")))
each-decided = refl

-- behind R still S can't be good, and it is the first that isn't
pub each-may_be_good : MayBeGood without_S (scan_of (codes "R"))
each-may_be_good = tt

pub each-not_good : MayBeGood without_S (scan_of (codes "S")) → ⊥
each-not_good h = let wrong : refused (outcome.NoRelation (adhoc (codes "S"))) ≡ passes h.0 = h.1 in cc

pub each-first_bad : IsFirstBad without_S (adhoc (codes "S")) (outcome.NoRelation (adhoc (codes "S"))) (scan_of (codes "R") ∷ scan_of (codes "S") ∷ [])
each-first_bad = record {
  before = scan_of (codes "R") ∷ [];
  fetch = scan_of (codes "S");
  behind = [];
  are = refl;
  good = All-cons (MayBeGood without_S) (scan_of (codes "R")) [] tt (All-nil (MayBeGood without_S));
  of_key = refl;
  is_refused = refl;
}

-- where a script isn't there, that may be answered; and where it is there, it can't
pub each-no_script : Allows (told_of (codes "q") missing) (codes "q") outcome.NoScript
each-no_script = record { step = refused outcome.NoScript; comes = no_script; is = refl }

pub each-a_script : Allows (told_of (codes "q") (there [])) (codes "q") outcome.NoScript → ⊥
each-a_script h = by h.step h.comes h.is
  where
    of_text : (s : Verdict (List StatementTree)) → TextComesTo [] s → IfTold s (λ t. t ≡ refused outcome.NoScript) → ⊥
    of_text s (not_text n) is = cc
    of_text s (bad_token line what first) is = cc
    of_text s (bad_piece tokens number Syntax are first) is = cc
    of_text s (bad_piece tokens number (TooMany what) are first) is = cc
    of_text s (a_script tokens script are read) is = cc

    by : (s : Verdict (List StatementTree)) → ScriptComesTo (there []) s → IfTold s (λ t. t ≡ refused outcome.NoScript) → ⊥
    by s (too_long bytes long) is = cc
    by s (short bytes t fits comes) is = of_text t comes is

-- ---- lines on standard error

pub line-usage : line_of [] outcome.Usage ≡ codes "myria: usage: myria [options] SCRIPT\n"
line-usage = refl

pub line-no_script : line_of (codes "q") outcome.NoScript ≡ codes "myria: no script q\n"
line-no_script = refl

pub line-no_relation : line_of (codes "q") (outcome.NoRelation (adhoc (codes "R"))) ≡ codes "myria: no relation public:adhoc:R\n"
line-no_relation = refl

pub line-too_long : line_of (codes "q") (outcome.RelTooLong (adhoc (codes "R"))) ≡ codes "myria: relation public:adhoc:R: too long\n"
line-too_long = refl

pub line-bad_relation : line_of (codes "q") (outcome.BadRelation (adhoc (codes "R")) (fault.FieldCount 2))
    ≡ codes "myria: relation public:adhoc:R: record 2 has a wrong number of fields\n"
unfolding digits
line-bad_relation = refl

pub line-lexical : line_of (codes "q") (outcome.Lex 2 lexical.BadChar) ≡ codes "myria: line 2: unexpected character\n"
unfolding digits
line-lexical = refl

pub line-syntax : line_of (codes "q") (outcome.Syntax 3) ≡ codes "myria: statement 3: syntax error\n"
unfolding digits
line-syntax = refl

pub line-too_many : line_of (codes "q") (outcome.TooMany 1 many.FromItems) ≡ codes "myria: statement 1: too many items\n"
unfolding digits
line-too_many = refl

pub line-typing : line_of (codes "q") (outcome.Typing 2 kind.LoadConflict) ≡ codes "myria: statement 2: load conflict\n"
unfolding digits
line-typing = refl

-- a loaded file is told by its name alone
pub line-no_file : line_of (codes "q") (outcome.NoRelation (load_key (codes "p.txt"))) ≡ codes "myria: no relation p.txt\n"
line-no_file = refl

pub line-bad_load : line_of (codes "q") (outcome.BadRelation (load_key (codes "p.txt")) (fault.BadInt 1 2)) ≡ codes "myria: relation p.txt: record 1 column 2 is not an int\n"
unfolding digits
line-bad_load = refl

pub line-memory : line_of (codes "q") outcome.Memory ≡ codes "myria: out of memory\n"
line-memory = refl

pub line-done : (receipts : List ReceiptState) → line_of (codes "q") (outcome.Done receipts) ≡ []
line-done receipts = refl
