-- What a run comes to, by what its words ask for and the files that the shelf tells.
--
--   relation_verdict fetch content     what the file of a relation comes to: the relation
--   files_verdict content fetches      what these files come to, one after another
--   IsFetchedBy fetches file           a file has the key of one of these fetches, the columns of its form, and typed rows
--   IsReadFor r fetches name           the file of one of these fetches, or that of the plan of a replay
--   typed_verdict r script files c plan   what a typed script comes to, by a plan or without
--   run_verdict r content script files    what the script comes to over its files: the text that is printed
--   printed_verdict r content script   what it comes to over the files that are told
--   ComesTo asked content step         what the words and the files come to
use Rattle.std.specs.Prelude.{◌≡◌, ℕ, true, false, List, [], ◌∷◌, ◌++◌, fold, All, Contains, IsTrue, Option, Some, None, Result, Ok, Err}
use Rattle.std.specs.Option.{option_map_or}
use Rattle.rel_base.specs.Keys.{File}
use Rattle.rel_base.specs.Limits.{most_relation_bytes}
use Rattle.rel_base.specs.Relations.{HasTypes, RelationState}
use Rattle.relation_csv.specs.declared.faults.RelFault.{RelFault}
use Rattle.rel_base.specs.declared.faults.RunFault.{RunFault}
use Rattle.rel_base.specs.declared.faults.RunFault.TheVariants as fault
use Rattle.rel_base.specs.declared.names.Key.{Key}
use Rattle.rel_io.specs.Outside.{Content}
use Rattle.relation_csv.specs.Files.{relation_of_bytes, relation_with}
use Rattle.myrial_ast.specs.declared.relations.LoadForm.{LoadForm}
use Rattle.myrial_ast.specs.Trees.{StatementTree}
use Rattle.myrial_meaning.specs.declared.needed_files.Fetch.{Fetch}
use Rattle.myrial_meaning.specs.Faults.{run_fault}
use Rattle.myrial_meaning.specs.Meaning.{stored_relations}
use Rattle.myrial_meaning.specs.Fetches.{fetches}
use Rattle.myrial_types.specs.declared.faults.TypeFault.{TypeFault}
use Rattle.myrial_types.specs.declared.faults.TypeFault.TheVariants as typing
use Rattle.myrial_types.specs.Checking.{checked_of}
use Rattle.myrial_types.specs.Fetching.{has_form}
use Rattle.algebra.specs.Trees.{CheckedTree}
use Rattle.trial_gen.specs.Trials.{trial_files}
use Rattle.trial_gen.specs.TrialScript.{trial_script}
use Rattle.command_words.specs.declared.requests.Request.{Request}
use Rattle.command_words.specs.declared.requests.WordsFault.{WordsFault}
use Rattle.command_words.specs.declared.requests.WordsFault.TheVariants as words
use Rattle.fragmenter.specs.Plans.{PlanTree}
use Rattle.command_words.specs.Modes.{is_replay}
use Rattle.command_words.specs.Requests.{Asked}
use Rattle.myria_top.specs.FileNames.{file_name_of}
use Rattle.myria_top.specs.declared.outcomes.Outcome.{Outcome}
use Rattle.myria_top.specs.declared.outcomes.Outcome.TheVariants as outcome
use Rattle.myria_top.specs.Printed.{printed_text}
use Rattle.myria_top.specs.Reading.{file_verdict}
use Rattle.myria_top.specs.Plans.{plan_named, asked_plan, faults_asked}
use Rattle.myria_top.specs.Requests.{Asks, is_trial}
use Rattle.myria_top.specs.Scripts.{ScriptComesTo, TextComesTo}
use Rattle.myria_top.specs.Verdicts.{Verdict, refused, passes, and_then}

-- what the bytes of a file hold: a loaded file is read by its form, and any other by its header
abbrev pub relation_read : Option LoadForm → List ℕ → Result RelationState RelFault
relation_read None bytes = relation_of_bytes bytes
relation_read (Some form) bytes = relation_with bytes form.schema form.skip

-- what the relation of a file, or its fault, comes to
abbrev pub relation_answer : Key → Result RelationState RelFault → Verdict RelationState
relation_answer key (Ok relation) = passes relation
relation_answer key (Err fault) = refused (outcome.BadRelation key fault)

-- what the bytes of a relation come to
abbrev pub relation_of : Fetch → List ℕ → Verdict RelationState
relation_of fetch bytes = relation_answer fetch.key (relation_read fetch.form bytes)

-- what the file of a relation comes to
abbrev pub relation_verdict : Fetch → Content → Verdict RelationState
relation_verdict fetch =
    file_verdict most_relation_bytes (outcome.NoRelation fetch.key) (outcome.RelTooLong fetch.key)
    (relation_of fetch)

-- the files so far and, where they are good, one file more
abbrev pub one_file_more : (List ℕ → Content) → Verdict (List File) → Fetch → Verdict (List File)
one_file_more content files fetch =
    and_then files (λ so_far.
    and_then (relation_verdict fetch (content (file_name_of fetch.key)))
    (λ table. passes (so_far ++ (fetch.key, table) ∷ [])))

-- what these files come to, each wholly before the next
abbrev pub files_verdict : (List ℕ → Content) → List Fetch → Verdict (List File)
files_verdict content fetches = fold (one_file_more content) (passes []) fetches

-- a file has the key of one of these fetches, and, where that is of a load, the columns of its form; its rows have its types
pub record IsFetchedBy (fetches : List Fetch) (file : File) : Type 0 where
  pub fetch : Fetch
  pub is_one : Contains fetches fetch
  pub key : file.0 ≡ fetch.key
  pub formed : IsTrue (has_form fetch.form file.1)
  pub typed : All (HasTypes file.1.schema) file.1.rows

-- the name is that of one of these files
pub record IsFileOf (fetches : List Fetch) (name : List ℕ) : Type 0 where
  pub fetch : Fetch
  pub is_one : Contains fetches fetch
  pub is_named : name ≡ file_name_of fetch.key

-- the name is that of one of these files, or, in a replay, that of the plan
pub data IsReadFor (r : Request) (fetches : List Fetch) (name : List ℕ) : Type 0 where
  of_file : IsFileOf fetches name → IsReadFor r fetches name
  of_plan : is_replay r.mode ≡ true → name ≡ plan_named r → IsReadFor r fetches name

-- the answer to a fault of typing
abbrev pub typing_answer : TypeFault → Outcome
typing_answer (typing.At statement kind) = outcome.Typing statement kind
typing_answer typing.Memory = outcome.Memory

-- the answer to a fault of the run
abbrev pub run_answer : RunFault → Outcome
run_answer (fault.TooManyRows statement) = outcome.TooManyRows statement
run_answer (fault.Overflow statement) = outcome.Overflow statement
run_answer (fault.AggregateOverflow statement) = outcome.AggregateOverflow statement
run_answer fault.Memory = outcome.Memory

-- the answer to a fault of the words
abbrev pub words_answer : WordsFault → Outcome
words_answer words.Usage = outcome.Usage
words_answer words.Memory = outcome.Memory

-- a fault of typing, or else a verdict on the steps
abbrev pub when_typed : {X Y : Type 0} → Result X TypeFault → (X → Verdict Y) → Verdict Y
when_typed (Ok checked) further = further checked
when_typed (Err why) further = refused (typing_answer why)

-- what a typed script comes to over its files, by a plan or without: the fault of its run, or the
-- text that is printed
abbrev pub typed_verdict : Request → List StatementTree → List File → CheckedTree
    → Option PlanTree → Verdict (List ℕ)
typed_verdict r script files c plan =
    option_map_or (λ found. refused (run_answer found))
    (run_fault (faults_asked r plan) files script)
    (passes (printed_text r plan (stored_relations files script) files c))

-- the plan of a replay, and then the run
abbrev pub planned_verdict : Request → (List ℕ → Content) → List StatementTree → List File
    → CheckedTree → Verdict (List ℕ)
planned_verdict r content script files c =
    and_then (asked_plan r content c) (typed_verdict r script files c)

-- what a script comes to: each statement is typed, and then its run
abbrev pub run_verdict : Request → (List ℕ → Content) → List StatementTree → List File
    → Verdict (List ℕ)
run_verdict r content script files =
    when_typed (checked_of files script) (planned_verdict r content script files)

-- what it comes to without a plan
abbrev pub plain_verdict : Request → List StatementTree → List File → Verdict (List ℕ)
plain_verdict r script files =
    when_typed (checked_of files script) (λ c. typed_verdict r script files c None)

-- what a script comes to: its files, one after another, and then its run over them
abbrev pub printed_verdict : Request → (List ℕ → Content) → List StatementTree → Verdict (List ℕ)
printed_verdict r content script =
    and_then (files_verdict content (fetches script)) (run_verdict r content script)

-- what a trial's script comes to over the relations of a trial of this size
abbrev pub trial_verdict : Request → List StatementTree → Verdict (List ℕ)
trial_verdict r script = plain_verdict r script (trial_files r.size)

-- what the words and the files come to: the text that is printed, or an answer that refuses
pub data ComesTo (asked : Option Asked) (content : List ℕ → Content)
    : Verdict (List ℕ) → Type 0 where
  unread : asked ≡ None → ComesTo asked content (refused outcome.Usage)
  of_script : (r : Request) (s : Verdict (List StatementTree)) → Asks asked r
      → is_trial r.mode ≡ false → ScriptComesTo (content r.script) s
      → ComesTo asked content (and_then s (printed_verdict r content))
  of_trial : (r : Request) (s : Verdict (List StatementTree)) → Asks asked r
      → is_trial r.mode ≡ true → TextComesTo trial_script s
      → ComesTo asked content (and_then s (trial_verdict r))
