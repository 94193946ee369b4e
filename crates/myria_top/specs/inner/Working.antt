-- What a run comes to before anything is printed.
--
--   text_of answer                the text that was prepared, or the answer that refuses it
--   plan_of_read answer           the plan that was read, or the answer that refuses it
--   checked_verdict r plan files c   what a checked script comes to, by a plan or without
--   evaluated_verdict script ..   what a script comes to over its files without workers
--   MovesAs r content ..          receipts and taps are those of the run of the request
--   MovesNothing before after ..  the taps are as they were, and there is no receipt
--   IsOfText, IsOfScript          an answer to the text of a script, and to its file
--   IsOfKey key                   an answer to the file of this key
--   IsOfRun                       an answer to a script over its files
--   IsOfPlanText, IsOfPlan        an answer to the text of a plan, and to its file
--   IsOfReplay                    an answer to a script that is run by a plan
--   NeedsNoCount                  an answer of which no count shows the cause
--   HasFirstBad content fetches   an answer to these files, of which one is the first that isn't good
--   IsAllowed content name ..     a text or an answer that each file by itself allows
use Rattle.std.specs.Prelude.{◌≡◌, ◌⊎◌, ℕ, List, [], All, Option, Result, Ok, Err, IfOk, ⊤}
use Rattle.std.specs.Option.{option_map_or}
use Rattle.rel_base.specs.Keys.{File}
use Rattle.rel_base.specs.declared.names.Key.{Key}
use Rattle.rel_io.specs.Outside.{Content}
use Rattle.rel_io.specs.declared.taps.Totals.{Totals}
use Rattle.exchange_channels.specs.Wirings.{ReceiptState}
use Rattle.myrial_ast.specs.CandidateFaults.{joins_alone}
use Rattle.myrial_ast.specs.Trees.{StatementTree}
use Rattle.myrial_meaning.specs.declared.needed_files.Fetch.{Fetch}
use Rattle.myrial_meaning.specs.Faults.{in_each, run_fault}
use Rattle.myrial_meaning.specs.Meaning.{stored_relations}
use Rattle.algebra.specs.Trees.{CheckedTree}
use Rattle.algebra.specs.Meanings.{checked_fault, stored_by}
use Rattle.output_texts.specs.OutputText.{output_text}
use Rattle.fragmenter.specs.declared.plans.Plan.{Plan}
use Rattle.fragmenter.specs.Plans.{PlanTree, plan_tree_of}
use Rattle.command_words.specs.declared.requests.Request.{Request}
use Rattle.myria_top.specs.EachFile.{Allows, IsFirstBad, MayBeGood, MayNeed}
use Rattle.myria_top.specs.declared.outcomes.Outcome.{Outcome}
use Rattle.myria_top.specs.declared.outcomes.Outcome.TheVariants as outcome
use Rattle.myria_top.specs.declared.unprinted.Unprinted.{Unprinted}
use Rattle.myria_top.specs.Moves.{HasMoved, IsRunOf}
use Rattle.myria_top.specs.Printed.{printed_text}
use Rattle.myria_top.specs.Plans.{faults_asked}
use Rattle.myria_top.specs.Runs.{run_answer}
use Rattle.myria_top.specs.Verdicts.{Verdict, refused, passes}

-- the text that was prepared, or the answer that refuses it
abbrev pub text_of : Result Unprinted Outcome → Result (List ℕ) Outcome
text_of (Ok unprinted) = Ok unprinted.text
text_of (Err answer) = Err answer

-- the plan that was read, or the answer that refuses it
abbrev pub plan_of_read : Result Plan Outcome → Result PlanTree Outcome
plan_of_read (Ok plan) = Ok (plan_tree_of plan)
plan_of_read (Err answer) = Err answer

-- what a checked script comes to over its files, by a plan or without: the fault of its run, or the
-- text that is printed
abbrev pub checked_verdict : Request → Option PlanTree → List File → CheckedTree
    → Verdict (List ℕ)
checked_verdict r plan files c =
    option_map_or (λ found. refused (run_answer found))
    (checked_fault (faults_asked r plan) files c)
    (passes (printed_text r plan (stored_by files c) files c))

-- what a script comes to over its files without workers
abbrev pub evaluated_verdict : List StatementTree → List File → Verdict (List ℕ)
evaluated_verdict script files =
    option_map_or (λ found. refused (run_answer found))
    (run_fault (in_each joins_alone) files script)
    (passes (output_text (stored_relations files script)))

-- receipts and taps are those of the run of the request
abbrev pub MovesAs : {T : Type 0} → Request → (List ℕ → Content) → (T → Totals) → (T → ℕ)
    → List T → List T → List ReceiptState → Type 0
MovesAs r content totals tag before after receipts =
    (files : List File) (c : CheckedTree) (plan : Option PlanTree)
    → IsRunOf r content files c plan → HasMoved r plan files c totals tag before after receipts

-- the taps are as they were, and there is no receipt
pub record MovesNothing {T : Type 0} (before after : List T)
    (result : Result Unprinted Outcome) : Type 0 where
  pub taps : after ≡ before
  pub receipts : IfOk result (λ made. made.receipts ≡ [])

-- an answer to the text of a script
abbrev pub IsOfText : Outcome → Type 0
IsOfText outcome.ScriptNotText = ⊤
IsOfText (outcome.Lex line what) = ⊤
IsOfText (outcome.Syntax statement) = ⊤
IsOfText (outcome.TooMany statement what) = ⊤
IsOfText outcome.Memory = ⊤
IsOfText answer = ⊥

-- an answer to the file of a script
abbrev pub IsOfScript : Outcome → Type 0
IsOfScript outcome.NoScript = ⊤
IsOfScript outcome.ScriptTooLong = ⊤
IsOfScript (outcome.ReadFault name) = ⊤
IsOfScript answer = IsOfText answer

-- an answer to the file of this key
abbrev pub IsOfKey : Key → Outcome → Type 0
IsOfKey key (outcome.NoRelation other) = key ≡ other
IsOfKey key (outcome.RelTooLong other) = key ≡ other
IsOfKey key (outcome.BadRelation other fault) = key ≡ other
IsOfKey key (outcome.ReadFault name) = ⊤
IsOfKey key outcome.Memory = ⊤
IsOfKey key answer = ⊥

-- an answer to a script over its files
abbrev pub IsOfRun : Outcome → Type 0
IsOfRun (outcome.Typing statement kind) = ⊤
IsOfRun (outcome.TooManyRows statement) = ⊤
IsOfRun (outcome.Overflow statement) = ⊤
IsOfRun (outcome.AggregateOverflow statement) = ⊤
IsOfRun outcome.Memory = ⊤
IsOfRun answer = ⊥

-- an answer to the text of a plan
abbrev pub IsOfPlanText : Outcome → Type 0
IsOfPlanText outcome.BadPlan = ⊤
IsOfPlanText (outcome.PlanWorkers workers) = ⊤
IsOfPlanText (outcome.PlanMisfit statement) = ⊤
IsOfPlanText outcome.Memory = ⊤
IsOfPlanText answer = ⊥

-- an answer to the file of a plan
abbrev pub IsOfPlan : Outcome → Type 0
IsOfPlan outcome.NoPlan = ⊤
IsOfPlan outcome.PlanTooLong = ⊤
IsOfPlan (outcome.ReadFault name) = ⊤
IsOfPlan answer = IsOfPlanText answer

-- an answer to a script over its files, or to the plan that it is run by
abbrev pub IsOfReplay : Outcome → Type 0
IsOfReplay answer = IsOfRun answer ⊎ IsOfPlan answer

-- an answer to the text of a script or to its run, of which no count shows the cause
abbrev pub NeedsNoCount : Outcome → Type 0
NeedsNoCount answer = IsOfText answer ⊎ IsOfRun answer

-- an answer to these files, of which one is the first that isn't good
abbrev pub HasFirstBad : (List ℕ → Content) → List Fetch → Outcome → Type 0
HasFirstBad content fetches (outcome.NoRelation key) =
    IsFirstBad content key (outcome.NoRelation key) fetches
HasFirstBad content fetches (outcome.RelTooLong key) =
    IsFirstBad content key (outcome.RelTooLong key) fetches
HasFirstBad content fetches (outcome.BadRelation key fault) =
    IsFirstBad content key (outcome.BadRelation key fault) fetches
HasFirstBad content fetches (outcome.ReadFault name) = ⊤
HasFirstBad content fetches outcome.Memory = ⊤
HasFirstBad content fetches answer = ⊥

-- a text, or an answer, that each file by itself allows
abbrev pub IsAllowed : (List ℕ → Content) → List ℕ → Result Unprinted Outcome → Type 0
IsAllowed content name (Ok unprinted) = MayNeed content name (All (MayBeGood content))
IsAllowed content name (Err answer) = Allows content name answer
