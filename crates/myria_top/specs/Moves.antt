-- What a run moves from worker to worker.
--
--   IsRunOf r content files c plan   the run of a request is that of these steps over these files,
--                                    by this plan
--   exchanges_asked r plan files c   the exchanges of such a run
--   HasMoved r plan files c ..       receipts and taps are those of these exchanges
--   HasMovedAfter .. answer       so they are after `Done`
--   IsStill before after answer   the taps are as they were, and there is no receipt
use Rattle.std.specs.Prelude.{◌≡◌, ℕ, true, false, ⊤, List, [], Option, None, Ok, if◌then◌else◌}
use Rattle.std.specs.List.{flat_map}
use Rattle.rel_base.specs.Keys.{File}
use Rattle.rel_io.specs.Outside.{Content}
use Rattle.rel_io.specs.declared.taps.Totals.{Totals}
use Rattle.exchange_channels.specs.Wirings.{ReceiptState}
use Rattle.myrial_ast.specs.Trees.{StatementTree}
use Rattle.myrial_meaning.specs.Fetches.{fetches}
use Rattle.myrial_types.specs.Checking.{checked_of}
use Rattle.algebra.specs.Trees.{CheckedTree}
use Rattle.placement.specs.Exchanges.{PlacedExchange}
use Rattle.placement.specs.Runs.{size_of, run_exchanges}
use Rattle.routed_joins.specs.TermRuns.{shown_moves, AreShown, AreMoved}
use Rattle.trial_gen.specs.Trials.{trial_files}
use Rattle.trial_gen.specs.TrialScript.{trial_script}
use Rattle.fragmenter.specs.Plans.{PlanTree}
use Rattle.command_words.specs.declared.requests.Request.{Request}
use Rattle.command_words.specs.Requests.{Asked}
use Rattle.myria_top.specs.declared.outcomes.Outcome.{Outcome}
use Rattle.myria_top.specs.declared.outcomes.Outcome.TheVariants as outcome
use Rattle.myria_top.specs.Plans.{asked_plan, rules_asked}
use Rattle.myria_top.specs.Requests.{Asks, is_check, is_trial}
use Rattle.myria_top.specs.Runs.{files_verdict}
use Rattle.myria_top.specs.Scripts.{ScriptComesTo, TextComesTo}
use Rattle.myria_top.specs.Verdicts.{passes}

-- what is run: the script that is asked for, over the files that it needs, typed to these steps,
-- in a replay by its plan; or a trial's script over the relations of the trial
pub data IsRunOf (r : Request) (content : List ℕ → Content)
    : List File → CheckedTree → Option PlanTree → Type 0 where
  script_run : (trees : List StatementTree) (files : List File) (c : CheckedTree)
      (plan : Option PlanTree)
      → is_trial r.mode ≡ false → ScriptComesTo (content r.script) (passes trees)
      → files_verdict content (fetches trees) ≡ passes files
      → checked_of files trees ≡ Ok c → asked_plan r content c ≡ passes plan
      → IsRunOf r content files c plan
  trial_run : (trees : List StatementTree) (c : CheckedTree) → is_trial r.mode ≡ true
      → TextComesTo trial_script (passes trees) → checked_of (trial_files r.size) trees ≡ Ok c
      → IsRunOf r content (trial_files r.size) c None

-- its exchanges by the settings of the request, and by a plan where there is one; without workers
-- there is none
abbrev pub exchanges_asked : Request → Option PlanTree → List File → CheckedTree
    → List PlacedExchange
exchanges_asked r plan files c =
    if is_check r.mode then [] else run_exchanges r.settings (rules_asked r plan) files c

-- the receipts show these exchanges, and the taps, two for each worker and others behind them, rose
-- by them
pub record HasMoved {T : Type 0} (r : Request) (plan : Option PlanTree) (files : List File)
    (c : CheckedTree) (totals : T → Totals) (tag : T → ℕ) (before after : List T)
    (receipts : List ReceiptState) : Type 0 where
  pub shown :
      AreShown (size_of r.settings) (flat_map shown_moves (exchanges_asked r plan files c)) receipts
  pub taps : AreMoved totals tag r.settings.workers (exchanges_asked r plan files c) before after

-- after `Done`, receipts and taps are those of the run that the words and the files ask for
abbrev pub HasMovedAfter : {T : Type 0} → Option Asked → (List ℕ → Content) → (T → Totals)
    → (T → ℕ) → List T → List T → Outcome → Type 0
HasMovedAfter asked content totals tag before after (outcome.Done receipts) =
    (r : Request) (files : List File) (c : CheckedTree) (plan : Option PlanTree) → Asks asked r
    → IsRunOf r content files c plan → HasMoved r plan files c totals tag before after receipts
HasMovedAfter asked content totals tag before after answer = ⊤

-- the answer has no receipt
abbrev pub HasNoReceipt : Outcome → Type 0
HasNoReceipt (outcome.Done receipts) = receipts ≡ []
HasNoReceipt answer = ⊤

-- nothing moved, whatever the answer is
pub record IsStill {T : Type 0} (before after : List T) (answer : Outcome) : Type 0 where
  pub taps : after ≡ before
  pub receipts : HasNoReceipt answer
