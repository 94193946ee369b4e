-- Receipts and taps of a run, by the request that asks for it.
use Rattle.std.proofs.Common.{◌≡◌, ℕ, Bool, true, false, cond, List, [], Option, None, Ok, Result, refl, sym, ◌∙◌, ap, subst}
use Rattle.std.specs.Prelude.{IfOk, Err}
use Rattle.std.specs.List.{flat_map}
use Rattle.rel_base.specs.Keys.{File}
use Rattle.rel_io.specs.Outside.{Content}
use Rattle.rel_io.specs.declared.taps.Totals.{Totals}
use Rattle.exchange_channels.specs.Wirings.{ReceiptState}
use Rattle.myrial_ast.specs.Trees.{StatementTree}
use Rattle.myrial_meaning.specs.Fetches.{fetches}
use Rattle.myrial_meaning.specs.declared.needed_files.Fetch.{Fetch}
use Rattle.myrial_types.specs.Checking.{checked_of}
use Rattle.algebra.specs.Trees.{CheckedTree}
use Rattle.placement.specs.Exchanges.{PlacedExchange}
use Rattle.placement.specs.Runs.{size_of, run_exchanges}
use Rattle.routed_joins.specs.TermRuns.{shown_moves, AreShown, no_receipt, AreMoved}
use Rattle.row_exchange.proofs.TapLemmas.{nothing-told}
use Rattle.trial_gen.specs.Trials.{trial_files}
use Rattle.trial_gen.specs.TrialScript.{trial_script}
use Rattle.fragmenter.specs.Plans.{PlanTree}
use Rattle.command_words.specs.declared.requests.Request.{Request}
use Rattle.command_words.specs.Modes.{is_replay}
use Rattle.command_words.specs.Requests.{Asked}
use Rattle.myria_top.specs.declared.outcomes.Outcome.{Outcome}
use Rattle.myria_top.specs.declared.outcomes.Outcome.TheVariants as outcome
use Rattle.myria_top.specs.Moves.{HasMoved, HasMovedAfter, HasNoReceipt, IsRunOf, IsStill, script_run, trial_run, exchanges_asked}
use Rattle.myria_top.specs.Reading.{Meets, RefusesBy}
use Rattle.myria_top.specs.Plans.{asked_plan, rules_asked}
use Rattle.myria_top.specs.Requests.{Asks, is_check, is_trial}
use Rattle.myria_top.specs.Runs.{files_verdict}
use Rattle.myria_top.specs.Scripts.{ScriptComesTo, TextComesTo}
use Rattle.myria_top.specs.Verdicts.{Verdict, passes, IfTold}
use Rattle.myria_top.specs.declared.unprinted.Unprinted.{Unprinted}
use Rattle.myria_top.specs.inner.Working.{MovesAs, MovesNothing}
use Rattle.myria_top.proofs.OneAnswerLemmas.{script_one, text_one}
use Rattle.myria_top.proofs.RequestLemmas.{one-request, trial-or, unplanned}
use Rattle.myria_top.proofs.VerdictLemmas.{passes-one, step_met}

-- ---- with workers and without

module _ {T : Type 0} (r : Request) (plan : Option PlanTree) (files : List File) (c : CheckedTree) (totals : T → Totals) (tag : T → ℕ) (before after : List T)
    (receipts : List ReceiptState) where
  abbrev MovedBy : List PlacedExchange → Type 0
  MovedBy exchanges =
      AreShown (size_of r.settings) (flat_map shown_moves exchanges) receipts × AreMoved totals tag r.settings.workers exchanges before after

  has_moved : MovedBy (exchanges_asked r plan files c) → HasMoved r plan files c totals tag before after receipts
  has_moved h = record { shown = h.0; taps = h.1 }

  pub moved-at-workers : is_check r.mode ≡ false → AreShown (size_of r.settings) (flat_map shown_moves (run_exchanges r.settings (rules_asked r plan) files c)) receipts
      → AreMoved totals tag r.settings.workers (run_exchanges r.settings (rules_asked r plan) files c) before after
      → HasMoved r plan files c totals tag before after receipts
  moved-at-workers workers shown taps =
      has_moved (subst (λ (b : Bool). MovedBy (cond b [] (run_exchanges r.settings (rules_asked r plan) files c))) (sym workers) (shown, taps))

-- a check moves nothing
pub nothing-moved : {T : Type 0} (r : Request) (plan : Option PlanTree) (files : List File) (c : CheckedTree) (totals : T → Totals) (tag : T → ℕ) (taps : List T)
    (receipts : List ReceiptState) → is_check r.mode ≡ true → receipts ≡ [] → HasMoved r plan files c totals tag taps taps receipts
nothing-moved r plan files c totals tag taps receipts check none =
    let shown : AreShown (size_of r.settings) [] receipts = subst (AreShown (size_of r.settings) []) (sym none) no_receipt in
    let stays : AreMoved totals tag r.settings.workers [] taps taps = nothing-told totals tag r.settings.workers taps in
    has_moved r plan files c totals tag taps taps receipts
    (subst (λ (b : Bool). MovedBy r plan files c totals tag taps taps receipts (cond b [] (run_exchanges r.settings (rules_asked r plan) files c))) (sym check)
    (shown, stays))

-- ---- there is one script that is asked for, and it comes to one list of files and of steps

-- a check comes to one list of steps
pub checked-one : (files : List File) (script : List StatementTree) (c d : CheckedTree) → checked_of files script ≡ Ok c
    → checked_of files script ≡ Ok d → c ≡ d
checked-one files script c d is other = by (sym is ∙ other)
  where
    by : {X E : Type 0} {x y : X} → ◌≡◌ {A = Result X E} (Ok x) (Ok y) → x ≡ y
    by e = cc

-- a step that passes is the one that was met
pub met-one : {X : Type 0} (s : Verdict X) (x y : X) → IfTold s (λ t. t ≡ passes x) → s ≡ passes y → x ≡ y
met-one {X = X} s x y told is = sym (passes-one (subst (λ (t : Verdict X). IfTold t (λ u. u ≡ passes x)) is told))

-- the files that were read are those that the fetches come to
pub files-one : (content : List ℕ → Content) (needed fetched : List Fetch) (files others : List File) → needed ≡ fetched
    → Meets (λ s. s ≡ files_verdict content needed) (passes files) → files_verdict content fetched ≡ passes others
    → files ≡ others
files-one content needed fetched files others same read is =
    met-one (files_verdict content fetched) files others
    (subst (λ (fs : List Fetch). IfTold (files_verdict content fs) (λ s. s ≡ passes files)) same
    (step_met (files_verdict content needed) (passes files) read)) is

module _ {T : Type 0} (r : Request) (totals : T → Totals) (tag : T → ℕ) (before after : List T) (receipts : List ReceiptState)
    (content : List ℕ → Content) (script : List StatementTree) where
  -- what a script that was read moves is what each of its runs moves
  pub moved-of_script : (same : List ℕ → Content) → is_trial r.mode ≡ false → same ≡ content
      → Meets (ScriptComesTo (content r.script)) (passes script)
      → ((files : List File) (c : CheckedTree) (plan : Option PlanTree) → files_verdict same (fetches script) ≡ passes files
      → checked_of files script ≡ Ok c → asked_plan r same c ≡ passes plan
      → HasMoved r plan files c totals tag before after receipts)
      → MovesAs r content totals tag before after receipts
  moved-of_script same other is read moved _ _ _ (script_run trees files c plan kind comes told typed by_plan) =
      let one : script ≡ trees =
      met-one read.step script trees read.is (script_one (content r.script) read.step (passes trees) read.comes comes) in
      moved files c plan ((λ i. files_verdict (is i) (fetches (one i))) ∙ told) (ap (checked_of files) one ∙ typed)
      (ap (λ (con : List ℕ → Content). asked_plan r con c) is ∙ by_plan)
  moved-of_script same other is read moved _ _ _ (trial_run trees c trial comes typed) = absurd (trial-or r.mode trial other)

  -- and so it is with the script of a trial
  pub moved-of_trial : is_trial r.mode ≡ true → Meets (TextComesTo trial_script) (passes script)
      → ((c : CheckedTree) → checked_of (trial_files r.size) script ≡ Ok c
      → HasMoved r None (trial_files r.size) c totals tag before after receipts)
      → MovesAs r content totals tag before after receipts
  moved-of_trial trial read moved _ _ _ (script_run trees files c plan other comes told typed by_plan) = absurd (trial-or r.mode trial other)
  moved-of_trial trial read moved _ _ _ (trial_run trees c kind comes typed) =
      let one : script ≡ trees =
      met-one read.step script trees read.is (text_one trial_script read.step (passes trees) read.comes comes) in
      moved c (ap (checked_of (trial_files r.size)) one ∙ typed)

-- what goes by no plan was not given one
pub unplanned-one : (r : Request) (content : List ℕ → Content) (c : CheckedTree) (plan : Option PlanTree) → is_replay r.mode ≡ false
    → asked_plan r content c ≡ passes plan → None ≡ plan
unplanned-one r content c plan other is = passes-one (sym (unplanned r content c other) ∙ is)

-- ---- what holds of a result

pub carried-ok : {X E : Type 0} {P Q : X → Type 0} (r : Result X E) → ((x : X) → P x → Q x) → IfOk r P → IfOk r Q
carried-ok (Ok x) f h = f x h
carried-ok (Err why) f h = tt

-- what a request moves is what moves where it is asked for
pub moved-where-asked : {T : Type 0} (asked : Option Asked) (r : Request) (content : List ℕ → Content) (totals : T → Totals)
    (tag : T → ℕ) (before after : List T) (receipts : List ReceiptState) → Asks asked r
    → MovesAs r content totals tag before after receipts
    → HasMovedAfter asked content totals tag before after (outcome.Done receipts)
moved-where-asked asked r content totals tag before after receipts asks moved q files c plan other run =
    subst (λ (x : Request). IsRunOf x content files c plan → HasMoved x plan files c totals tag before after receipts)
    (one-request asked r q asks other) (moved files c plan) run

-- ---- where nothing moves

-- an answer that refuses has no receipt
refused-receipt : {X : Type 0} (Comes : Verdict X → Type 0) (answer : Outcome) → RefusesBy Comes answer → HasNoReceipt answer
refused-receipt Comes (outcome.Done receipts) h = absurd h
refused-receipt Comes answer h = tt

pub refused-still : {X T : Type 0} (Comes : Verdict X → Type 0) (before after : List T) (answer : Outcome) → RefusesBy Comes answer
    → MovesNothing before after (Err answer) → IsStill before after answer
refused-still Comes before after answer h none = record { taps = none.taps; receipts = refused-receipt Comes answer h }

-- a check leaves the taps
pub check-still : {T : Type 0} (taps : List T) (result : Result Unprinted Outcome) → IfOk result (λ made. made.receipts ≡ [])
    → MovesNothing taps taps result
check-still taps result none = record { taps = refl; receipts = none }

-- a refusal before the output is no `Done`
pub refused-moved : {X T : Type 0} (Comes : Verdict X → Type 0) (asked : Option Asked) (content : List ℕ → Content)
    (totals : T → Totals) (tag : T → ℕ) (before after : List T) (answer : Outcome) → RefusesBy Comes answer
    → HasMovedAfter asked content totals tag before after answer
refused-moved Comes asked content totals tag before after (outcome.Done receipts) h = absurd h
refused-moved Comes asked content totals tag before after answer h = tt
