-- What a script comes to over its files, and what is asked for and the files come to.
use Rattle.std.proofs.Common.{◌≡◌, ℕ, true, false, List, Option, Some, None, Ok, Err, Result, refl, sym, ap, subst, inl, inr, arith}
use Rattle.std.specs.Prelude.{IfErr}
use Rattle.rel_base.specs.Keys.{File}
use Rattle.exchange_channels.specs.Wirings.{ReceiptState}
use Rattle.rel_io.specs.declared.sinks.SinkFault.{SinkFault}
use Rattle.rel_io.specs.declared.sinks.SinkFault.TheVariants as fault
use Rattle.rel_io.specs.Outside.{Content}
use Rattle.rel_io.specs.Sinks.{Offers, TookAll, Written}
use Rattle.rel_io.specs.Outside as outside
use Rattle.myrial_ast.specs.Trees.{StatementTree}
use Rattle.myrial_meaning.specs.declared.needed_files.Fetch.{Fetch}
use Rattle.myrial_meaning.specs.Fetches.{fetches}
use Rattle.myrial_types.specs.declared.faults.TypeFault.{TypeFault}
use Rattle.myrial_types.specs.declared.faults.TypeFault.TheVariants as refusal
use Rattle.myrial_types.specs.declared.faults.TypeKind.{TypeKind}
use Rattle.myrial_types.specs.Checking.{checked_of, IsFault}
use Rattle.algebra.specs.Trees.{CheckedTree}
use Rattle.rel_io.specs.Shelves.{CallCounts}
use Rattle.trial_gen.specs.TrialScript.{trial_script}
use Rattle.command_words.specs.declared.requests.Request.{Request}
use Rattle.command_words.specs.Modes.{is_replay}
use Rattle.command_words.specs.Requests.{Asked}
use Rattle.myria_top.specs.declared.outcomes.Outcome.{Outcome}
use Rattle.myria_top.specs.declared.outcomes.Outcome.TheVariants as outcome
use Rattle.myria_top.specs.Headline.{Run, Decides, IsInPlace, Explains, IsAskedOf, TellsLine, of_untold, a_relation, the_plan}
use Rattle.myria_top.specs.Reading.{Agrees, AgreesBy, AgreesRefused, HasCause, Meets, ReadsBy, ReadsStep, RefusesBy}
use Rattle.myria_top.specs.Plans.{plan_named}
use Rattle.myria_top.specs.Requests.{Asks, is_trial, script_asked}
use Rattle.myria_top.specs.Scripts.{ScriptComesTo, TextComesTo, not_text, bad_token, bad_piece, a_script, not_told, no_script, too_long, short}
use Rattle.myria_top.specs.Verdicts.{Verdict, untold, refused, passes, and_then, IfTold}
use Rattle.myria_top.specs.Runs.{ComesTo, of_script, of_trial, IsReadFor, of_file, of_plan, files_verdict, plain_verdict, planned_verdict, printed_verdict, run_verdict, trial_verdict, typed_verdict, typing_answer, when_typed}
use Rattle.myria_top.proofs.OneAnswerLemmas.{comes_to_one}
use Rattle.myria_top.proofs.RequestLemmas.{script-named, plan-asked, unplanned}
use Rattle.myria_top.proofs.VerdictLemmas.{LiesWithin, HasCause-part, met, met_further, goes_second, passes-one, step_met, meets_step, refused_first, refused_second}

-- ---- the run of a script

module _ (r : Request) (script : List StatementTree) (files : List File) where
  -- a script that is typed comes to its run
  pub typed_runs : (c : CheckedTree) → checked_of files script ≡ Ok c → plain_verdict r script files ≡ typed_verdict r script files c None
  typed_runs c e = ap (λ (t : Result CheckedTree TypeFault). when_typed t (λ d. typed_verdict r script files d None)) e

  -- where it goes by no plan, it does so whatever the files are
  pub unplanned_runs : (content : List ℕ → Content) → is_replay r.mode ≡ false → run_verdict r content script files ≡ plain_verdict r script files
  unplanned_runs content other =
      λ i. when_typed (checked_of files script) (λ c. and_then (unplanned r content c other i) (typed_verdict r script files c))

  -- in a replay it comes to its plan, and then to its run
  pub replay_runs : (content : List ℕ → Content) (c : CheckedTree) → checked_of files script ≡ Ok c
      → run_verdict r content script files ≡ planned_verdict r content script files c
  replay_runs content c e = ap (λ (t : Result CheckedTree TypeFault). when_typed t (planned_verdict r content script files)) e

  -- and one that isn't to the answer of its fault
  typing_refuses_at : (further : CheckedTree → Verdict (List ℕ)) (typing : Result CheckedTree TypeFault) (number : ℕ) (kind : TypeKind)
      → typing ≡ Err (refusal.At number kind) → AgreesRefused (when_typed typing further) (outcome.Typing number kind)
  typing_refuses_at further typing number kind e =
      meets_step _ (refused (outcome.Typing number kind))
      (subst (λ t. IfTold (when_typed t further) (λ s. s ≡ refused (outcome.Typing number kind))) (sym e) refl)

  pub typing_refuses : (further : CheckedTree → Verdict (List ℕ)) (why : TypeFault) (answer : Outcome) → answer ≡ typing_answer why
      → IsFault why (checked_of files script) → AgreesRefused (when_typed (checked_of files script) further) answer
  typing_refuses further (refusal.At number kind) answer is h =
      subst (AgreesRefused (when_typed (checked_of files script) further)) (sym is) (typing_refuses_at further (checked_of files script) number kind h)
  typing_refuses further refusal.Memory answer is h = subst (AgreesRefused (when_typed (checked_of files script) further)) (sym is) tt

-- ---- one step, and then another

-- a step was met, and another agrees with what comes behind it
pub agrees_behind : {X Y : Type 0} (s : Verdict X) (f : X → Verdict Y) (x : X) (r : Result Y Outcome) → IfTold s (λ t. t ≡ passes x)
    → Agrees (f x) r → Agrees (and_then s f) r
agrees_behind s f x (Ok y) read h = meets_step (and_then s f) (passes y) (goes_second s f x y read (step_met (f x) (passes y) h))
agrees_behind s f x (Err answer) read h = refused_second s f x answer read h

-- what the run comes to over the files that were read
pub run_agrees : (r : Request) (content : List ℕ → Content) (script : List StatementTree) (needed : List Fetch) (files : List File)
    (result : Result (List ℕ) Outcome) → needed ≡ fetches script → Meets (λ s. s ≡ files_verdict content needed) (passes files)
    → Agrees (run_verdict r content script files) result → Agrees (printed_verdict r content script) result
run_agrees r content script needed files result same read h =
    let told = subst (λ fs. IfTold (files_verdict content fs) (λ s. s ≡ passes files)) same (step_met (files_verdict content needed) (passes files) read) in
    agrees_behind (files_verdict content (fetches script)) (run_verdict r content script) files result told h

-- and where the files refuse
pub files_refuse : (r : Request) (content : List ℕ → Content) (script : List StatementTree) (needed : List Fetch) (answer : Outcome)
    → needed ≡ fetches script → AgreesRefused (files_verdict content needed) answer → AgreesRefused (printed_verdict r content script) answer
files_refuse r content script needed answer same h =
    refused_first (files_verdict content (fetches script)) (run_verdict r content script) answer
    (subst (λ fs. AgreesRefused (files_verdict content fs) answer) same h)

-- a relation is met by a step that comes to what was met before it
pub met_behind : {X Y : Type 0} (Comes : Verdict X → Type 0) (Further : Verdict Y → Type 0) (f : X → Verdict Y)
    → ((s : Verdict X) → Comes s → Further (and_then s f)) → (x : X) (r : Result Y Outcome) → Meets Comes (passes x)
    → Agrees (f x) r → AgreesBy Further r
met_behind Comes Further f further x (Ok y) m h = record {
  step = and_then m.step f;
  comes = further m.step m.comes;
  is = goes_second m.step f x y m.is (step_met (f x) (passes y) h);
}
met_behind Comes Further f further x (Err answer) m h =
    met Further (and_then m.step f) answer (further m.step m.comes) (refused_second m.step f x answer m.is h)

-- ---- the script, and then its run

told_text : (bytes : List ℕ) (s : Verdict (List StatementTree)) → TextComesTo bytes s → s ≡ untold → ⊥
told_text bytes s (not_text n) e = cc
told_text bytes s (bad_token line what h) e = cc
told_text bytes s (bad_piece tokens number fault a f) e = cc
told_text bytes s (a_script tokens script a r) e = cc

told_file : (content : Content) (s : Verdict (List StatementTree)) → ScriptComesTo content s → s ≡ untold → content ≡ outside.untold
told_file content s not_told e = refl
told_file content s no_script e = cc
told_file content s (too_long bytes h) e = cc
told_file content s (short bytes t h comes) e = absurd (told_text bytes t comes e)

not_told_is : (content : Content) → ScriptComesTo content untold → content ≡ outside.untold
not_told_is content comes = told_file content untold comes refl

module _ (asked : Option Asked) (content : List ℕ → Content) (r : Request) (asks : Asks asked r) where
  -- a trial
  trial-comes : is_trial r.mode ≡ true → (s : Verdict (List StatementTree)) → TextComesTo trial_script s → ComesTo asked content (and_then s (trial_verdict r))
  trial-comes trial s comes = of_trial r s asks trial comes

  pub trial_refuses : is_trial r.mode ≡ true → (answer : Outcome) → RefusesBy (TextComesTo trial_script) answer → RefusesBy (ComesTo asked content) answer
  trial_refuses trial answer h = met_further (TextComesTo trial_script) (ComesTo asked content) (trial_verdict r) (trial-comes trial) answer h

  pub trial_agrees : is_trial r.mode ≡ true → (script : List StatementTree) (result : Result (List ℕ) Outcome)
      → Meets (TextComesTo trial_script) (passes script) → Agrees (trial_verdict r script) result → AgreesBy (ComesTo asked content) result
  trial_agrees trial script result m h =
      met_behind (TextComesTo trial_script) (ComesTo asked content) (trial_verdict r) (trial-comes trial) script result m h

  -- a script
  module _ (other : is_trial r.mode ≡ false) where
    script-comes : (s : Verdict (List StatementTree)) → ScriptComesTo (content r.script) s → ComesTo asked content (and_then s (printed_verdict r content))
    script-comes s comes = of_script r s asks other comes

    named : script_asked asked ≡ Some r.script
    named = script-named asked r asks other

    pub script_refuses : (answer : Outcome) → RefusesBy (ScriptComesTo (content r.script)) answer → RefusesBy (ComesTo asked content) answer
    script_refuses answer h =
        met_further (ScriptComesTo (content r.script)) (ComesTo asked content) (printed_verdict r content) script-comes answer h

    is_asked : (script : List StatementTree) (file : List ℕ) → Meets (ScriptComesTo (content r.script)) (passes script)
        → IsReadFor r (fetches script) file → IsAskedOf asked content file
    is_asked script file m (of_plan replay f) = subst (IsAskedOf asked content) (sym f) (the_plan (plan_named r) (plan-asked asked r asks replay))
    is_asked script file m (of_file f) = told m.step m.comes m.is
      where
        told : (s : Verdict (List StatementTree)) → ScriptComesTo (content r.script) s → IfTold s (λ t. t ≡ passes script) → IsAskedOf asked content file
        told untold comes is = of_untold r.script file named (not_told_is (content r.script) comes)
        told (refused answer) comes is = cc
        told (passes behind) comes is =
            let same : behind ≡ script = cc in
            subst (IsAskedOf asked content) (sym f.is_named)
            (a_relation r.script script f.fetch named (subst (λ t. ScriptComesTo (content r.script) (passes t)) same comes) f.is_one)

    cause_on : (script : List StatementTree) (part run : CallCounts) (result : Result (List ℕ) Outcome)
        → Meets (ScriptComesTo (content r.script)) (passes script) → LiesWithin part run
        → IfErr result (HasCause part (IsReadFor r (fetches script))) → IfErr result (HasCause run (IsAskedOf asked content))
    cause_on script part run (Ok text) m within h = tt
    cause_on script part run (Err answer) m within h =
        HasCause-part part run _ (IsAskedOf asked content) answer within (λ file f. is_asked script file m f) h

    -- the script was read, and then its run was prepared on the same content
    pub reads_on : (script : List StatementTree) (same : List ℕ → Content) (part run : CallCounts) (result : Result (List ℕ) Outcome)
        → Meets (ScriptComesTo (content r.script)) (passes script) → same ≡ content → LiesWithin part run
        → ReadsStep (printed_verdict r same script) part (IsReadFor r (fetches script)) result
        → ReadsBy (ComesTo asked content) run (IsAskedOf asked content) result
    reads_on script same part run result m is within h = record {
      agrees =
          met_behind (ScriptComesTo (content r.script)) (ComesTo asked content) (printed_verdict r content) script-comes script result m
          (subst (λ (con : List ℕ → Content). Agrees (printed_verdict r con script) result) is h.agrees);
      cause = cause_on script part run result m within h.cause;
      kept = record {
        faults = omega (arith, within.faults_from, within.faults_on, within.faults_to);
        misses = omega (arith, within.misses_from, within.misses_on, within.misses_to);
      };
    }

-- ---- what is asked for and the files decide the answer

decides_done : (receipts : List ReceiptState) (P : List ℕ → Type 0) (s : Verdict (List ℕ))
    → IfTold s (λ t. (text : List ℕ) × (t ≡ passes text) × P text) → Decides s (outcome.Done receipts)
decides_done receipts P untold h = tt
decides_done receipts P (refused answer) h = let e : refused answer ≡ passes h.0 = h.1 in cc
decides_done receipts P (passes text) h = inl tt

decides_write : (P : List ℕ → Type 0) (s : Verdict (List ℕ)) → IfTold s (λ t. (text : List ℕ) × (t ≡ passes text) × P text) → Decides s outcome.WriteFault
decides_write P untold h = tt
decides_write P (refused answer) h = let e : refused answer ≡ passes h.0 = h.1 in cc
decides_write P (passes text) h = inr (inl refl)

decides_in_place : (answer : Outcome) → IsInPlace answer → (s : Verdict (List ℕ)) → Decides s answer
decides_in_place answer p untold = tt
decides_in_place answer p (refused other) = inr p
decides_in_place answer p (passes text) = inr (inr p)

decides_refused : (answer : Outcome) (s : Verdict (List ℕ)) → IfTold s (λ t. t ≡ refused answer) → Decides s answer
decides_refused answer untold h = tt
decides_refused answer (refused other) h = let same : answer ≡ other = cc in inl same
decides_refused answer (passes text) h = cc

module _ (run : Run) (step : Verdict (List ℕ)) (comes : ComesTo run.asked run.content step) where
  same_step : (s : Verdict (List ℕ)) (answer : Outcome) → ComesTo run.asked run.content s → Decides s answer → Decides step answer
  same_step s answer other h = subst (λ t. Decides t answer) (comes_to_one run.asked run.content s step other comes) h

  met_step : (answer : Outcome) → Meets (ComesTo run.asked run.content) (refused answer) → Decides step answer
  met_step answer m = same_step m.step answer m.comes (decides_refused answer m.step m.is)

  decided_from : (answer : Outcome) → Explains run answer → Decides step answer
  decided_from (outcome.Done receipts) e = same_step e.step (outcome.Done receipts) e.comes (decides_done receipts _ e.step e.holds)
  decided_from outcome.WriteFault e = same_step e.1.step outcome.WriteFault e.1.comes (decides_write _ e.1.step e.1.holds)
  decided_from outcome.Memory e = decides_in_place outcome.Memory tt step
  decided_from (outcome.ReadFault name) e = decides_in_place (outcome.ReadFault name) tt step
  decided_from answer e = met_step answer e.agrees

pub decided : (run : Run) (answer : Outcome) → Explains run answer → (step : Verdict (List ℕ)) → ComesTo run.asked run.content step → Decides step answer
decided run answer e step comes = decided_from run step comes answer e

-- a text that they come to is the one that was printed
pub prints : (run : Run) (receipts : List ReceiptState) (text : List ℕ) → Explains run (outcome.Done receipts)
    → ComesTo run.asked run.content (passes text) → TookAll run.out text
prints run receipts text e comes =
    by (subst (λ (s : Verdict (List ℕ)). IfTold s (λ t. (printed : List ℕ) × (t ≡ passes printed) × TookAll run.out printed))
    (comes_to_one run.asked run.content e.step (passes text) e.comes comes) e.holds)
  where
    by : (printed : List ℕ) × (◌≡◌ {A = Verdict (List ℕ)} (passes text) (passes printed)) × TookAll run.out printed → TookAll run.out text
    by h = let same : text ≡ h.0 = passes-one h.1 in subst (TookAll run.out) (sym same) h.2

-- ---- the line of the answer

pub told_line : (err : Written) (line : List ℕ) (r : Result (Unit {0}) SinkFault) → Offers err line r → TellsLine err line
told_line err line (Ok x) told = inl told.ok
told_line err line (Err fault.Failed) told = inr (inl (told.failed refl), told.err)
told_line err line (Err fault.Memory) told = inr (inr (told.memory refl), told.err)
