-- What the first bytes of a script's file show of what the file comes to.
use Rattle.std.proofs.Common.{◌≡◌, ℕ, ◌<◌, ◌≤◌, min, List, length, Ok, Err, Result, refl, ◌∙◌, ap, subst, arith, inl, inr}
use Rattle.std.specs.Prelude.{IfErr}
use Rattle.std.proofs.lemmas.List.{take_all, length-take}
use Rattle.rel_io.specs.Outside.{Content, IsGiven, MayBeMissing}
use Rattle.rel_io.specs.Outside as outside
use Rattle.myrial_ast.specs.declared.statements.Stmt.{Stmt}
use Rattle.myrial_ast.specs.Trees.{StatementTree}
use Rattle.rel_io.specs.Shelves.{CallCounts}
use Rattle.myria_top.specs.declared.outcomes.Outcome.{Outcome}
use Rattle.myria_top.specs.declared.outcomes.Outcome.TheVariants as outcome
use Rattle.myria_top.specs.Reading.{AgreesBy, HasCause, Meets, RefusesBy}
use Rattle.myria_top.specs.Scripts.{TextComesTo, ScriptComesTo, not_told, no_script, too_long, short, trees_read}
use Rattle.myria_top.specs.declared.unprinted.Unprinted.{Unprinted}
use Rattle.myria_top.specs.inner.Working.{text_of, IsOfRun, IsOfText, NeedsNoCount}
use Rattle.myria_top.specs.Verdicts.{Verdict, untold, refused, passes}

-- ---- steps of one relation and another

module _ {X : Type 0} (Comes Further : Verdict X → Type 0) (further : (s : Verdict X) → Comes s → Further s) where
  met : (wanted : Verdict X) → Meets Comes wanted → Meets Further wanted
  met wanted h = record { step = h.step; comes = further h.step h.comes; is = h.is }

  refused_further : (answer : Outcome) → RefusesBy Comes answer → RefusesBy Further answer
  refused_further (outcome.Done receipts) h = h
  refused_further outcome.WriteFault h = h
  refused_further (outcome.ReadFault name) h = tt
  refused_further outcome.Memory h = tt
  refused_further answer h = met (refused answer) h

  pub agrees_further : (r : Result X Outcome) → AgreesBy Comes r → AgreesBy Further r
  agrees_further (Ok x) h = met (passes x) h
  agrees_further (Err answer) h = refused_further answer h

-- where nothing is told, everything agrees but an answer after the output
module _ {X : Type 0} (Comes Further : Verdict X → Type 0) (further : Further untold) where
  met_untold : (wanted : Verdict X) → Meets Further wanted
  met_untold wanted = record { step = untold; comes = further; is = tt }

  refused_untold : (answer : Outcome) → RefusesBy Comes answer → RefusesBy Further answer
  refused_untold (outcome.Done receipts) h = h
  refused_untold outcome.WriteFault h = h
  refused_untold (outcome.ReadFault name) h = tt
  refused_untold outcome.Memory h = tt
  refused_untold answer h = met_untold (refused answer)

  pub agrees_untold : (r : Result X Outcome) → AgreesBy Comes r → AgreesBy Further r
  agrees_untold (Ok x) h = met_untold (passes x)
  agrees_untold (Err answer) h = refused_untold answer h

-- ---- the file of a script

pub absent : (content : Content) → MayBeMissing content → Meets (ScriptComesTo content) (refused outcome.NoScript)
absent outside.untold h = record { step = untold; comes = not_told; is = tt }
absent outside.missing h = record { step = refused outcome.NoScript; comes = no_script; is = refl }
absent (outside.there bytes) h = absurd h

pub long : (content : Content) (bytes : List ℕ) → IsGiven content 65537 bytes → 65536 < length bytes → Meets (ScriptComesTo content) (refused outcome.ScriptTooLong)
long outside.untold bytes given h = record { step = untold; comes = not_told; is = tt }
long outside.missing bytes given h = absurd given
long (outside.there file) bytes given h =
    let size : length bytes ≡ min 65537 (length file) = ap length given ∙ length-take 65537 file in
    record { step = refused outcome.ScriptTooLong; comes = too_long file (omega arith); is = refl }

pub text_read : (content : Content) (bytes : List ℕ) (r : Result (List StatementTree) Outcome) → IsGiven content 65537 bytes → length bytes ≤ 65536
    → AgreesBy (TextComesTo bytes) r → AgreesBy (ScriptComesTo content) r
text_read outside.untold bytes r given h a = agrees_untold (TextComesTo bytes) (ScriptComesTo outside.untold) not_told r a
text_read outside.missing bytes r given h a = absurd given
text_read (outside.there file) bytes r given h a =
    let size : length bytes ≡ min 65537 (length file) = ap length given ∙ length-take 65537 file in
    let fits : length file ≤ 65536 = omega arith in
    let same : bytes ≡ file = given ∙ take_all 65537 file (omega arith) in
    agrees_further (TextComesTo bytes) (ScriptComesTo (outside.there file))
    (λ s comes. short file s fits (subst (λ (b : List ℕ). TextComesTo b s) same comes)) r a

-- a refusal of the text of a script, or of its run, needs no count
of_text : (counts : CallCounts) (P : List ℕ → Type 0) (answer : Outcome) → IsOfText answer → HasCause counts P answer
of_text counts P outcome.ScriptNotText h = tt
of_text counts P (outcome.Lex line what) h = tt
of_text counts P (outcome.Syntax statement) h = tt
of_text counts P (outcome.TooMany statement what) h = tt
of_text counts P outcome.Memory h = tt
of_text counts P answer h = absurd h

pub of_run : (counts : CallCounts) (P : List ℕ → Type 0) (answer : Outcome) → IsOfRun answer → HasCause counts P answer
of_run counts P (outcome.Typing statement kind) h = tt
of_run counts P (outcome.TooManyRows statement) h = tt
of_run counts P (outcome.Overflow statement) h = tt
of_run counts P (outcome.AggregateOverflow statement) h = tt
of_run counts P outcome.Memory h = tt
of_run counts P answer h = absurd h

pub text_cause : (counts : CallCounts) (P : List ℕ → Type 0) (r : Result (List Stmt) Outcome) → IfErr r IsOfText → IfErr (trees_read r) (HasCause counts P)
text_cause counts P (Ok x) h = tt
text_cause counts P (Err answer) h = of_text counts P answer h

pub run_cause : {X : Type 0} (counts : CallCounts) (P : List ℕ → Type 0) (r : Result X Outcome) → IfErr r IsOfRun → IfErr r (HasCause counts P)
run_cause counts P (Ok x) h = tt
run_cause counts P (Err answer) h = of_run counts P answer h

pub trial_cause : {X : Type 0} (counts : CallCounts) (P : List ℕ → Type 0) (r : Result X Outcome) → IfErr r NeedsNoCount → IfErr r (HasCause counts P)
trial_cause counts P (Ok x) h = tt
trial_cause counts P (Err answer) (inl h) = of_text counts P answer h
trial_cause counts P (Err answer) (inr h) = of_run counts P answer h

-- a refusal of a run is that of its text
pub text_kind : (P : Outcome → Type 0) (r : Result Unprinted Outcome) → IfErr r P → IfErr (text_of r) P
text_kind P (Ok x) h = tt
text_kind P (Err answer) h = h
