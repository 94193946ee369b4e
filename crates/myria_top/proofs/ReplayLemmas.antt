-- The plan of a replay, and what a script comes to by it.
use Rattle.std.proofs.Common.{◌≡◌, ◌∙◌, ℕ, ◌≤◌, true, List, length, Option, Some, None, Ok, Err, Result, refl, sym, ap, subst, inl, inr}
use Rattle.std.specs.Prelude.{IfErr}
use Rattle.std.specs.Option.{option_map_or}
use Rattle.rel_base.specs.Keys.{File}
use Rattle.rel_io.specs.Outside.{Content, IsGiven, MayBeMissing}
use Rattle.rel_io.specs.Outside as outside
use Rattle.rel_io.specs.Shelves.{CallCounts}
use Rattle.myrial_ast.specs.Trees.{StatementTree}
use Rattle.algebra.specs.Trees.{CheckedTree}
use Rattle.myrial_types.specs.Checking.{checked_of}
use Rattle.fragmenter.specs.declared.plans.Plan.{Plan}
use Rattle.fragmenter.specs.Plans.{PlanTree, misfit}
use Rattle.fragmenter.specs.declared.plans.Misfit.{Misfit}
use Rattle.fragmenter.specs.declared.plans.Misfit.TheVariants as unfit
use Rattle.plan_json.specs.PlanTexts.{plan_of_text}
use Rattle.command_words.specs.Modes.{is_replay}
use Rattle.command_words.specs.declared.requests.Request.{Request}
use Rattle.myria_top.specs.declared.outcomes.Outcome.{Outcome}
use Rattle.myria_top.specs.declared.outcomes.Outcome.TheVariants as outcome
use Rattle.myria_top.specs.Plans.{asked_plan, misfit_answer, named_plan, plan_fitted, plan_read, plan_verdict}
use Rattle.myria_top.specs.Reading.{Agrees, AgreesRefused, HasCause, Meets}
use Rattle.myria_top.specs.Runs.{run_verdict, typed_verdict}
use Rattle.myria_top.specs.Verdicts.{Verdict, untold, refused, passes, IfTold}
use Rattle.myria_top.specs.inner.Working.{plan_of_read, IsOfPlan, IsOfPlanText, IsOfReplay, IsOfRun}
use Rattle.myria_top.proofs.MoveLemmas.{met-one}
use Rattle.myria_top.proofs.ReadingLemmas.{whole}
use Rattle.myria_top.proofs.RequestLemmas.{planned}
use Rattle.myria_top.proofs.RunLemmas.{agrees_behind, replay_runs}
use Rattle.myria_top.proofs.ScriptLemmas.{agrees_further, agrees_untold}
use Rattle.myria_top.proofs.VerdictLemmas.{goes_second, meets_step, refused_first, step_met}

-- ---- the text of a plan

module _ (workers : ℕ) (joins : List (ℕ × ℕ)) (bytes : List ℕ) where
  abbrev behind : Option PlanTree → Verdict PlanTree
  behind told = option_map_or (plan_fitted workers joins) told (refused outcome.BadPlan)

  pub no_plan : plan_of_text bytes ≡ None → AgreesRefused (plan_read workers joins bytes) outcome.BadPlan
  no_plan none = meets_step _ _ (subst (λ told. IfTold (behind told) (λ s. s ≡ refused outcome.BadPlan)) (sym none) refl)

  module _ (plan : PlanTree) (is : plan_of_text bytes ≡ Some plan) where
    abbrev fitted_by : Option Misfit → Verdict PlanTree
    fitted_by why = option_map_or (λ w. refused (misfit_answer plan.workers w)) why (passes plan)

    pub plan_step : (why : Option Misfit) → misfit plan joins workers ≡ why → plan_read workers joins bytes ≡ fitted_by why
    plan_step why e = ap behind is ∙ ap fitted_by e

    pub plan_fits : misfit plan joins workers ≡ None → Agrees (plan_read workers joins bytes) (Ok plan)
    plan_fits e = meets_step _ _ (subst (λ s. IfTold s (λ t. t ≡ passes plan)) (sym (plan_step None e)) refl)

    refused_at : (why : Misfit) → misfit plan joins workers ≡ Some why
        → IfTold (plan_read workers joins bytes) (λ t. t ≡ refused (misfit_answer plan.workers why))
    refused_at why e = subst (λ s. IfTold s (λ t. t ≡ refused (misfit_answer plan.workers why))) (sym (plan_step (Some why) e)) refl

    pub other_workers : misfit plan joins workers ≡ Some unfit.Workers
        → AgreesRefused (plan_read workers joins bytes) (outcome.PlanWorkers plan.workers)
    other_workers e = meets_step _ _ (refused_at unfit.Workers e)

    pub other_joins : (statement : ℕ) → misfit plan joins workers ≡ Some (unfit.Statement statement)
        → AgreesRefused (plan_read workers joins bytes) (outcome.PlanMisfit statement)
    other_joins statement e = meets_step _ _ (refused_at (unfit.Statement statement) e)

-- ---- the file of a plan

module _ (workers : ℕ) (joins : List (ℕ × ℕ)) where
  pub plan_absent : (content : Content) → MayBeMissing content → AgreesRefused (plan_verdict workers joins content) outcome.NoPlan
  plan_absent content missing = meets_step _ _ (by content missing)
    where
      by : (content : Content) → MayBeMissing content → IfTold (plan_verdict workers joins content) (λ t. t ≡ refused outcome.NoPlan)
      by outside.untold h = tt
      by outside.missing h = refl
      by (outside.there bytes) h = absurd h

  pub plan_told : (content : Content) (bytes : List ℕ) (r : Result PlanTree Outcome) → IsGiven content 65537 bytes → length bytes ≤ 65536
      → Agrees (plan_read workers joins bytes) r → Agrees (plan_verdict workers joins content) r
  plan_told outside.untold bytes r given short h =
      agrees_untold (λ s. s ≡ plan_read workers joins bytes) (λ s. s ≡ plan_verdict workers joins outside.untold) refl r h
  plan_told outside.missing bytes r given short h = absurd given
  plan_told (outside.there file) bytes r given short h =
      agrees_further (λ s. s ≡ plan_read workers joins bytes) (λ s. s ≡ plan_verdict workers joins (outside.there file))
      (λ s e. e ∙ sym (whole 65536 outcome.NoPlan outcome.PlanTooLong (plan_read workers joins) file bytes given short)) r h

-- ---- a script that is run by a plan

module _ (r : Request) (content : List ℕ → Content) (script : List StatementTree) (files : List File) (c : CheckedTree)
    (replay : is_replay r.mode ≡ true) (typed : checked_of files script ≡ Ok c) where
  abbrev some_plan : PlanTree → Verdict (Option PlanTree)
  some_plan plan = passes (Some plan)

  pub asked-told : (plan : PlanTree) → Meets (λ s. s ≡ named_plan r content c) (passes plan)
      → IfTold (asked_plan r content c) (λ t. t ≡ passes (Some plan))
  asked-told plan met =
      subst (λ s. IfTold s (λ t. t ≡ passes (Some plan))) (sym (planned r content c replay))
      (goes_second (named_plan r content c) some_plan plan (Some plan) (step_met (named_plan r content c) (passes plan) met) refl)

  -- its plan is refused
  pub plan_refuses : (answer : Outcome) → AgreesRefused (named_plan r content c) answer → AgreesRefused (run_verdict r content script files) answer
  plan_refuses answer h =
      subst (λ s. AgreesRefused s answer) (sym (replay_runs r script files content c typed))
      (refused_first (asked_plan r content c) (typed_verdict r script files c) answer
      (subst (λ s. AgreesRefused s answer) (sym (planned r content c replay)) (refused_first (named_plan r content c) some_plan answer h)))

  -- it is run by its plan
  pub plan_runs : (plan : PlanTree) (result : Result (List ℕ) Outcome) → Meets (λ s. s ≡ named_plan r content c) (passes plan)
      → Agrees (typed_verdict r script files c (Some plan)) result → Agrees (run_verdict r content script files) result
  plan_runs plan result met h =
      subst (λ s. Agrees s result) (sym (replay_runs r script files content c typed))
      (agrees_behind (asked_plan r content c) (typed_verdict r script files c) (Some plan) result (asked-told plan met) h)

  -- there is one such plan
  pub plan-one : (plan : PlanTree) (other : Option PlanTree) → Meets (λ s. s ≡ named_plan r content c) (passes plan)
      → asked_plan r content c ≡ passes other → Some plan ≡ other
  plan-one plan other met is = met-one (asked_plan r content c) (Some plan) other (asked-told plan met) is

-- ---- what a refusal is of

-- the text of a plan has the kinds of its file, and no count shows why it is refused
pub text-of_plan : (answer : Outcome) → IsOfPlanText answer → IsOfPlan answer
text-of_plan outcome.BadPlan h = tt
text-of_plan (outcome.PlanWorkers workers) h = tt
text-of_plan (outcome.PlanMisfit statement) h = tt
text-of_plan outcome.Memory h = tt
text-of_plan answer h = absurd h

of_text : (counts : CallCounts) (P : List ℕ → Type 0) (answer : Outcome) → IsOfPlanText answer → HasCause counts P answer
of_text counts P outcome.BadPlan h = tt
of_text counts P (outcome.PlanWorkers workers) h = tt
of_text counts P (outcome.PlanMisfit statement) h = tt
of_text counts P outcome.Memory h = tt
of_text counts P answer h = absurd h

pub plan_cause : (counts : CallCounts) (P : List ℕ → Type 0) (r : Result Plan Outcome) → IfErr r IsOfPlanText → IfErr (plan_of_read r) (HasCause counts P)
plan_cause counts P (Ok plan) h = tt
plan_cause counts P (Err answer) h = of_text counts P answer h

pub err-further : {X : Type 0} (P Q : Outcome → Type 0) (further : (answer : Outcome) → P answer → Q answer) (r : Result X Outcome)
    → IfErr r P → IfErr r Q
err-further P Q further (Ok x) h = tt
err-further P Q further (Err answer) h = further answer h

pub run-replays : (answer : Outcome) → IsOfRun answer → IsOfReplay answer
run-replays answer h = inl h

pub plan-replays : (answer : Outcome) → IsOfPlan answer → IsOfReplay answer
plan-replays answer h = inr h
