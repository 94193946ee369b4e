-- What a trial may answer: its script has no fault, so it comes to its text or to the fault of its run.
use Rattle.std.proofs.Common.{◌≡◌, ◌∙◌, ℕ, List, Option, Some, None, Ok, ap, sym, subst}
use Rattle.std.proofs.Common.{inl, inr}
use Rattle.std.specs.Option.{option_map_or}
use Rattle.rel_base.specs.declared.faults.RunFault.{RunFault}
use Rattle.rel_base.specs.declared.faults.RunFault.TheVariants as fault
use Rattle.myrial_types.specs.Checking.{checked_of}
use Rattle.trial_gen.specs.TrialScript.{trial_script}
use Rattle.trial_gen.specs.Trials.{trial_files}
use Rattle.trial_laws.specs.TrialSteps.{trial_checked}
use Rattle.trial_laws.specs.TrialTrees.{ReadsAs, trial_trees}
use Rattle.myria_top.specs.declared.outcomes.Outcome.{Outcome}
use Rattle.myria_top.specs.declared.outcomes.Outcome.TheVariants as outcome
use Rattle.myria_top.specs.Verdicts.{Verdict, passes, refused}
use Rattle.myria_top.specs.Requests.{script_asked}
use Rattle.myria_top.specs.Scripts.{a_script}
use Rattle.myria_top.specs.Runs.{of_trial, run_answer, trial_verdict, typed_verdict, when_typed}
use Rattle.myria_top.specs.Headline.{Run, IsAskedOf, the_script, of_untold, a_relation, the_plan, Explains, IsInPlace, IsDone, Decides}
use Rattle.myria_top.specs.TrialAnswers.{IsOfTrial, TrialsAreOfTheirRun}
use Rattle.myria_top.proofs.RequestLemmas.{no-plan, no-script, none-some}

-- ---- no file is asked for

module _ (run : Run) (none : script_asked run.asked ≡ None) where
  unasked : (name : List ℕ) → IsAskedOf run.asked run.content name → ⊥
  unasked name (the_script _ named) = none-some (sym none ∙ named)
  unasked name (of_untold _ _ named untold) = none-some (sym none ∙ named)
  unasked name (a_relation _ _ _ named read is_one) = none-some (sym none ∙ named)
  unasked name (the_plan _ named) = no-plan run.asked name none named

  -- so nothing could not be read
  in_place : (answer : Outcome) → Explains run answer → IsInPlace answer → IsOfTrial answer
  in_place outcome.Memory why is = tt
  in_place (outcome.ReadFault name) why is = absurd (unasked name why.cause.1)
  in_place (outcome.Done receipts) why is = absurd is
  in_place outcome.Usage why is = absurd is
  in_place outcome.NoScript why is = absurd is
  in_place outcome.ScriptTooLong why is = absurd is
  in_place outcome.ScriptNotText why is = absurd is
  in_place (outcome.Lex line what) why is = absurd is
  in_place (outcome.Syntax statement) why is = absurd is
  in_place (outcome.TooMany statement what) why is = absurd is
  in_place (outcome.Typing statement kind) why is = absurd is
  in_place (outcome.NoRelation key) why is = absurd is
  in_place (outcome.RelTooLong key) why is = absurd is
  in_place (outcome.BadRelation key fault) why is = absurd is
  in_place (outcome.TooManyRows statement) why is = absurd is
  in_place (outcome.Overflow statement) why is = absurd is
  in_place (outcome.AggregateOverflow statement) why is = absurd is
  in_place outcome.WriteFault why is = absurd is
  in_place outcome.NoPlan why is = absurd is
  in_place outcome.PlanTooLong why is = absurd is
  in_place outcome.BadPlan why is = absurd is
  in_place (outcome.PlanWorkers workers) why is = absurd is
  in_place (outcome.PlanMisfit statement) why is = absurd is

  -- ---- its run is done or has a fault

  faulty : (found : RunFault) → IsOfTrial (run_answer found)
  faulty (fault.TooManyRows statement) = tt
  faulty (fault.Overflow statement) = tt
  faulty (fault.AggregateOverflow statement) = tt
  faulty fault.Memory = tt

  done : (answer : Outcome) → IsDone answer → IsOfTrial answer
  done (outcome.Done receipts) is = tt
  done outcome.Usage is = absurd is
  done outcome.NoScript is = absurd is
  done outcome.ScriptTooLong is = absurd is
  done outcome.ScriptNotText is = absurd is
  done (outcome.Lex line what) is = absurd is
  done (outcome.Syntax statement) is = absurd is
  done (outcome.TooMany statement what) is = absurd is
  done (outcome.Typing statement kind) is = absurd is
  done (outcome.NoRelation key) is = absurd is
  done (outcome.RelTooLong key) is = absurd is
  done (outcome.BadRelation key fault) is = absurd is
  done (outcome.TooManyRows statement) is = absurd is
  done (outcome.Overflow statement) is = absurd is
  done (outcome.AggregateOverflow statement) is = absurd is
  done (outcome.ReadFault name) is = absurd is
  done outcome.WriteFault is = absurd is
  done outcome.Memory is = absurd is
  done outcome.NoPlan is = absurd is
  done outcome.PlanTooLong is = absurd is
  done outcome.BadPlan is = absurd is
  done (outcome.PlanWorkers workers) is = absurd is
  done (outcome.PlanMisfit statement) is = absurd is

  decided : (answer : Outcome) → Explains run answer → (found : Option RunFault) (text : List ℕ)
      → Decides (option_map_or (λ f. refused (run_answer f)) found (passes text)) answer → IsOfTrial answer
  decided answer why (Some found) text (inl is) = subst IsOfTrial (sym is) (faulty found)
  decided answer why (Some found) text (inr is) = in_place answer why is
  decided answer why None text (inl is) = done answer is
  decided answer why None text (inr (inl is)) = subst IsOfTrial (sym is) tt
  decided answer why None text (inr (inr is)) = in_place answer why is

pub trial-answers : ReadsAs trial_script trial_trees → ((n : ℕ) → checked_of (trial_files n) trial_trees ≡ Ok trial_checked)
    → TrialsAreOfTheirRun
trial-answers read typed run err answer r kept asks trial =
    let comes = of_trial r (passes trial_trees) asks trial (a_script read.tokens trial_trees read.are read.is) in
    let same : trial_verdict r trial_trees ≡ typed_verdict r trial_trees (trial_files r.size) trial_checked None =
    ap (λ c. when_typed c (λ d. typed_verdict r trial_trees (trial_files r.size) d None)) (typed r.size) in
    decided run (no-script run.asked r asks trial) answer kept.explained _ _
    (subst (λ (s : Verdict (List ℕ)). Decides s answer) same (kept.decided (trial_verdict r trial_trees) comes))
