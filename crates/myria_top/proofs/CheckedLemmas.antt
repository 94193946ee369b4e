-- What a checked script comes to over its files, at workers and without them.
use Rattle.std.proofs.Common.{◌≡◌, ℕ, false, cond, List, map, Option, Some, None, Ok, refl, sym, ◌∙◌, ap, subst}
use Rattle.std.specs.Prelude.{All, IsTrue}
use Rattle.std.specs.List.{flat_map}
use Rattle.std.specs.Option.{option_map_or}
use Rattle.rel_base.specs.Keys.{File}
use Rattle.rel_base.specs.declared.faults.RunFault.{RunFault}
use Rattle.rel_base.specs.declared.faults.RunFault.TheVariants as fault
use Rattle.myrial_ast.specs.CandidateFaults.{FaultRule, joins_alone}
use Rattle.myrial_ast.specs.Trees.{StatementTree}
use Rattle.myrial_meaning.specs.Evaluating.{IsFault}
use Rattle.myrial_meaning.specs.Faults.{in_each, run_fault}
use Rattle.myrial_meaning.specs.Meaning.{stored_relations}
use Rattle.myrial_meaning.specs.SortedFiles.{sorted_file}
use Rattle.algebra.specs.Conditions.{is_of}
use Rattle.algebra.specs.Meanings.{checked_fault, stored_by}
use Rattle.algebra.specs.Rewriting.{AreTyped}
use Rattle.algebra.specs.Trees.{CheckedTree}
use Rattle.myrial_types.specs.Checking.{checked_of}
use Rattle.myrial_types.specs.Fetching.{have_forms}
use Rattle.myrial_types.specs.Laws.{StepsHaveTheFault, StepsMeanTheScript}
use Rattle.placement.specs.Exchanges.{traffic_of}
use Rattle.placement.specs.Layouts.{placed_stores}
use Rattle.placement.specs.Plans.{ShuffleRule, plan_of, placing_by}
use Rattle.placement.proofs.ScriptLemmas.{parts_hold_the_rows}
use Rattle.placement.proofs.StoredLemmas.{placed_are_stored}
use Rattle.placement.proofs.RuleLemmas.{ruled_is_placing}
use Rattle.placement.specs.Runs.{fault_of, faults_at}
use Rattle.fragmenter.specs.Plans.{PlanTree}
use Rattle.plan_printer.specs.TrafficTexts.{IsWhole}
use Rattle.engine.specs.Runs.{IsRan, IsRunFault}
use Rattle.engine.specs.declared.results.Ran.{Ran}
use Rattle.output_texts.specs.Laws.{SortedLinesAreTheText}
use Rattle.output_texts.specs.OutputText.{output_text, relation_lines}
use Rattle.output_texts.specs.Stores.{whole_store}
use Rattle.output_texts.proofs.StoreLemmas.{unplaced}
use Rattle.command_words.specs.declared.requests.Mode.TheVariants as mode
use Rattle.command_words.specs.declared.requests.Request.{Request}
use Rattle.myria_top.specs.declared.outcomes.Outcome.{Outcome}
use Rattle.myria_top.specs.Printed.{printed_text, text_in, text_of_mode}
use Rattle.myria_top.specs.Reading.{AgreesRefused}
use Rattle.myria_top.specs.Plans.{faults_asked, rules_asked}
use Rattle.myria_top.specs.Requests.{is_check}
use Rattle.myria_top.specs.Runs.{run_answer, typed_verdict}
use Rattle.myria_top.specs.Verdicts.{Verdict, refused, passes, IfTold}
use Rattle.myria_top.specs.inner.Working.{checked_verdict, evaluated_verdict}
use Rattle.myria_top.proofs.PrintedLemmas.{text-placed}
use Rattle.myria_top.proofs.RequestLemmas.{faults-at-workers}
use Rattle.myria_top.proofs.TrafficLemmas.{traffic-whole}
use Rattle.myria_top.proofs.VerdictLemmas.{meets_step}

-- ---- a fault, or else a text

module _ (text : List ℕ) where
  abbrev verdict : Option RunFault → Verdict (List ℕ)
  verdict found = option_map_or (λ why. refused (run_answer why)) found (passes text)

  pub no_fault : (own : Option RunFault) (other : List ℕ) → own ≡ None → other ≡ text → IfTold (verdict own) (λ v. v ≡ passes other)
  no_fault own other none same =
      let step : verdict own ≡ passes other = ap verdict none ∙ ap passes (sym same) in
      subst (λ (v : Verdict (List ℕ)). IfTold v (λ t. t ≡ passes other)) (sym step) refl

  refused_at : (own : Option RunFault) (why : RunFault) → own ≡ Some why → IfTold (verdict own) (λ v. v ≡ refused (run_answer why))
  refused_at own why found = subst (λ (o : Option RunFault). IfTold (verdict o) (λ v. v ≡ refused (run_answer why))) (sym found) refl

  refuses : (own : Option RunFault) (why : RunFault) → IsRunFault own why → AgreesRefused (verdict own) (run_answer why)
  refuses own (fault.TooManyRows number) h = meets_step _ _ (refused_at own (fault.TooManyRows number) h)
  refuses own (fault.Overflow number) h = meets_step _ _ (refused_at own (fault.Overflow number) h)
  refuses own (fault.AggregateOverflow number) h = meets_step _ _ (refused_at own (fault.AggregateOverflow number) h)
  refuses own fault.Memory h = tt

  -- the answer to a fault of the run
  pub fault_refuses : (own : Option RunFault) (why : RunFault) (answer : Outcome) → answer ≡ run_answer why → IsRunFault own why
      → AgreesRefused (verdict own) answer
  fault_refuses own why answer is h = subst (AgreesRefused (verdict own)) (sym is) (refuses own why h)

-- ---- a run at workers

module _ (r : Request) (plan : Option PlanTree) (files : List File) (c : CheckedTree) (workers : is_check r.mode ≡ false) where
  abbrev rules : ℕ → ShuffleRule
  rules = rules_asked r plan

  abbrev own_fault : Option RunFault
  own_fault = checked_fault (faults_asked r plan) files c

  fault-same : fault_of r.settings rules files c ≡ own_fault
  fault-same = ap (λ (faults : ℕ → FaultRule). checked_fault faults files c) (sym (faults-at-workers r plan workers))

  -- a run that ends well prints this text
  pub ran-prints : (ran : Ran) (text : List ℕ) → IsTrue (is_of files c) → AreTyped files → IsRan r.settings rules files c ran
      → text ≡ text_in r (map whole_store ran.stored) ran.plan ran.traffic
      → IfTold (checked_verdict r plan files c) (λ v. v ≡ passes text)
  ran-prints ran text of typed h is =
      let s = r.settings in
      let p = placing_by s rules in
      let placed = parts_hold_the_rows p files c (ruled_is_placing s rules s.workers_in_range.0) of typed in
      let own : text_in r (map whole_store ran.stored) ran.plan ran.traffic
      ≡ text_in r (map unplaced (placed_stores p files c)) ran.plan ran.traffic =
      text-placed r s.workers ran.stored (placed_stores p files c) ran.plan ran.traffic h.stored placed in
      let notes : text_in r (map unplaced (placed_stores p files c)) ran.plan ran.traffic ≡ printed_text r plan (stored_by files c) files c =
      λ i. text_in r (placed_are_stored p files c i) (h.plan i) (h.traffic i) in
      no_fault (printed_text r plan (stored_by files c) files c) own_fault text (sym fault-same ∙ h.sound) (is ∙ own ∙ notes)

  -- and a fault of the run is the script's
  pub ran-refuses : (why : RunFault) (answer : Outcome) → answer ≡ run_answer why → IsRunFault (fault_of r.settings rules files c) why
      → AgreesRefused (checked_verdict r plan files c) answer
  ran-refuses why answer is h =
      fault_refuses (printed_text r plan (stored_by files c) files c) own_fault why answer is
      (subst (λ (o : Option RunFault). IsRunFault o why) fault-same h)

-- the traffic of a run has both numbers of each worker
pub ran-whole : (r : Request) (plan : Option PlanTree) (files : List File) (c : CheckedTree) (ran : Ran) → IsTrue (is_of files c) → AreTyped files
    → IsRan r.settings (rules_asked r plan) files c ran → All IsWhole ran.traffic
ran-whole r plan files c ran of typed h =
    subst (All IsWhole) (sym h.traffic)
    (traffic-whole (placing_by r.settings (rules_asked r plan)) files c (ruled_is_placing r.settings (rules_asked r plan) r.settings.workers_in_range.0) of typed)

-- ---- a run without workers

module _ (script : List StatementTree) (files : List File) where
  -- an evaluation that ends well prints this text
  pub evaluated-prints : (stored : List File) (text : List ℕ) → SortedLinesAreTheText → run_fault (in_each joins_alone) files script ≡ None
      → stored ≡ map sorted_file (stored_relations files script) → text ≡ flat_map relation_lines stored
      → IfTold (evaluated_verdict script files) (λ v. v ≡ passes text)
  evaluated-prints stored text law sound are is =
      no_fault (output_text (stored_relations files script)) (run_fault (in_each joins_alone) files script) text sound
      (is ∙ ap (flat_map relation_lines) are ∙ law (stored_relations files script))

  run-fault : (own : Option RunFault) (why : RunFault) → IsFault why own → IsRunFault own why
  run-fault own (fault.TooManyRows number) h = h
  run-fault own (fault.Overflow number) h = h
  run-fault own (fault.AggregateOverflow number) h = h
  run-fault own fault.Memory h = tt

  pub evaluated-refuses : (why : RunFault) (answer : Outcome) → answer ≡ run_answer why → IsFault why (run_fault (in_each joins_alone) files script)
      → AgreesRefused (evaluated_verdict script files) answer
  evaluated-refuses why answer is h =
      fault_refuses (output_text (stored_relations files script)) (run_fault (in_each joins_alone) files script) why answer is
      (run-fault (run_fault (in_each joins_alone) files script) why h)

  -- in a check the script comes to what its evaluation comes to
  pub evaluated_is_typed : (r : Request) (c : CheckedTree) → r.mode ≡ mode.Check
      → evaluated_verdict script files ≡ typed_verdict r script files c None
  evaluated_is_typed r c e =
      let p = placing_by r.settings (rules_asked r None) in
      let plan = plan_of p r.settings.local files c in
      let traffic = traffic_of p files c in
      λ i. option_map_or (λ why. refused (run_answer why)) (run_fault (cond (is_check (sym e i)) (in_each joins_alone) (faults_at r.settings (rules_asked r None))) files script)
      (passes (text_of_mode (sym e i) r (stored_relations files script) plan traffic))

-- ---- the script that was checked

-- its steps come to what it comes to
pub checked_is_typed : (r : Request) (plan : Option PlanTree) (files : List File) (c : CheckedTree) → StepsHaveTheFault → StepsMeanTheScript
    → (script : List StatementTree) → IsTrue (have_forms files script) → checked_of files script ≡ Ok c
    → checked_verdict r plan files c ≡ typed_verdict r script files c plan
checked_is_typed r plan files c faults means script formed is =
    λ i. option_map_or (λ why. refused (run_answer why)) (faults (faults_asked r plan) files script c formed is i)
    (passes (printed_text r plan (means files script c formed is i) files c))
