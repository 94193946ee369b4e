-- The flag to reduce changes no fault where no prefix counts, and no answer of a run that prints what it stores alone.
use Rattle.std.proofs.Common.{◌≡◌, ℕ, suc, Bool, List, [], ◌∷◌, ◌++◌, refl, sym, ◌∙◌, ap, false, Option, None, if◌then◌else◌}
use Rattle.std.specs.Prelude.{is_some}
use Rattle.std.specs.Option.{option_map_or}
use Rattle.rel_base.specs.Keys.{File}
use Rattle.rel_base.specs.declared.faults.RunFault.{RunFault}
use Rattle.myrial_ast.specs.Trees.{RelTree, StatementTree}
use Rattle.myrial_ast.specs.Trees as tree
use Rattle.myrial_ast.specs.CandidateFaults.{FaultRule, Uncounted, joins_alone}
use Rattle.myrial_meaning.specs.Faults.{relation_fault, statement_fault, in_each, fault_from, run_fault}
use Rattle.myrial_meaning.specs.Environments.{nothing_yet}
use Rattle.myrial_meaning.specs.Meaning.{RelationEnvironment, after, stored_relations}
use Rattle.myrial_meaning.specs.Needed.{is_needed}
use Rattle.myrial_meaning.specs.Fetches.{fetches}
use Rattle.algebra.specs.Trees.{CheckedTree}
use Rattle.myrial_types.specs.Checking.{checked_of}
use Rattle.placement.specs.Exchanges.{traffic_of}
use Rattle.placement.specs.Plans.{usual_rule, usual_rules, placing_by, plan_of}
use Rattle.placement.specs.Runs.{prefixes_of, faults_at}
use Rattle.fragmenter.specs.Plans.{PlanTree}
use Rattle.plan_printer.specs.PlanTexts.{plan_text}
use Rattle.plan_printer.specs.TrafficTexts.{traffic_text}
use Rattle.output_texts.specs.OutputText.{output_text}
use Rattle.command_words.specs.Modes.{is_replay}
use Rattle.command_words.specs.declared.requests.Request.{Request}
use Rattle.myria_top.specs.Printed.{text_of_mode, printed_text}
use Rattle.myria_top.specs.Plans.{faults_asked}
use Rattle.myria_top.specs.Requests.{is_check}
use Rattle.myria_top.specs.Runs.{files_verdict, run_answer, when_typed, typed_verdict, planned_verdict}
use Rattle.myria_top.specs.Verdicts.{Verdict, refused, passes, and_then}
use Rattle.myria_top.proofs.RequestLemmas.{unplanned}
use Rattle.myria_top.specs.Reducing.{StoresAlone, reducing, ReducingKeepsFaults, ReducingKeepsAnswers}

module _ (reduce : Bool) (files : List File) where
  abbrev rule : FaultRule
  rule = record { prefixes = Uncounted; reduce = reduce }

  relation-fault : (number : ℕ) (env : RelationEnvironment) (r : RelTree)
      → relation_fault rule number files env r ≡ relation_fault joins_alone number files env r
  relation-fault number env (tree.From items condition emits) = refl
  relation-fault number env (tree.UnionAll o p) = refl
  relation-fault number env _ = refl

  statement-fault : (number : ℕ) (env : RelationEnvironment) (s : StatementTree)
      → statement_fault rule number files env s ≡ statement_fault joins_alone number files env s
  statement-fault number env (tree.Assign name r) = relation-fault number env r
  statement-fault number env _ = refl

  abbrev or_later : Bool → Option RunFault → Option RunFault → Option RunFault
  or_later needed here later =
      let own = if needed then here else None in
      if is_some own then own else later

  first-fault : (number : ℕ) (env : RelationEnvironment) (script : List StatementTree)
      → fault_from (in_each rule) files number env script ≡ fault_from (in_each joins_alone) files number env script
  first-fault number env [] = refl
  first-fault number env (s ∷ rest) =
      λ i. or_later (is_needed s rest) (statement-fault number env s i) (first-fault (suc number) (after files env s) rest i)

pub reducing_keeps_faults : ReducingKeepsFaults
reducing_keeps_faults reduce files script = first-fault reduce files 1 nothing_yet script

-- ---- what is printed

module _ (r : Request) (alone : StoresAlone r) (uncounted : prefixes_of (usual_rule r.settings.shuffle) ≡ Uncounted) (script : List StatementTree)
    (files : List File) (c : CheckedTree) where
  fault-alone : run_fault (faults_asked r None) files script ≡ run_fault (in_each joins_alone) files script
  fault-alone =
      ap (λ m. run_fault (if is_check m then in_each joins_alone else faults_at r.settings (usual_rules r.settings)) files script) alone.0
      ∙ ap (λ p. run_fault (in_each (record { prefixes = p; reduce = r.settings.reduce })) files script) uncounted
      ∙ reducing_keeps_faults r.settings.reduce files script

  text-alone : printed_text r None (stored_relations files script) files c ≡ output_text (stored_relations files script) ++ ([] ++ [])
  text-alone =
      let p = placing_by r.settings (usual_rules r.settings) in
      let plan = plan_of p r.settings.local files c in
      let traffic = traffic_of p files c in
      ap (λ m. text_of_mode m r (stored_relations files script) plan traffic) alone.0
      ∙ (λ i. output_text (stored_relations files script)
      ++ ((if alone.1 i then plan_text plan else []) ++ (if alone.2 i then traffic_text traffic else [])))

  verdict-alone : typed_verdict r script files c None
      ≡ option_map_or (λ found. refused (run_answer found)) (run_fault (in_each joins_alone) files script)
      (passes (output_text (stored_relations files script) ++ ([] ++ [])))
  verdict-alone = λ i. option_map_or (λ found. refused (run_answer found)) (fault-alone i) (passes (text-alone i))

pub reducing-keeps-answers : ReducingKeepsAnswers
reducing-keeps-answers r reduce alone uncounted content script =
    ap (and_then (files_verdict content (fetches script)))
    (λ i files. when_typed (checked_of files script) (λ c. same files c i))
  where
    replays : is_replay r.mode ≡ false
    replays = ap is_replay alone.0

    same : (files : List File) (c : CheckedTree) → planned_verdict (reducing r reduce) content script files c ≡ planned_verdict r content script files c
    same files c =
        ap (λ (v : Verdict (Option PlanTree)). and_then v (typed_verdict (reducing r reduce) script files c)) (unplanned (reducing r reduce) content c replays)
        ∙ verdict-alone (reducing r reduce) alone uncounted script files c ∙ sym (verdict-alone r alone uncounted script files c)
        ∙ sym (ap (λ (v : Verdict (Option PlanTree)). and_then v (typed_verdict r script files c)) (unplanned r content c replays))
