-- What a run prints, by its mode.
--
--   notes_text r plan traffic                the plan and the traffic, each where it is asked for
--   text_in r stored plan traffic            the text of a mode over what is stored, the plan and the
--                                            traffic
--   printed_text r plan stored files c       the text of a run, by a plan or without
use Rattle.std.specs.Prelude.{ℕ, List, [], ◌++◌, Option, if◌then◌else◌}
use Rattle.rel_base.specs.Keys.{File}
use Rattle.algebra.specs.Trees.{CheckedTree}
use Rattle.algebra.specs.declared.notes.PlanNote.{PlanNote}
use Rattle.algebra.specs.declared.notes.Traffic.{Traffic}
use Rattle.placement.specs.Exchanges.{traffic_of}
use Rattle.placement.specs.Plans.{placing_by, plan_of}
use Rattle.fragmenter.specs.Plans.{PlanTree}
use Rattle.fragmenter.specs.NotedPlans.{noted_plan}
use Rattle.plan_json.specs.PlanTexts.{written}
use Rattle.plan_printer.specs.PlanTexts.{plan_text}
use Rattle.plan_printer.specs.TrafficTexts.{traffic_text}
use Rattle.output_texts.specs.OutputText.{output_text}
use Rattle.output_texts.specs.Stores.{all_rows}
use Rattle.output_texts.specs.TrialText.{trial_text}
use Rattle.command_words.specs.declared.requests.Mode.{Mode}
use Rattle.command_words.specs.declared.requests.Mode.TheVariants as mode
use Rattle.command_words.specs.declared.requests.Request.{Request}
use Rattle.myria_top.specs.Plans.{rules_asked}

-- the traffic, where it is asked for
abbrev pub asked_traffic : Request → List Traffic → List ℕ
asked_traffic r traffic = if r.traffic then traffic_text traffic else []

-- the plan and then the traffic, each where it is asked for
abbrev pub notes_text : Request → List PlanNote → List Traffic → List ℕ
notes_text r plan traffic =
    (if r.plan then plan_text plan else []) ++ asked_traffic r traffic

-- the text of each mode
abbrev pub text_of_mode : Mode → Request → List File → List PlanNote → List Traffic → List ℕ
text_of_mode mode.Run r stored plan traffic = output_text stored ++ notes_text r plan traffic
text_of_mode mode.Check r stored plan traffic = output_text stored
text_of_mode mode.Explain r stored plan traffic = plan_text plan
text_of_mode mode.Trial r stored plan traffic =
    trial_text r.size (all_rows stored) ++ notes_text r plan traffic
text_of_mode mode.Export r stored plan traffic = written (noted_plan plan r.settings.workers)
text_of_mode mode.Replay r stored plan traffic = output_text stored ++ asked_traffic r traffic

abbrev pub text_in : Request → List File → List PlanNote → List Traffic → List ℕ
text_in r = text_of_mode r.mode r

-- the text of the run of a checked script over its files, by the settings of the request and by a
-- plan where there is one, where the script stores these relations
abbrev pub printed_text : Request → Option PlanTree → List File → List File → CheckedTree → List ℕ
printed_text r plan stored files c =
    let p = placing_by r.settings (rules_asked r plan) in
    text_in r stored (plan_of p r.settings.local files c) (traffic_of p files c)
