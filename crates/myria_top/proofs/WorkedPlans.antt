-- Worked exports and replays, each proved by computing: what a script comes to by a plan that is given.
use Rattle.std.proofs.Common.{◌≡◌, ℕ, cond, List, [], ◌∷◌, ◌++◌, None, Some, codes, refl}
use Rattle.std.specs.Fmt.{digits}
use Rattle.std.specs.Str.{bytes_eq, chars, is_utf8}
use Rattle.json.specs.Print.{escape_byte}
use Rattle.serde_json.proofs.OnLiterals.{serde_json_on_literals}
use Rattle.clap.proofs.OnLiterals.{clap_on_literals}
use Rattle.relation_csv.proofs.OnLiterals.{files_on_literals}
use Rattle.rel_io.specs.Outside.{Content, missing, there}
use Rattle.algebra.specs.declared.settings.ShuffleKind.TheVariants as shuffle
use Rattle.share_chooser.specs.Load as load
use Rattle.command_words.specs.Commands.{command}
use Rattle.command_words.specs.Requests.{asked}
use Rattle.command_words.specs.declared.requests.Mode.TheVariants as mode
use Rattle.command_words.specs.declared.requests.Request.{Request}
use Rattle.myria_top.specs.declared.outcomes.Outcome.TheVariants as outcome
use Rattle.myria_top.specs.Outcomes.{line_of}
use Rattle.myria_top.specs.Requests.{name_given, plan_asked}
use Rattle.myria_top.specs.Runs.{printed_verdict}
use Rattle.myria_top.specs.Verdicts.{passes, refused}
use Rattle.myria_top.proofs.WorkedRows.{join_of_keys, myria, two_workers}

-- a relation of four keys, and a plan
abbrev with_plan : List ℕ → List ℕ → Content
with_plan text name =
    cond (bytes_eq name (codes "public:adhoc:R.csv")) (there (codes "x:int\n0\n1\n2\n3\n"))
    (cond (bytes_eq name (codes "p.json")) (there text) missing)

-- a replay at two workers whose settings say cells
abbrev replay : Request
replay = record (two_workers shuffle.Hc) {
  mode = mode.Replay;
  from = Some (codes "p.json");
  plan_named = refl;
}

-- an export at two workers by cells
abbrev export : Request
export = record (two_workers shuffle.Hc) { mode = mode.Export }

-- ---- the plan that is asked for

abbrev replaying : List (List ℕ)
replaying = myria (codes "--mode" ∷ codes "replay" ∷ codes "--from" ∷ codes "p.json" ∷ codes "q" ∷ [])

pub asked-plan : plan_asked (asked replaying) ≡ Some (codes "p.json")
unfolding clap_on_literals command
asked-plan = refl

pub asked-no_replay : plan_asked (asked (myria (codes "--from" ∷ codes "p.json" ∷ codes "q" ∷ []))) ≡ None
unfolding clap_on_literals command
asked-no_replay = refl

-- a plan that isn't there is told by its name, and everything else by that of the script
pub named-plan : name_given (asked replaying) outcome.NoPlan ≡ codes "p.json"
unfolding clap_on_literals command
named-plan = refl

pub named-script : name_given (asked replaying) outcome.NoScript ≡ codes "q"
unfolding clap_on_literals command
named-script = refl

-- ---- exported

pub exported : printed_verdict export (with_plan []) join_of_keys
    ≡ passes (codes "{\"steps\":[{\"shares\":[2],\"shuffle\":\"hc\",\"statement\":1}],\"workers\":2}\n")
unfolding files_on_literals digits escape_byte load.comes_before load.load_of
exported = refl

-- ---- replayed

abbrev stored : List ℕ
stored = codes "-- store public:adhoc:Out 4 rows\nx:int\n0\n1\n2\n3\n"

-- the plan says keys, and is gone by whatever the settings say
pub replayed-by_keys : printed_verdict replay (with_plan (codes "{\"workers\":2,\"steps\":[{\"statement\":1,\"shuffle\":\"rs\"}]}")) join_of_keys
    ≡ passes (stored ++ codes "-- traffic 1 join rs step 2\n-- worker 0 received 4 listed 2\n-- worker 1 received 4 listed 2\n")
unfolding files_on_literals serde_json_on_literals chars is_utf8 digits
replayed-by_keys = refl

-- shares of one cell send all rows to worker 0
pub replayed-at_one_cell : printed_verdict replay (with_plan (codes "{\"workers\":2,\"steps\":[{\"statement\":1,\"shuffle\":\"hc\",\"shares\":[1]}]}")) join_of_keys
    ≡ passes (stored ++ codes "-- traffic 1 join hc\n-- worker 0 received 8 listed 4\n-- worker 1 received 0 listed 0\n")
unfolding files_on_literals serde_json_on_literals chars is_utf8 digits
replayed-at_one_cell = refl

-- ---- refused

pub refused-without_a_plan : printed_verdict (record replay { from = Some (codes "q.json"); plan_named = refl }) (with_plan []) join_of_keys
    ≡ refused outcome.NoPlan
unfolding files_on_literals
refused-without_a_plan = refl

pub refused-no_json : printed_verdict replay (with_plan (codes "{}}")) join_of_keys ≡ refused outcome.BadPlan
unfolding files_on_literals serde_json_on_literals chars is_utf8
refused-no_json = refl

pub refused-other_workers : printed_verdict replay (with_plan (codes "{\"workers\":8,\"steps\":[{\"statement\":1,\"shuffle\":\"rs\"}]}")) join_of_keys
    ≡ refused (outcome.PlanWorkers 8)
unfolding files_on_literals serde_json_on_literals chars is_utf8
refused-other_workers = refl

pub refused-without_a_choice : printed_verdict replay (with_plan (codes "{\"workers\":2,\"steps\":[]}")) join_of_keys
    ≡ refused (outcome.PlanMisfit 1)
unfolding files_on_literals serde_json_on_literals chars is_utf8
refused-without_a_choice = refl

pub refused-too_many_cells : printed_verdict replay (with_plan (codes "{\"workers\":2,\"steps\":[{\"statement\":1,\"shuffle\":\"hc\",\"shares\":[3]}]}")) join_of_keys
    ≡ refused (outcome.PlanMisfit 1)
unfolding files_on_literals serde_json_on_literals chars is_utf8
refused-too_many_cells = refl

-- ---- lines on standard error

pub line-no_plan : line_of (codes "p.json") outcome.NoPlan ≡ codes "myria: no plan p.json\n"
line-no_plan = refl

pub line-too_long : line_of (codes "q") outcome.PlanTooLong ≡ codes "myria: plan too long\n"
line-too_long = refl

pub line-bad_plan : line_of (codes "q") outcome.BadPlan ≡ codes "myria: bad plan\n"
line-bad_plan = refl

pub line-other_workers : line_of (codes "q") (outcome.PlanWorkers 8) ≡ codes "myria: plan is for 8 workers\n"
unfolding digits
line-other_workers = refl

pub line-misfit : line_of (codes "q") (outcome.PlanMisfit 12) ≡ codes "myria: plan does not fit statement 12\n"
unfolding digits
line-misfit = refl
