-- One request is asked for, and what it says of the script.
use Rattle.std.proofs.Common.{◌≡◌, ◌≤◌, ◌∙◌, refl, ap, sym, ℕ, List, [], Bool, true, false, not, cond, ◌||◌, is_some, Option, Some, None}
use Rattle.std.specs.Prelude.{unwrap_or}
use Rattle.std.specs.Coded.{×_prop, le_prop}
use mathlib.Core.HLevel.{is_prop→PathP}
use mathlib.Core.Bool.{Bool-set}
use Rattle.rel_io.specs.Outside.{Content}
use Rattle.algebra.specs.Trees.{CheckedTree}
use Rattle.myrial_ast.specs.CandidateFaults.{joins_alone}
use Rattle.myrial_meaning.specs.Faults.{in_each}
use Rattle.placement.specs.Runs.{faults_at}
use Rattle.fragmenter.specs.Plans.{PlanTree}
use Rattle.command_words.specs.Limits.{most_size}
use Rattle.command_words.specs.Modes.{has_its_plan, is_replay}
use Rattle.command_words.specs.declared.requests.Mode.{Mode}
use Rattle.command_words.specs.declared.requests.Mode.TheVariants as mode
use Rattle.command_words.specs.declared.requests.Request.{Request}
use Rattle.command_words.specs.Requests.{Asked, asked_of}
use Rattle.command_words.proofs.SettingsLemmas.{same-settings}
use Rattle.myria_top.specs.Plans.{asked_plan, faults_asked, named_plan, plan_named, rules_asked}
use Rattle.myria_top.specs.Requests.{Asks, is_check, is_trial, plan_asked, script_asked, takes_workers}
use Rattle.myria_top.specs.Verdicts.{passes, and_then}

-- ---- one request

-- requests are told apart by what they hold: that their numbers lie within limits makes no difference
same-request : (r q : Request) → asked_of r ≡ asked_of q → r ≡ q
same-request r q same =
    let settings = same-settings r.settings q.settings (ap (λ (a : Asked). a.settings) same) in
    λ i. record {
      mode = (same i).mode;
      settings = settings i;
      plan = (same i).plan;
      traffic = (same i).traffic;
      size = (same i).size;
      from = (same i).from;
      script = (same i).script;
      size_in_range = is_prop→PathP (λ j. (1 ≤ (same j).size) × ((same j).size ≤ most_size)) (λ j. ×_prop le_prop le_prop)
          r.size_in_range q.size_in_range i;
      plan_named = is_prop→PathP (λ j. has_its_plan (same j).mode (same j).from ≡ true) (λ j. Bool-set (has_its_plan (same j).mode (same j).from) true)
          r.plan_named q.plan_named i;
    }

pub some-same : {X : Type 0} {x y : X} → ◌≡◌ {A = Option X} (Some x) (Some y) → x ≡ y
some-same e = cc

pub one-request : (asked : Option Asked) (r q : Request) → Asks asked r → Asks asked q → r ≡ q
one-request asked r q one other = same-request r q (some-same (sym one ∙ other))

pub none-some : {X : Type 0} {x : X} → ◌≡◌ {A = Option X} None (Some x) → ⊥
none-some e = cc

-- words that ask for something are read
pub read-asks : (asked : Option Asked) (r : Request) → asked ≡ None → Asks asked r → ⊥
read-asks asked r none asks = none-some (sym none ∙ asks)

-- ---- its mode

pub trial-or : (m : Mode) → is_trial m ≡ true → is_trial m ≡ false → ⊥
trial-or m trial other = by (sym trial ∙ other)
  where
    by : true ≡ false → ⊥
    by e = cc

-- no script is asked for in a trial
pub no-script : (asked : Option Asked) (r : Request) → Asks asked r → is_trial r.mode ≡ true → script_asked asked ≡ None
no-script asked r asks trial = ap script_asked asks ∙ ap (λ (b : Bool). cond b None (Some r.script)) trial

-- the script that is asked for
pub script-named : (asked : Option Asked) (r : Request) → Asks asked r → is_trial r.mode ≡ false → script_asked asked ≡ Some r.script
script-named asked r asks other = ap script_asked asks ∙ ap (λ (b : Bool). cond b None (Some r.script)) other

-- where no workers are taken, a check is asked for
pub check-asked : (asked : Option Asked) (r : Request) → Asks asked r → takes_workers asked ≡ false → is_check r.mode ≡ true
check-asked asked r asks none = by (is_check r.mode) (ap takes_workers (sym asks) ∙ none)
  where
    by : (check : Bool) → not check ≡ false → check ≡ true
    by true e = refl
    by false e = cc

-- the rules say what counts where there are workers
pub faults-at-workers : (r : Request) (plan : Option PlanTree) → is_check r.mode ≡ false
    → faults_asked r plan ≡ faults_at r.settings (rules_asked r plan)
faults-at-workers r plan workers = ap (λ (b : Bool). cond b (in_each joins_alone) (faults_at r.settings (rules_asked r plan))) workers

-- ---- its plan

-- a replay is no check
pub replay-works : (m : Mode) → is_replay m ≡ true → is_check m ≡ false
replay-works mode.Replay e = refl
replay-works mode.Run e = cc
replay-works mode.Check e = cc
replay-works mode.Explain e = cc
replay-works mode.Trial e = cc
replay-works mode.Export e = cc

-- the plan of a replay has a name
pub plan-has_name : (r : Request) → is_replay r.mode ≡ true → r.from ≡ Some (plan_named r)
plan-has_name r replay = by r.from (ap (λ (b : Bool). not b || is_some r.from) (sym replay) ∙ r.plan_named)
  where
    by : (from : Option (List ℕ)) → (not true || is_some from) ≡ true → from ≡ Some (unwrap_or from [])
    by (Some name) e = refl
    by None e = cc

pub plan-asked : (asked : Option Asked) (r : Request) → Asks asked r → is_replay r.mode ≡ true → plan_asked asked ≡ Some (plan_named r)
plan-asked asked r asks replay =
    ap plan_asked asks ∙ ap (λ (b : Bool). cond b r.from None) replay ∙ plan-has_name r replay

-- no plan is asked for where no script is
pub no-plan : (asked : Option Asked) (name : List ℕ) → script_asked asked ≡ None → plan_asked asked ≡ Some name → ⊥
no-plan None name none named = none-some named
no-plan (Some a) name none named = by a.mode none named
  where
    by : (m : Mode) → cond (is_trial m) None (Some a.script) ≡ None → cond (is_replay m) a.from None ≡ Some name → ⊥
    by mode.Trial e h = none-some h
    by mode.Run e h = none-some (sym e)
    by mode.Check e h = none-some (sym e)
    by mode.Explain e h = none-some (sym e)
    by mode.Export e h = none-some (sym e)
    by mode.Replay e h = none-some (sym e)

-- what is asked for without a plan goes by none
pub unplanned : (r : Request) (content : List ℕ → Content) (c : CheckedTree) → is_replay r.mode ≡ false → asked_plan r content c ≡ passes None
unplanned r content c other = ap (λ (b : Bool). cond b (and_then (named_plan r content c) (λ plan. passes (Some plan))) (passes None)) other

-- and a replay by the plan that is named
pub planned : (r : Request) (content : List ℕ → Content) (c : CheckedTree) → is_replay r.mode ≡ true
    → asked_plan r content c ≡ and_then (named_plan r content c) (λ plan. passes (Some plan))
planned r content c replay = ap (λ (b : Bool). cond b (and_then (named_plan r content c) (λ plan. passes (Some plan))) (passes None)) replay
