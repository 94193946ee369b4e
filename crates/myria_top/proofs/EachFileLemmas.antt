-- What was read of each file by itself allows the answer.
use Rattle.std.proofs.Common.{◌≡◌, ◌<◌, ◌+◌, ℕ, suc, List, [], ◌∷◌, length, get_or, take, drop, sym, subst, inl, inr, Ok, Err, Result}
use Rattle.std.specs.Prelude.{All, IfErr}
use Rattle.std.proofs.lemmas.List.Elements.{All-append, All-cons, All-nil}
use Rattle.rel_base.specs.Relations.{RelationState}
use Rattle.rel_base.specs.declared.names.Key.{Key}
use Rattle.rel_io.specs.Outside.{Content}
use Rattle.myrial_ast.specs.Trees.{StatementTree}
use Rattle.myrial_meaning.specs.declared.needed_files.Fetch.{Fetch}
use Rattle.myrial_meaning.specs.Fetches.{fetches}
use Rattle.myria_top.specs.FileNames.{file_name_of}
use Rattle.myria_top.specs.declared.outcomes.Outcome.{Outcome}
use Rattle.myria_top.specs.declared.outcomes.Outcome.TheVariants as outcome
use Rattle.myria_top.specs.declared.unprinted.Unprinted.{Unprinted}
use Rattle.myria_top.specs.EachFile.{Allows, IsFirstBad, MayBeGood, MayNeed}
use Rattle.myria_top.specs.Reading.{AgreesRefused, Meets, RefusesBy}
use Rattle.myria_top.specs.Runs.{relation_verdict}
use Rattle.myria_top.specs.Scripts.{ScriptComesTo}
use Rattle.myria_top.specs.Verdicts.{Verdict, untold, refused, passes, IfTold}
use Rattle.myria_top.specs.inner.Working.{HasFirstBad, IsAllowed, IsOfKey, IsOfPlan, IsOfReplay, IsOfRun, IsOfScript}
use Rattle.myria_top.proofs.FetchLemmas.{split_at, take_more}
use Rattle.myria_top.proofs.VerdictLemmas.{step_met}

-- ---- files, one after another

good-read : {X : Type 0} (s : Verdict X) (x : X) → IfTold s (λ t. t ≡ passes x) → IfTold s (λ t. (y : X) × (t ≡ passes y))
good-read untold x h = tt
good-read (refused answer) x h = (x, h)
good-read (passes y) x h = (x, h)

module _ (content : List ℕ → Content) (fetches : List Fetch) (i : ℕ) (fetch : Fetch) (within : i < length fetches)
    (is : fetch ≡ get_or fetches i fetch) (good : All (MayBeGood content) (take i fetches)) where
  -- one more file that was read
  pub one_more_good : (same : List ℕ → Content) (relation : RelationState) → same ≡ content
      → Meets (λ s. s ≡ relation_verdict fetch (same (file_name_of fetch.key))) (passes relation)
      → All (MayBeGood content) (take (i + 1) fetches)
  one_more_good same relation alike met =
      let found : MayBeGood content fetch =
      good-read (relation_verdict fetch (content (file_name_of fetch.key))) relation
      (step_met _ (passes relation)
      (subst (λ (con : List ℕ → Content). Meets (λ s. s ≡ relation_verdict fetch (con (file_name_of fetch.key))) (passes relation)) alike met)) in
      subst (All (MayBeGood content)) (sym (take_more fetches i fetch within is))
      (All-append (MayBeGood content) (take i fetches) (fetch ∷ []) good
      (All-cons (MayBeGood content) fetch [] found (All-nil (MayBeGood content))))

  bad : (key : Key) (answer : Outcome) → fetch.key ≡ key
      → IfTold (relation_verdict fetch (content (file_name_of fetch.key))) (λ s. s ≡ refused answer) → IsFirstBad content key answer fetches
  bad key answer own h = record {
    before = take i fetches;
    fetch = fetch;
    behind = drop (suc i) fetches;
    are = split_at fetches i fetch within is;
    good = good;
    of_key = own;
    is_refused = h;
  }

  first-bad : (answer : Outcome) → IsOfKey fetch.key answer → AgreesRefused (relation_verdict fetch (content (file_name_of fetch.key))) answer
      → HasFirstBad content fetches answer
  first-bad (outcome.NoRelation key) own h = bad key (outcome.NoRelation key) own (step_met _ (refused (outcome.NoRelation key)) h)
  first-bad (outcome.RelTooLong key) own h = bad key (outcome.RelTooLong key) own (step_met _ (refused (outcome.RelTooLong key)) h)
  first-bad (outcome.BadRelation key fault) own h =
      bad key (outcome.BadRelation key fault) own (step_met _ (refused (outcome.BadRelation key fault)) h)
  first-bad (outcome.ReadFault name) own h = tt
  first-bad outcome.Memory own h = tt
  first-bad answer own h = absurd own

  -- a file that was refused
  pub one_bad : (same : List ℕ → Content) (answer : Outcome) → same ≡ content → IsOfKey fetch.key answer
      → AgreesRefused (relation_verdict fetch (same (file_name_of fetch.key))) answer → HasFirstBad content fetches answer
  one_bad same answer alike own h =
      first-bad answer own
      (subst (λ (con : List ℕ → Content). AgreesRefused (relation_verdict fetch (con (file_name_of fetch.key))) answer) alike h)

-- ---- the script, and then its files

-- the script was refused
pub script_allows : (content : List ℕ → Content) (name : List ℕ) (answer : Outcome) → IsOfScript answer
    → RefusesBy (ScriptComesTo (content name)) answer → Allows content name answer
script_allows content name outcome.NoScript own h = h
script_allows content name outcome.ScriptTooLong own h = h
script_allows content name outcome.ScriptNotText own h = h
script_allows content name (outcome.Lex line what) own h = h
script_allows content name (outcome.Syntax statement) own h = h
script_allows content name (outcome.TooMany statement what) own h = h
script_allows content name (outcome.ReadFault file) own h = tt
script_allows content name outcome.Memory own h = tt
script_allows content name answer own h = absurd own

module _ (content : List ℕ → Content) (name : List ℕ) (script : List StatementTree)
    (read : Meets (ScriptComesTo (content name)) (passes script)) (needed : List Fetch) (are : needed ≡ fetches script) where
  need : (P : List Fetch → Type 0) → P needed → MayNeed content name P
  need P h = record { script = script; comes = read; holds = subst P are h }

  -- one of its files was refused
  pub files_allow : (answer : Outcome) → HasFirstBad content needed answer → Allows content name answer
  files_allow (outcome.NoRelation key) h = need (IsFirstBad content key (outcome.NoRelation key)) h
  files_allow (outcome.RelTooLong key) h = need (IsFirstBad content key (outcome.RelTooLong key)) h
  files_allow (outcome.BadRelation key fault) h = need (IsFirstBad content key (outcome.BadRelation key fault)) h
  files_allow (outcome.ReadFault file) h = tt
  files_allow outcome.Memory h = tt
  files_allow answer h = absurd h

  -- they were read, and its run came to this
  module _ (good : All (MayBeGood content) needed) where
    refusal-allowed : (answer : Outcome) → IsOfRun answer → Allows content name answer
    refusal-allowed (outcome.Typing statement kind) own = need (All (MayBeGood content)) good
    refusal-allowed (outcome.TooManyRows statement) own = need (All (MayBeGood content)) good
    refusal-allowed (outcome.Overflow statement) own = need (All (MayBeGood content)) good
    refusal-allowed (outcome.AggregateOverflow statement) own = need (All (MayBeGood content)) good
    refusal-allowed outcome.Memory own = tt
    refusal-allowed answer own = absurd own

    plan-allowed : (answer : Outcome) → IsOfPlan answer → Allows content name answer
    plan-allowed outcome.NoPlan own = need (All (MayBeGood content)) good
    plan-allowed outcome.PlanTooLong own = need (All (MayBeGood content)) good
    plan-allowed outcome.BadPlan own = need (All (MayBeGood content)) good
    plan-allowed (outcome.PlanWorkers workers) own = need (All (MayBeGood content)) good
    plan-allowed (outcome.PlanMisfit statement) own = need (All (MayBeGood content)) good
    plan-allowed (outcome.ReadFault file) own = tt
    plan-allowed outcome.Memory own = tt
    plan-allowed answer own = absurd own

    pub replay_allowed : (result : Result Unprinted Outcome) → IfErr result IsOfReplay → IsAllowed content name result
    replay_allowed (Ok unprinted) own = need (All (MayBeGood content)) good
    replay_allowed (Err answer) (inl own) = refusal-allowed answer own
    replay_allowed (Err answer) (inr own) = plan-allowed answer own

    pub run_allowed : (result : Result Unprinted Outcome) → IfErr result IsOfRun → IsAllowed content name result
    run_allowed (Ok unprinted) own = need (All (MayBeGood content)) good
    run_allowed (Err answer) own = refusal-allowed answer own

-- ---- the content of a shelf stays

pub allowed_on : (same content : List ℕ → Content) (name : List ℕ) (script : List StatementTree) (result : Result Unprinted Outcome)
    → same ≡ content → Meets (ScriptComesTo (content name)) (passes script)
    → ((other : List ℕ) → Meets (ScriptComesTo (same other)) (passes script) → IsAllowed same other result)
    → IsAllowed content name result
allowed_on same content name script result alike read each =
    subst (λ (con : List ℕ → Content). IsAllowed con name result) alike
    (each name (subst (λ (con : List ℕ → Content). Meets (ScriptComesTo (con name)) (passes script)) (sym alike) read))
