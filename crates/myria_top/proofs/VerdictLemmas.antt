-- Steps one after another, and what calls that came to them show.
use Rattle.std.proofs.Common.{◌≡◌, ℕ, ◌≤◌, List, [], ◌∷◌, ◌++◌, fold, Result, Ok, Err, refl, sym, ap, subst, arith}
use Rattle.std.specs.Prelude.{IfErr}
use Rattle.rel_base.specs.Keys.{File}
use Rattle.rel_base.specs.Relations.{RelationState}
use Rattle.rel_io.specs.Outside.{Content}
use Rattle.rel_io.proofs.OutsideLemmas.{Rose-part}
use Rattle.rel_io.specs.Shelves.{CallCounts}
use Rattle.myrial_meaning.specs.declared.needed_files.Fetch.{Fetch}
use Rattle.myria_top.specs.FileNames.{file_name_of}
use Rattle.myria_top.specs.declared.outcomes.Outcome.{Outcome}
use Rattle.myria_top.specs.declared.outcomes.Outcome.TheVariants as outcome
use Rattle.myria_top.specs.Reading.{AgreesRefused, HasCause, Meets, RefusesBy}
use Rattle.myria_top.specs.Verdicts.{Verdict, untold, refused, passes, and_then, IfTold}
use Rattle.myria_top.specs.Runs.{files_verdict, one_file_more, relation_verdict}

-- ---- one step after another

pub passes-one : {X : Type 0} {x y : X} → ◌≡◌ {A = Verdict X} (passes x) (passes y) → x ≡ y
passes-one e = cc

pub carried : {X Y : Type 0} (s : Verdict X) (f : X → Verdict Y) (answer : Outcome) → IfTold s (λ t. t ≡ refused answer) → IfTold (and_then s f) (λ t. t ≡ refused answer)
carried untold f answer h = tt
carried (refused other) f answer h = let same : other ≡ answer = cc in ap refused same
carried (passes x) f answer h = cc

-- what a step is told to be, and that it is met so
pub meets_step : {X : Type 0} (s wanted : Verdict X) → IfTold s (λ t. t ≡ wanted) → Meets (λ t. t ≡ s) wanted
meets_step s wanted h = record { step = s; comes = refl; is = h }

pub step_met : {X : Type 0} (s wanted : Verdict X) → Meets (λ t. t ≡ s) wanted → IfTold s (λ t. t ≡ wanted)
step_met s wanted m = subst (λ t. IfTold t (λ u. u ≡ wanted)) m.comes m.is

-- a refusal of the first step is a refusal of both
pub refused_first : {X Y : Type 0} (s : Verdict X) (f : X → Verdict Y) (answer : Outcome) → AgreesRefused s answer → AgreesRefused (and_then s f) answer
refused_first s f (outcome.Done receipts) h = h
refused_first s f outcome.WriteFault h = h
refused_first s f (outcome.ReadFault name) h = tt
refused_first s f outcome.Memory h = tt
refused_first s f answer h = meets_step (and_then s f) (refused answer) (carried s f answer (step_met s (refused answer) h))

nothing_told : {X : Type 0} (Y : Type 0) (s : Verdict X) (answer : Outcome) → AgreesRefused s answer → AgreesRefused {X = Y} untold answer
nothing_told Y s (outcome.Done receipts) h = h
nothing_told Y s outcome.WriteFault h = h
nothing_told Y s (outcome.ReadFault name) h = tt
nothing_told Y s outcome.Memory h = tt
nothing_told Y s answer h = meets_step untold (refused answer) tt

-- a refusal of the second step, on the value of the first, is a refusal of both
pub refused_second : {X Y : Type 0} (s : Verdict X) (f : X → Verdict Y) (x : X) (answer : Outcome) → IfTold s (λ t. t ≡ passes x) → AgreesRefused (f x) answer → AgreesRefused (and_then s f) answer
refused_second {Y = Y} untold f x answer h r = nothing_told Y (f x) answer r
refused_second (refused other) f x answer h r = cc
refused_second (passes y) f x answer h r = let same : x ≡ y = cc in subst (λ z. AgreesRefused (f z) answer) same r

-- the value of the second step, on that of the first
pub goes_second : {X Y : Type 0} (s : Verdict X) (f : X → Verdict Y) (x : X) (y : Y) → IfTold s (λ t. t ≡ passes x) → IfTold (f x) (λ t. t ≡ passes y) → IfTold (and_then s f) (λ t. t ≡ passes y)
goes_second untold f x y h r = tt
goes_second (refused other) f x y h r = cc
goes_second (passes z) f x y h r = let same : x ≡ z = cc in subst (λ w. IfTold (f w) (λ t. t ≡ passes y)) same r

-- ---- steps that the files come to by a relation

-- a refusal of a step that is come to
pub met : {X : Type 0} (Comes : Verdict X → Type 0) (s : Verdict X) (answer : Outcome) → Comes s → AgreesRefused s answer → RefusesBy Comes answer
met Comes s (outcome.Done receipts) comes h = h
met Comes s outcome.WriteFault comes h = h
met Comes s (outcome.ReadFault name) comes h = tt
met Comes s outcome.Memory comes h = tt
met Comes s answer comes h = record { step = s; comes = comes; is = step_met s (refused answer) h }

-- what holds of a refusal of one relation holds of another that follows it
pub met_further : {X Y : Type 0} (Comes : Verdict X → Type 0) (Further : Verdict Y → Type 0) (f : X → Verdict Y) → ((s : Verdict X) → Comes s → Further (and_then s f)) → (answer : Outcome) → RefusesBy Comes answer → RefusesBy Further answer
met_further Comes Further f further (outcome.Done receipts) h = h
met_further Comes Further f further outcome.WriteFault h = h
met_further Comes Further f further (outcome.ReadFault name) h = tt
met_further Comes Further f further outcome.Memory h = tt
met_further Comes Further f further answer h =
    record { step = and_then h.step f; comes = further h.step h.comes; is = carried h.step f answer h.is }

-- ---- files, one after another

module _ (content : List ℕ → Content) where
  fold-append : (s : Verdict (List File)) (fetches others : List Fetch) → fold (one_file_more content) s (fetches ++ others) ≡ fold (one_file_more content) (fold (one_file_more content) s fetches) others
  fold-append s [] others = refl
  fold-append s (fetch ∷ fetches) others = fold-append (one_file_more content s fetch) fetches others

  abbrev file_of : Fetch → List File → Verdict (List File)
  file_of fetch so_far = and_then (relation_verdict fetch (content (file_name_of fetch.key))) (λ table. passes (so_far ++ (fetch.key, table) ∷ []))

  -- a refusal stays through the files behind
  refused_on : (s : Verdict (List File)) (fetches : List Fetch) (answer : Outcome) → AgreesRefused s answer → AgreesRefused (fold (one_file_more content) s fetches) answer
  refused_on s [] answer h = h
  refused_on s (fetch ∷ fetches) answer h =
      refused_on (one_file_more content s fetch) fetches answer (refused_first s (file_of fetch) answer h)

  -- one file refuses, behind those that were read
  pub files_refused : (before : List Fetch) (fetch : Fetch) (behind : List Fetch) (files : List File) (answer : Outcome)
      → IfTold (files_verdict content before) (λ s. s ≡ passes files) → AgreesRefused (relation_verdict fetch (content (file_name_of fetch.key))) answer
      → AgreesRefused (files_verdict content (before ++ fetch ∷ behind)) answer
  files_refused before fetch behind files answer read h =
      subst (λ s. AgreesRefused s answer) (sym (fold-append (passes []) before (fetch ∷ behind)))
      (refused_on (one_file_more content (files_verdict content before) fetch) behind answer
      (refused_second (files_verdict content before) (file_of fetch) files answer read
      (refused_first (relation_verdict fetch (content (file_name_of fetch.key))) (λ table. passes (files ++ (fetch.key, table) ∷ [])) answer h)))

  -- one file more
  pub files_more : (before : List Fetch) (fetch : Fetch) (files : List File) (table : RelationState)
      → IfTold (files_verdict content before) (λ s. s ≡ passes files) → IfTold (relation_verdict fetch (content (file_name_of fetch.key))) (λ s. s ≡ passes table)
      → IfTold (files_verdict content (before ++ fetch ∷ [])) (λ s. s ≡ passes (files ++ (fetch.key, table) ∷ []))
  files_more before fetch files table read found =
      subst (λ s. IfTold s (λ t. t ≡ passes (files ++ (fetch.key, table) ∷ []))) (sym (fold-append (passes []) before (fetch ∷ [])))
      (goes_second (files_verdict content before) (file_of fetch) files (files ++ (fetch.key, table) ∷ []) read
      (goes_second (relation_verdict fetch (content (file_name_of fetch.key))) (λ t. passes (files ++ (fetch.key, t) ∷ [])) table (files ++ (fetch.key, table) ∷ []) found refl))

-- ---- causes

-- the counts of a part of a run lie within those of the run
pub record LiesWithin (part run : CallCounts) : Type 0 where
  pub faults_from : run.before.faults ≤ part.before.faults
  pub faults_on : part.before.faults ≤ part.after.faults
  pub faults_to : part.after.faults ≤ run.after.faults
  pub misses_from : run.before.misses ≤ part.before.misses
  pub misses_on : part.before.misses ≤ part.after.misses
  pub misses_to : part.after.misses ≤ run.after.misses

-- a cause in a part of a run is a cause in the run
pub HasCause-part : (part run : CallCounts) (P Q : List ℕ → Type 0) (answer : Outcome) → LiesWithin part run → ((name : List ℕ) → P name → Q name) → HasCause part P answer → HasCause run Q answer
HasCause-part part run P Q outcome.NoScript w f h = Rose-part _ _ _ _ w.misses_from w.misses_on w.misses_to h
HasCause-part part run P Q outcome.NoPlan w f h = Rose-part _ _ _ _ w.misses_from w.misses_on w.misses_to h
HasCause-part part run P Q (outcome.NoRelation key) w f h =
    (Rose-part _ _ _ _ w.misses_from w.misses_on w.misses_to h.0, f (file_name_of key) h.1)
HasCause-part part run P Q (outcome.RelTooLong key) w f h = f (file_name_of key) h
HasCause-part part run P Q (outcome.BadRelation key fault) w f h = f (file_name_of key) h
HasCause-part part run P Q (outcome.ReadFault name) w f h = (Rose-part _ _ _ _ w.faults_from w.faults_on w.faults_to h.0, f name h.1)
HasCause-part part run P Q answer w f h = tt

-- and so it is where a call may have refused
pub HasCause-within : {X : Type 0} (part run : CallCounts) (P Q : List ℕ → Type 0) (r : Result X Outcome) → LiesWithin part run
    → ((name : List ℕ) → P name → Q name) → IfErr r (HasCause part P) → IfErr r (HasCause run Q)
HasCause-within part run P Q (Ok x) w f h = tt
HasCause-within part run P Q (Err answer) w f h = HasCause-part part run P Q answer w f h

-- a run is a part of itself
pub within_itself : (counts : CallCounts) → counts.before.faults ≤ counts.after.faults → counts.before.misses ≤ counts.after.misses → LiesWithin counts counts
within_itself counts f m = record {
  faults_from = omega arith;
  faults_on = f;
  faults_to = omega arith;
  misses_from = omega arith;
  misses_on = m;
  misses_to = omega arith;
}
