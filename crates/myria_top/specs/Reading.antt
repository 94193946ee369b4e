-- What is read of files, each of which may refuse.
--
--   file_verdict ..                 what a file comes to
--   Agrees step result              a call came to what the step comes to
--   ReadsStep step names ..         a call on the shelf came to the step, and each refusal has its cause
--   Meets Comes step                the files come to this step, by a relation
--   ReadsBy Comes names ..          a call on the shelf came to what the files come to, and each refusal has its cause
use Rattle.std.specs.Prelude.{◌≡◌, ℕ, List, length, nat_lt, if◌then◌else◌, Result, Ok, Err, IfErr, ⊤}
use Rattle.rel_io.specs.Outside.{Content, MayBeMissing, Rose}
use Rattle.rel_io.specs.Shelves.{CallCounts, HaveNotFallen}
use Rattle.rel_io.specs.Outside as outside
use Rattle.rel_io.specs.declared.shelves.ShelfFault.{ShelfFault}
use Rattle.rel_io.specs.declared.shelves.ShelfFault.TheVariants as refusal
use Rattle.myria_top.specs.FileNames.{file_name_of}
use Rattle.myria_top.specs.declared.outcomes.Outcome.{Outcome}
use Rattle.myria_top.specs.declared.outcomes.Outcome.TheVariants as outcome
use Rattle.myria_top.specs.Verdicts.{Verdict, untold, refused, passes, IfTold}

-- what a file comes to: refused where it is missing, and where it has more than `most` bytes, and else read
abbrev pub file_verdict : {X : Type 0} → ℕ → Outcome → Outcome → (List ℕ → Verdict X) → Content
    → Verdict X
file_verdict most if_missing if_long read outside.untold = untold
file_verdict most if_missing if_long read outside.missing = refused if_missing
file_verdict most if_missing if_long read (outside.there bytes) =
    if nat_lt most (length bytes) then refused if_long else read bytes

-- a refusal of a fetch has its cause in a count that rose, and a name that is told to be there is not absent
abbrev pub HasFetchCause : CallCounts → Content → ShelfFault → Type 0
HasFetchCause counts content refusal.Failed = Rose counts.before.faults counts.after.faults
HasFetchCause counts content refusal.Absent =
    Rose counts.before.misses counts.after.misses × MayBeMissing content
HasFetchCause counts content refusal.Memory = ⊤

-- a refusal of the shelf has its cause in a count that rose, and what it names is one of these files
abbrev pub HasCause : CallCounts → (List ℕ → Type 0) → Outcome → Type 0
HasCause counts IsAsked outcome.NoScript = Rose counts.before.misses counts.after.misses
HasCause counts IsAsked outcome.NoPlan = Rose counts.before.misses counts.after.misses
HasCause counts IsAsked (outcome.NoRelation key) =
    Rose counts.before.misses counts.after.misses × IsAsked (file_name_of key)
HasCause counts IsAsked (outcome.RelTooLong key) = IsAsked (file_name_of key)
HasCause counts IsAsked (outcome.BadRelation key fault) = IsAsked (file_name_of key)
HasCause counts IsAsked (outcome.ReadFault name) =
    Rose counts.before.faults counts.after.faults × IsAsked name
HasCause counts IsAsked _ = ⊤

-- the files come to such a step, where enough is told
pub record Meets {X : Type 0} (Comes : Verdict X → Type 0) (wanted : Verdict X) : Type 0 where
  pub step : Verdict X
  pub comes : Comes step
  pub is : IfTold step (λ s. s ≡ wanted)

-- a refusal is what the files come to; a fault of reading and want of memory may come whatever they come to
abbrev pub RefusesBy : {X : Type 0} → (Verdict X → Type 0) → Outcome → Type 0
RefusesBy Comes (outcome.Done receipts) = ⊥
RefusesBy Comes outcome.WriteFault = ⊥
RefusesBy Comes (outcome.ReadFault name) = ⊤
RefusesBy Comes outcome.Memory = ⊤
RefusesBy Comes answer = Meets Comes (refused answer)

-- a call came to what the files come to
abbrev pub AgreesBy : {X : Type 0} → (Verdict X → Type 0) → Result X Outcome → Type 0
AgreesBy Comes (Ok x) = Meets Comes (passes x)
AgreesBy Comes (Err answer) = RefusesBy Comes answer

-- a call that reads the files that IsAsked names came to what they come to, each refusal has its cause, and no count fell
pub record ReadsBy {X : Type 0} (Comes : Verdict X → Type 0) (counts : CallCounts)
    (IsAsked : List ℕ → Type 0) (result : Result X Outcome) : Type 0 where
  pub agrees : AgreesBy Comes result
  pub cause : IfErr result (HasCause counts IsAsked)
  pub kept : HaveNotFallen counts

-- a refusal agrees with this step; a fault of reading and want of memory may come of any step
abbrev pub AgreesRefused : {X : Type 0} → Verdict X → Outcome → Type 0
AgreesRefused step = RefusesBy (λ s. s ≡ step)

-- a call came to what this step comes to
abbrev pub Agrees : {X : Type 0} → Verdict X → Result X Outcome → Type 0
Agrees step = AgreesBy (λ s. s ≡ step)

-- a call that reads the files that IsAsked names came to what this step comes to
abbrev pub ReadsStep : {X : Type 0} → Verdict X → CallCounts → (List ℕ → Type 0) → Result X Outcome
    → Type 0
ReadsStep step = ReadsBy (λ s. s ≡ step)
