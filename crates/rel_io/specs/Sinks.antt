-- Sinks in clauses: the ghost members of a sink are passed whole, as `O.Sink` under a bound `O: Sink`.
--
--   SinkState                     a sink at one moment: what it took, where that is known, and its counts
--   Written                       a sink before and after a call
--   written_of sink old new       that of a call that found the sink so and left it so
--   TookAll, TookPart, TookNothing   what the sink took in the call
--   FaultsRose, WantsRose         a count rose in the call
--   Offers written text result    a call offered this text, and was answered so
use Rattle.std.specs.Prelude.{◌≡◌, ℕ, ◌≤◌, List, Option, Result, Err, OnOk, OnErr}
use Rattle.std.specs.Io.KnownBytes.{Appends, Keeps}
use Rattle.rel_io.specs.Outside.{Rose, TakesPart}
use Rattle.rel_io.specs.declared.sinks.Sink.{Ghosts}
use Rattle.rel_io.specs.declared.sinks.SinkFault.{SinkFault}
use Rattle.rel_io.specs.declared.sinks.SinkFault.TheVariants as refusal

-- a sink: the bytes that it took, where they are known, and its counts
pub record SinkState : Type 0 where
  pub taken : Option (List ℕ)
  pub faults : ℕ
  pub wants : ℕ

-- a sink before and after a call
pub record Written : Type 0 where
  pub before : SinkState
  pub after : SinkState

-- what clauses see of a sink
abbrev pub sink_state : {S : Type 0} → Ghosts S → S → SinkState
sink_state sink s = record { taken = sink.taken s; faults = sink.faults s; wants = sink.wants s }

-- a call that found the sink as `old` and left it as `new`
abbrev pub written_of : {S : Type 0} → Ghosts S → S → S → Written
written_of sink old new = record { before = sink_state sink old; after = sink_state sink new }

-- the sink took this text whole
abbrev pub TookAll : Written → List ℕ → Type 0
TookAll written text = Appends written.before.taken written.after.taken text

-- the sink took a beginning of this text, and not all of it
abbrev pub TookPart : Written → List ℕ → Type 0
TookPart written text = TakesPart written.before.taken written.after.taken text

-- the sink took nothing
abbrev pub TookNothing : Written → Type 0
TookNothing written = Keeps written.before.taken written.after.taken

-- the count of faults rose
abbrev pub FaultsRose : Written → Type 0
FaultsRose written = Rose written.before.faults written.after.faults

-- the count of wants of memory rose
abbrev pub WantsRose : Written → Type 0
WantsRose written = Rose written.before.wants written.after.wants

-- a call offered a text: the sink took it whole, or refused, for a cause that its counts show, and took a beginning of
-- it alone; no count fell
pub record Offers (written : Written) (text : List ℕ) (result : Result (Unit {0}) SinkFault) : Type 0 where
  pub ok : OnOk result (TookAll written text)
  pub err : OnErr result (TookPart written text)
  pub failed : result ≡ Err refusal.Failed → FaultsRose written
  pub memory : result ≡ Err refusal.Memory → WantsRose written
  pub faults_kept : written.before.faults ≤ written.after.faults
  pub wants_kept : written.before.wants ≤ written.after.wants
