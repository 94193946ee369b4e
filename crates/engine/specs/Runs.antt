-- What running a checked script at workers does.
--
--   IsRan s rules files c ran              a run stores, plans, counts and shows what is placed
--   IsRunFault s files c fault             this is wrong with the script, or memory was refused
--   IsRun ..                               what a run does, whatever it answers
use Rattle.std.specs.Prelude.{◌≡◌, ⊤, ℕ, List, Option, Some, None, Result, IfOk, IfErr}
use Rattle.std.specs.List.{flat_map}
use Rattle.rel_base.specs.Keys.{File}
use Rattle.rel_base.specs.declared.faults.RunFault.{RunFault}
use Rattle.rel_base.specs.declared.faults.RunFault.TheVariants as fault
use Rattle.rel_io.specs.declared.taps.Totals.{Totals}
use Rattle.algebra.specs.declared.settings.Settings.{Settings}
use Rattle.algebra.specs.Trees.{CheckedTree}
use Rattle.placement.specs.Layouts.{placed_stores}
use Rattle.placement.specs.Exchanges.{traffic_of}
use Rattle.placement.specs.Plans.{ShuffleRule, placing_by, plan_of}
use Rattle.placement.specs.Runs.{size_of, fault_of, run_exchanges}
use Rattle.placement.specs.Stores.{AreStoredAt}
use Rattle.routed_joins.specs.TermRuns.{shown_moves, AreShown, AreMoved, AreFair}
use Rattle.engine.specs.declared.results.Ran.{Ran}

-- nothing is wrong with the script; each store holds what is placed, worker by worker; plan and traffic are those of the
-- script, and the receipts show its exchanges
pub record IsRan (s : Settings) (rules : ℕ → ShuffleRule) (files : List File) (c : CheckedTree)
    (ran : Ran) : Type 0 where
  pub sound : fault_of s rules files c ≡ None
  pub stored : AreStoredAt ran.stored (placed_stores (placing_by s rules) files c)
  pub plan : ran.plan ≡ plan_of (placing_by s rules) s.local files c
  pub traffic : ran.traffic ≡ traffic_of (placing_by s rules) files c
  pub receipts : AreShown (size_of s) (flat_map shown_moves (run_exchanges s rules files c))
      ran.receipts

-- this is wrong with the script; memory may be refused at any time
abbrev pub IsRunFault : Option RunFault → RunFault → Type 0
IsRunFault own fault.Memory = ⊤
IsRunFault own other = own ≡ Some other

-- what a run does by a rule for each statement, whatever it answers: the taps stand in their order, and stay even if they were; on Ok they rose by the
-- exchanges
pub record IsRun {T : Type 0} (s : Settings) (rules : ℕ → ShuffleRule) (files : List File)
    (c : CheckedTree) (totals : T → Totals) (tag : T → ℕ) (before after : List T)
    (answer : Result Ran RunFault) : Type 0 where
  pub fair : AreFair totals tag before after
  pub ok : IfOk answer (λ ran. IsRan s rules files c ran
      × AreMoved totals tag s.workers (run_exchanges s rules files c) before after)
  pub err : IfErr answer (IsRunFault (fault_of s rules files c))
