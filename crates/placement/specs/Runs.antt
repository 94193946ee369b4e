-- What settings and rules say of a run.
--
--   size_of s                         how large its exchanges are
--   prefixes_of rule, faults_by s rule, faults_at s rules number
--                                     what counts as a fault
--   fault_of s rules files c          the fault of a script
--   run_exchanges s rules files c     the exchanges of the needed steps
use Rattle.std.specs.Prelude.{ℕ, List, map, Option}
use Rattle.rel_base.specs.Keys.{File}
use Rattle.rel_base.specs.declared.faults.RunFault.{RunFault}
use Rattle.myrial_ast.specs.CandidateFaults.{PrefixRule, Counted, Uncounted, FaultRule}
use Rattle.algebra.specs.declared.settings.Settings.{Settings}
use Rattle.algebra.specs.Trees.{CheckedTree}
use Rattle.algebra.specs.Meanings.{checked_fault}
use Rattle.row_exchange.specs.declared.routes.Size.{Size}
use Rattle.placement.specs.Exchanges.{PlacedExchange, exchanges_of}
use Rattle.placement.specs.Layouts.{ByCells, ByKeys, Broadcast}
use Rattle.placement.specs.Plans.{ShuffleRule, LeastLoad, Fixed, placing_by}

-- how large the exchanges are
abbrev pub size_of : Settings → Size
size_of settings = record {
  workers = settings.workers;
  capacity = settings.capacity;
  batch = settings.batch;
}

-- prefixes count where two items are joined at a time
abbrev pub prefixes_of : ShuffleRule → PrefixRule
prefixes_of LeastLoad = Uncounted
prefixes_of (Fixed (ByCells shares)) = Uncounted
prefixes_of (Fixed ByKeys) = Counted
prefixes_of (Fixed Broadcast) = Uncounted

-- and of the rows that are joined alone
abbrev pub faults_by : Settings → ShuffleRule → FaultRule
faults_by s rule = record { prefixes = prefixes_of rule; reduce = s.reduce }

-- where each statement has a rule
abbrev pub faults_at : Settings → (ℕ → ShuffleRule) → ℕ → FaultRule
faults_at s rules number = faults_by s (rules number)

-- the fault of the script by these settings and the rule of each statement
abbrev pub fault_of : Settings → (ℕ → ShuffleRule) → List File → CheckedTree → Option RunFault
fault_of s rules files c = checked_fault (faults_at s rules) files c

-- the exchanges of the needed steps
abbrev pub run_exchanges : Settings → (ℕ → ShuffleRule) → List File → CheckedTree
    → List PlacedExchange
run_exchanges s rules files c =
    map (λ (e : ℕ × PlacedExchange). e.1) (exchanges_of (placing_by s rules) files c)
