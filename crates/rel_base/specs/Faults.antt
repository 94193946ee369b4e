-- The faults of a run.
--
--   fault_text fault     the fault in words
use Rattle.std.specs.Prelude.{ℕ, List, ◌++◌, codes}
use Rattle.std.specs.Fmt.{decimal}
use Rattle.rel_base.specs.declared.faults.RunFault.{RunFault}
use Rattle.rel_base.specs.declared.faults.RunFault.TheVariants as fault

-- the number of the statement, if there is one, and what is wrong
abbrev pub fault_text : RunFault → List ℕ
fault_text (fault.TooManyRows statement) =
    codes "statement " ++ decimal statement ++ codes ": too many rows"
fault_text (fault.Overflow statement) =
    codes "statement " ++ decimal statement ++ codes ": overflow"
fault_text (fault.AggregateOverflow statement) =
    codes "statement " ++ decimal statement ++ codes ": aggregate overflow"
fault_text fault.Memory = codes "out of memory"
