-- Refusals of the outside, in words.
--
--   shelf_fault_text fault   why a file was not read
--   sink_fault_text fault    why bytes were not taken
use Rattle.std.specs.Prelude.{ℕ, List, codes}
use Rattle.rel_io.specs.declared.shelves.ShelfFault.{ShelfFault}
use Rattle.rel_io.specs.declared.shelves.ShelfFault.TheVariants as unread
use Rattle.rel_io.specs.declared.sinks.SinkFault.{SinkFault}
use Rattle.rel_io.specs.declared.sinks.SinkFault.TheVariants as untaken

-- why a file was not read
abbrev pub shelf_fault_text : ShelfFault → List ℕ
shelf_fault_text unread.Failed = codes "the file could not be read"
shelf_fault_text unread.Absent = codes "the file is not there"
shelf_fault_text unread.Memory = codes "out of memory"

-- why bytes were not taken
abbrev pub sink_fault_text : SinkFault → List ℕ
sink_fault_text untaken.Failed = codes "the output could not be written"
sink_fault_text untaken.Memory = codes "out of memory"
