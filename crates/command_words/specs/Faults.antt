-- Why words are refused.
--
--   fault_text fault     the fault in words
use Rattle.std.specs.Prelude.{ℕ, List, codes}
use Rattle.command_words.specs.declared.requests.WordsFault.{WordsFault}
use Rattle.command_words.specs.declared.requests.WordsFault.TheVariants as fault

abbrev pub fault_text : WordsFault → List ℕ
fault_text fault.Usage = codes "usage: myria [options] SCRIPT"
fault_text fault.Memory = codes "out of memory"
