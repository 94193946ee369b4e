use Rattle.myrial_parser.specs.Pieces.{pieces_of}
use Rattle.myrial_parser.proofs.ReadingLemmas.{AreRead-one, script-sound, one_first_fault}
use Rattle.myrial_parser.proofs.StatementLemmas.{statement-unique}
use Rattle.myrial_parser.proofs.laws.a_script_has_one_reading.Goals as goal

pub returns-clause-statements : goal.returns-clause-statements
returns-clause-statements c text tokens = AreRead-one statement-unique text 1 (pieces_of tokens)

pub returns-clause-either : goal.returns-clause-either
returns-clause-either c = script-sound

pub returns-clause-fault : goal.returns-clause-fault
returns-clause-fault c = one_first_fault
