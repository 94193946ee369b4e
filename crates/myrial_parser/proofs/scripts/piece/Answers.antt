use Rattle.std.proofs.Common.{true, refl}
use Rattle.myrial_parser.specs.Pieces.{TooMany}
use Rattle.myrial_parser.proofs.FaultLemmas.{told-IsFaulty}
use Rattle.myrial_parser.proofs.scripts.piece.Goals as goal

pub returns-in-Some-clause-fault : goal.returns-in-Some-clause-fault
returns-in-Some-clause-fault c n fault e =
    told-IsFaulty c.args.bytes.now c.args.number (record { tokens = c.args.tokens.now; ended = true }) c.too_many.result (TooMany c.in-Some.what) c.too_many.ensures
    (c.in-Some.ensures.some c.in-Some.what refl c.args.bytes.now true) n fault (cc)
