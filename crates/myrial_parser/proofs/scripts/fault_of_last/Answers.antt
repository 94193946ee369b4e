use Rattle.std.proofs.Common.{false, refl}
use Rattle.myrial_parser.specs.Pieces.{Syntax, TooMany}
use Rattle.myrial_parser.proofs.FaultLemmas.{syntax-IsFaulty}
use Rattle.myrial_parser.proofs.scripts.fault_of_last.Goals as goal

pub returns-in-Some : goal.returns-in-Some
returns-in-Some c text = (TooMany c.in-Some.what, c.too_many.ensures, c.in-Some.ensures.some c.in-Some.what refl text false)

pub returns-in-None : goal.returns-in-None
returns-in-None c text =
    (Syntax, refl, syntax-IsFaulty text c.args.number (record { tokens = c.args.tokens.now; ended = false }) (c.in-None.ensures.none refl text false) (λ s is. let e = is.ended in cc))
