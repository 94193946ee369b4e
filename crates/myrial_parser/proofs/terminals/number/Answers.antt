use Rattle.std.proofs.Common.{ℕ, List, subst}
use Rattle.std.specs.Str.Parse.{ParsesUnsigned}
use Rattle.myrial_parser.proofs.DigitLemmas.{digits-IsUtf8, digits-unrefused}
use Rattle.myrial_parser.proofs.terminals.number.Goals as goal

pub unreachable-requires : goal.unreachable-requires
unreachable-requires c =
    let parsed = subst (λ (ds : List ℕ). ParsesUnsigned 64 10 ds c.parse.result) c.in-Ok.ensures.cases.0 c.parse.ensures.value.0 in
    digits-unrefused c.args.digits.now c.parse.result c.in-Err-parse.field-0 parsed c.requires.digits c.requires.some c.requires.small c.in-Err-parse.is

pub unreachable-requires-in-Err : goal.unreachable-requires-in-Err
unreachable-requires-in-Err c = c.in-Err.ensures.cases.0 (digits-IsUtf8 c.args.digits.now c.requires.digits)
