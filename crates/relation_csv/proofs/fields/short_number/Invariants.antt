-- the bytes so far are digits, and this is their number
use Rattle.std.proofs.Common.{take}
use Rattle.relation_csv.proofs.DigitLemmas.{AreDigitsOf}
use Rattle.relation_csv.proofs.fields.short_number.Given as goal

abbrev pub invariant-loop-digit : goal.invariant-loop-digit
invariant-loop-digit l = AreDigitsOf (take l.digit-index l.digits) l.number
