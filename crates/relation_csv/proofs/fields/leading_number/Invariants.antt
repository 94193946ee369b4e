-- the bytes so far are digits, at most 18, and this is their number
use Rattle.std.proofs.Common.{◌≤◌, take}
use Rattle.relation_csv.proofs.DigitLemmas.{AreDigitsOf}
use Rattle.relation_csv.proofs.fields.leading_number.Given as goal

abbrev pub invariant-loop-count : goal.invariant-loop-count
invariant-loop-count l = record {
  digits : AreDigitsOf (take l.count l.bytes) l.number;
  few : l.count ≤ 18;
}
