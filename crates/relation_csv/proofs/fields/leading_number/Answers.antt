use Rattle.std.proofs.Common.{◌≢◌, ◌∙◌, ◌<◌, ap, pos, Some, sym, length, take, arith, rules, w64, length-take, slice_index_or}
use Rattle.std.proofs.lemmas.Int.{to_z-of_z}
use Rattle.std.proofs.lemmas.List.{take_more}
use Rattle.std.specs.Int.{IsInRange}
use Rattle.relation_csv.proofs.DigitLemmas.{AreDigitsOf-none, AreDigitsOf-push, AreDigitsOf-small, fits_signed, int_of_field-digits}
use Rattle.relation_csv.proofs.fields.leading_number.Goals as goal

pub loop-count-init : goal.loop-count-init
loop-count-init c = record { digits = AreDigitsOf-none; few = omega arith }

pub overflow_cast-result : goal.overflow_cast-result
overflow_cast-result c =
    let bytes = c.args.bytes.now in
    let i = c.loop-count.count in
    let few = c.loop-count.invariant.few in
    fits_signed c.loop-count.number
    (AreDigitsOf-small (take i bytes) c.loop-count.number 18 c.loop-count.invariant.digits (omega (arith, length-take i bytes, few)))

pub returns-then-not-is_ascii_digit-clause-number : goal.returns-then-not-is_ascii_digit-clause-number
returns-then-not-is_ascii_digit-clause-number c =
    let bytes = c.args.bytes.now in
    let i = c.loop-count.count in
    let n = c.loop-count.number in
    let few = c.loop-count.invariant.few in
    let are = c.loop-count.invariant.digits in
    let low : i < length bytes = search rules in
    let none : i ≢ 0 = search rules in
    let size = length-take i bytes in
    int_of_field-digits (take i bytes) n are (omega (arith, size, none, low)) (omega (arith, size, few))
    ∙ ap Some (sym (to_z-of_z w64 (pos n) (fits_signed n (AreDigitsOf-small (take i bytes) n 18 are (omega (arith, size, few))))))

pub overflow_mul-number : goal.overflow_mul-number
overflow_mul-number c =
    let bytes = c.args.bytes.now in
    let i = c.loop-count.count in
    let few = c.loop-count.invariant.few in
    let more : i ≢ 18 = search rules in
    let small = AreDigitsOf-small (take i bytes) c.loop-count.number 17 c.loop-count.invariant.digits
    (omega (arith, length-take i bytes, few, more)) in
    omega arith

pub overflow_add-number : goal.overflow_add-number
overflow_add-number c =
    let bytes = c.args.bytes.now in
    let i = c.loop-count.count in
    let few = c.loop-count.invariant.few in
    let more : i ≢ 18 = search rules in
    let digit : IsInRange 48 57 (slice_index_or bytes i 0) = search rules in
    let small = AreDigitsOf-small (take i bytes) c.loop-count.number 17 c.loop-count.invariant.digits
    (omega (arith, length-take i bytes, few, more)) in
    omega arith

pub loop-count-preserved : goal.loop-count-preserved
loop-count-preserved c =
    let bytes = c.args.bytes.now in
    let i = c.loop-count.count in
    let few = c.loop-count.invariant.few in
    let more : i ≢ 18 = search rules in
    let low : i < length bytes = search rules in
    let digit : IsInRange 48 57 (slice_index_or bytes i 0) = search rules in
    record {
      digits = rw (take_more bytes i 0 low)
          (AreDigitsOf-push (take i bytes) c.loop-count.number (slice_index_or bytes i 0) c.loop-count.invariant.digits digit);
      few = omega (arith, few, more);
    }
