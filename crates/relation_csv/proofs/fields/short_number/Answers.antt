use Rattle.std.proofs.Common.{◌∙◌, ℕ, ◌<◌, ◌≤◌, List, pos, Some, ap, sym, length, take, arith, rules, w64, length-take, slice_index_or}
use Rattle.std.proofs.lemmas.Int.{to_z-of_z}
use Rattle.std.proofs.lemmas.List.{take_all, take_more}
use Rattle.std.specs.Int.{IsInRange}
use Rattle.relation_csv.proofs.DigitLemmas.{AreDigitsOf, AreDigitsOf-none, AreDigitsOf-push, AreDigitsOf-small, fits_signed, int_of_field-digits}
use Rattle.relation_csv.proofs.fields.short_number.Goals as goal

pub loop-digit-init : goal.loop-digit-init
loop-digit-init c = AreDigitsOf-none

pub overflow_mul-number : goal.overflow_mul-number
overflow_mul-number c =
    let ds = c.args.digits.now in
    let i = c.loop-digit.digit-index in
    let low : i < length ds = search rules in
    let small = AreDigitsOf-small (take i ds) c.loop-digit.number 17 c.loop-digit.invariant (omega (arith, length-take i ds)) in
    omega arith

pub overflow_add-number : goal.overflow_add-number
overflow_add-number c =
    let ds = c.args.digits.now in
    let i = c.loop-digit.digit-index in
    let low : i < length ds = search rules in
    let digit : IsInRange 48 57 (slice_index_or ds i 0) = search rules in
    let small = AreDigitsOf-small (take i ds) c.loop-digit.number 17 c.loop-digit.invariant (omega (arith, length-take i ds)) in
    omega arith

pub loop-digit-preserved : goal.loop-digit-preserved
loop-digit-preserved c =
    let ds = c.args.digits.now in
    let i = c.loop-digit.digit-index in
    let low : i < length ds = search rules in
    let digit : IsInRange 48 57 (slice_index_or ds i 0) = search rules in
    rw (take_more ds i 0 low) (AreDigitsOf-push (take i ds) c.loop-digit.number (slice_index_or ds i 0) c.loop-digit.invariant digit)

-- all bytes are digits
whole : (ds : List ℕ) (i number : ℕ) → length ds ≤ i → AreDigitsOf (take i ds) number → AreDigitsOf ds number
whole ds i number all are = rw (take_all i ds all) at are

pub overflow_cast-result : goal.overflow_cast-result
overflow_cast-result c =
    let ds = c.args.digits.now in
    let are = whole ds c.loop-digit.digit-index c.loop-digit.number (omega arith) c.loop-digit.invariant in
    fits_signed c.loop-digit.number (AreDigitsOf-small ds c.loop-digit.number 18 are (omega arith))

pub returns : goal.returns
returns c =
    let ds = c.args.digits.now in
    let n = c.loop-digit.number in
    let are = whole ds c.loop-digit.digit-index n (omega arith) c.loop-digit.invariant in
    let some : 0 < length ds = search rules in
    int_of_field-digits ds n are some (omega arith)
    ∙ ap Some (sym (to_z-of_z w64 (pos n) (fits_signed n (AreDigitsOf-small ds n 18 are (omega arith)))))
