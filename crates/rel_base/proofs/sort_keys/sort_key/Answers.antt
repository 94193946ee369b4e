use Rattle.std.proofs.Common.{arith, ◌≡◌, suc, ◌+◌, ◌-◌}
use Rattle.rel_base.proofs.SortKeyLemmas.{digits_more, room_for_digit, room_for_last, bytes_fit, whole_key_long, whole_key_short}
use Rattle.rel_base.proofs.sort_keys.sort_key.Goals as goal

pub overflow_mul-key : goal.overflow_mul-key
overflow_mul-key c =
    let step : 7 - c.loop-place.place ≡ suc (6 - c.loop-place.place) = omega arith in
    let so_far = rw step at c.loop-place.invariant in
    let room = room_for_digit c.args.bytes.now (6 - c.loop-place.place) c.loop-place.key _ (bytes_fit c.args.bytes.now c.type_inv.bytes) so_far in
    omega (arith, room)

pub overflow_add-key : goal.overflow_add-key
overflow_add-key c =
    let step : 7 - c.loop-place.place ≡ suc (6 - c.loop-place.place) = omega arith in
    let so_far = rw step at c.loop-place.invariant in
    let room = room_for_digit c.args.bytes.now (6 - c.loop-place.place) c.loop-place.key _ (bytes_fit c.args.bytes.now c.type_inv.bytes) so_far in
    omega (arith, room, c.digit.ensures.most)

pub loop-place-preserved : goal.loop-place-preserved
loop-place-preserved c =
    let step : 7 - c.loop-place.place ≡ suc (6 - c.loop-place.place) = omega arith in
    let next : 7 - (c.loop-place.place + 1) ≡ 6 - c.loop-place.place = omega arith in
    let so_far = rw step at c.loop-place.invariant in
    rw next (digits_more c.args.bytes.now c.loop-place.place (6 - c.loop-place.place) c.digit.result c.loop-place.key _ c.digit.ensures.at so_far)

pub overflow_mul-result : goal.overflow_mul-result
overflow_mul-result c =
    let end : c.loop-place.place ≡ 7 = omega arith in
    let so_far = rw end at c.loop-place.invariant in
    let room = room_for_last c.args.bytes.now c.loop-place.key _ (bytes_fit c.args.bytes.now c.type_inv.bytes) so_far in
    omega (arith, room)

pub overflow_add-result : goal.overflow_add-result
overflow_add-result c =
    let end : c.loop-place.place ≡ 7 = omega arith in
    let so_far = rw end at c.loop-place.invariant in
    let room = room_for_last c.args.bytes.now c.loop-place.key _ (bytes_fit c.args.bytes.now c.type_inv.bytes) so_far in
    omega (arith, room)

pub overflow_mul-result-else-bytes-gt7 : goal.overflow_mul-result-else-bytes-gt7
overflow_mul-result-else-bytes-gt7 c =
    let end : c.loop-place.place ≡ 7 = omega arith in
    let so_far = rw end at c.loop-place.invariant in
    let room = room_for_last c.args.bytes.now c.loop-place.key _ (bytes_fit c.args.bytes.now c.type_inv.bytes) so_far in
    omega (arith, room)

pub returns-then-bytes-gt7 : goal.returns-then-bytes-gt7
returns-then-bytes-gt7 c =
    let end : c.loop-place.place ≡ 7 = omega arith in
    let so_far = rw end at c.loop-place.invariant in
    let room = room_for_last c.args.bytes.now c.loop-place.key _ (bytes_fit c.args.bytes.now c.type_inv.bytes) so_far in
    record {
      key = record { is_key = whole_key_long c.args.bytes.now c.loop-place.key c.if-bytes-gt7.true so_far; bytes = bytes_fit c.args.bytes.now c.type_inv.bytes };
      bound = room;
    }

pub returns-else-bytes-gt7 : goal.returns-else-bytes-gt7
returns-else-bytes-gt7 c =
    let end : c.loop-place.place ≡ 7 = omega arith in
    let so_far = rw end at c.loop-place.invariant in
    let room = room_for_last c.args.bytes.now c.loop-place.key _ (bytes_fit c.args.bytes.now c.type_inv.bytes) so_far in
    record {
      key = record { is_key = whole_key_short c.args.bytes.now c.loop-place.key c.if-bytes-gt7.false so_far; bytes = bytes_fit c.args.bytes.now c.type_inv.bytes };
      bound = omega (arith, room);
    }
