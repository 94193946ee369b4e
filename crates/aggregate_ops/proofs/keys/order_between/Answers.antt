use Rattle.std.proofs.Common.{◌<◌, ◌∙◌, ap, sym, [], length, get_or, arith}
use Rattle.std.proofs.lemmas.Grind.{common_steps}
use Rattle.std.proofs.lemmas.List.{get_or-map, length-map}
use Rattle.rel_base.specs.Values.{row_order}
use Rattle.packed_rows.specs.Unpacked.{unpacked_row}
use Rattle.aggregate_ops.specs.Columns.{key_at}
use Rattle.aggregate_ops.specs.inner.Reading.{rows_of}
use Rattle.aggregate_ops.proofs.keys.order_between.Goals as goal

pub returns-in-Packed : goal.returns-in-Packed
returns-in-Packed c =
    let row = unpacked_row c.in-Packed.columns.now in
    let words = c.in-Packed.words.now in
    let places = c.args.places.now in
    let one : c.args.i < length words = omega (arith, ap (λ r. length (rows_of r)) c.in-Packed.is, length-map words row, c.requires.one) in
    let other : c.args.j < length words = omega (arith, ap (λ r. length (rows_of r)) c.in-Packed.is, length-map words row, c.requires.other) in
    c.order_of_words.ensures
    ∙ (λ k. row_order (key_at places (sym (get_or-map row words c.args.i 0 [] one) k)) (key_at places (sym (get_or-map row words c.args.j 0 [] other) k)))
    ∙ sym (ap (λ r. row_order (key_at places (get_or (rows_of r) c.args.i [])) (key_at places (get_or (rows_of r) c.args.j []))) c.in-Packed.is)

pub returns-in-Lent : goal.returns-in-Lent
returns-in-Lent c = grind (arith, common_steps)

pub bounds-words-i : goal.bounds-words-i
bounds-words-i c = grind (arith, common_steps)

pub bounds-words-j : goal.bounds-words-j
bounds-words-j c = grind (arith, common_steps)

pub bounds-rows-i : goal.bounds-rows-i
bounds-rows-i c = grind (arith, common_steps)

pub bounds-rows-j : goal.bounds-rows-j
bounds-rows-j c = grind (arith, common_steps)
