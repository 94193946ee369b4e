use Rattle.std.proofs.Common.{◌≡◌, map}
use Rattle.std.specs.Prelude.{IsPermutation}
use Rattle.std.proofs.lemmas.List.Sorted.{IsPermutation-map}
use Rattle.packed_rows.specs.Emitted.{all_emitted}
use Rattle.packed_rows.specs.Unpacked.{unpacked_row}
use Rattle.packed_rows.proofs.packing.sorted_words.Goals as goal

pub returns-in-Some-clause-same : goal.returns-in-Some-clause-same
returns-in-Some-clause-same c =
    let unpack = unpacked_row c.args.columns.now in
    let words : map unpack c.in-Some.words.items ≡ all_emitted c.args.emits c.args.rows.now = rw c.in-Some.is at c.in_ok-words.ensures.words in
    let sorted : IsPermutation (map unpack c.in-Some.words.items) (map unpack c.in_order.result.items) =
    IsPermutation-map unpack c.in-Some.words.items c.in_order.result.items c.in_order.ensures.same in
    rw words at sorted
