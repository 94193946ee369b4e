use Rattle.std.proofs.Common.{◌∙◌, ap, rules}
use Rattle.collector.proofs.PackingLemmas.{places_within, sorted_told, told_by}
use Rattle.collector.proofs.packing.sorted_in.Goals as goal

pub rows_told-requires-clause-within : goal.rows_told-requires-clause-within
rows_told-requires-clause-within g c =
    rw c.deref.ensures.value
    (places_within c.args.part.now c.args.fields.now c.args.digits g.N.Number.value c.in-Some.numbers.items c.sort.new.numbers.items
    c.sort.ensures.same (rw c.in-Some.is at c.in_ok-numbers.ensures))

pub returns : goal.returns
returns g c =
    sorted_told c.args.part.now c.args.fields.now c.args.digits g.N.Number.value c.in-Some.numbers.items c.sort.new.numbers.items
    c.sort.ensures.same (rw c.in-Some.is at c.in_ok-numbers.ensures) g.N.Ord.cmp g.met.N.Number.compares
    c.sort.ensures.ascending c.in_ok-rows.rows
    (c.in_ok-rows.ensures ∙ ap (told_by c.args.part.now c.args.digits g.N.Number.value) c.deref.ensures.value) (search rules)
