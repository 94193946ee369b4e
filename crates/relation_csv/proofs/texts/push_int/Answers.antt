use Rattle.std.proofs.Common.{◌∙◌, ◌++◌, ℕ, List, ap}
use Rattle.std.proofs.lemmas.Int.{to_z-of_z}
use Rattle.relation_csv.proofs.DecimalLemmas.{field_text-signed}
use Rattle.relation_csv.proofs.texts.push_int.Goals as goal

pub returns-clause-ok : goal.returns-clause-ok
returns-clause-ok c =
    let fits = c.ranges.number in
    let text = simp to_z-of_z at c.format.ensures.text in
    rw (field_text-signed c.args.number fits)
    (c.in_ok-extend_from_slice.ensures.items ∙ ap (λ (bytes : List ℕ). c.args.into.now.items ++ bytes)
    (c.as_bytes.ensures.value ∙ text))
