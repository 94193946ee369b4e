use Rattle.std.proofs.Common.{◌≡◌, ◌-◌, ◌∙◌, get_or, take, ap, ℕ, arith}
use Rattle.std.proofs.lemmas.Str.{IsCharBoundary-after_ascii}
use Rattle.std.proofs.lemmas.List.{take_all}
use Rattle.relation_csv.proofs.PlainLemmas.{BeginsWithField-comma_at, BeginsWithField-end, BeginsWithField-line_at}
use Rattle.relation_csv.proofs.plain.first_field.Goals as goal

pub returns-then-end-bytes-clause-begins : goal.returns-then-end-bytes-clause-begins
returns-then-end-bytes-clause-begins c =
    let text = c.args.text.now in
    let all : take c.field_end-end.result text ≡ text = take_all c.field_end-end.result text (omega arith) in
    BeginsWithField-end text (rw (c.as_bytes-bytes.ensures.value, all) at c.field_end-end.ensures.plain)

pub range_from-requires : goal.range_from-requires
range_from-requires c = λ _.
    let comma : get_or c.args.text.now c.field_end-end.result 0 ≡ 44 = cc in
    IsCharBoundary-after_ascii c.args.text.now c.field_end-end.result c.utf8.text (omega arith) (omega arith)

pub range_from-requires-in-10 : goal.range_from-requires-in-10
range_from-requires-in-10 c = λ _.
    let feed : get_or c.args.text.now c.field_end-end.result 0 ≡ 10 = cc in
    IsCharBoundary-after_ascii c.args.text.now c.field_end-end.result c.utf8.text (omega arith) (omega arith)

pub returns-in-44-clause-begins : goal.returns-in-44-clause-begins
returns-in-44-clause-begins c =
    let n = c.field_end-end.result in
    let text = c.args.text.now in
    let comma : get_or text n 0 ≡ 44 = cc in
    let all : n - 0 ≡ n = omega arith in
    BeginsWithField-comma_at text n c.range.result.now c.range_from.result.now (omega arith) comma
    (c.range.ensures.value ∙ ap (λ (k : ℕ). take k text) all) c.range_from.ensures.value
    (rw c.as_bytes-bytes.ensures.value at c.field_end-end.ensures.plain)

pub returns-in-10-clause-begins : goal.returns-in-10-clause-begins
returns-in-10-clause-begins c =
    let n = c.field_end-end.result in
    let text = c.args.text.now in
    let feed : get_or text n 0 ≡ 10 = cc in
    let all : n - 0 ≡ n = omega arith in
    BeginsWithField-line_at text n c.range-in-10.result.now c.range_from-in-10.result.now (omega arith) feed
    (c.range-in-10.ensures.value ∙ ap (λ (k : ℕ). take k text) all) c.range_from-in-10.ensures.value
    (rw c.as_bytes-bytes.ensures.value at c.field_end-end.ensures.plain)
