use Rattle.std.proofs.Common.{◌≡◌, ◌-◌, ◌∙◌, get_or, take, ap, ℕ, arith}
use Rattle.std.proofs.lemmas.Grind.{common_steps}
use Rattle.std.proofs.lemmas.Str.{IsCharBoundary-after_ascii}
use Rattle.relation_csv.proofs.DigitLemmas.{digits-plain}
use Rattle.relation_csv.proofs.PlainLemmas.{BeginsWithField-comma_at, BeginsWithField-line_at}
use Rattle.relation_csv.proofs.plain.first_number.Goals as goal

pub range_from-requires : goal.range_from-requires
range_from-requires c = λ _.
    let comma : get_or c.args.text.now c.in_ok-number.end 0 ≡ 44 = cc in
    IsCharBoundary-after_ascii c.args.text.now c.in_ok-number.end c.utf8.text
    (omega (arith, c.in_ok-number.ensures.bound, c.as_bytes-bytes.ensures.len)) (omega arith)

pub range_from-requires-in-10 : goal.range_from-requires-in-10
range_from-requires-in-10 c = λ _.
    let feed : get_or c.args.text.now c.in_ok-number.end 0 ≡ 10 = cc in
    IsCharBoundary-after_ascii c.args.text.now c.in_ok-number.end c.utf8.text
    (omega (arith, c.in_ok-number.ensures.bound, c.as_bytes-bytes.ensures.len)) (omega arith)

pub returns-in-44-clause-begins : goal.returns-in-44-clause-begins
returns-in-44-clause-begins c =
    let n = c.in_ok-number.end in
    let text = c.args.text.now in
    let comma : get_or text n 0 ≡ 44 = cc in
    let all : n - 0 ≡ n = omega arith in
    BeginsWithField-comma_at text n c.range.result.now c.range_from.result.now
    (omega (arith, c.in_ok-number.ensures.bound, c.as_bytes-bytes.ensures.len)) comma
    (c.range.ensures.value ∙ ap (λ (k : ℕ). take k text) all) c.range_from.ensures.value
    (digits-plain (take n text) (rw c.as_bytes-bytes.ensures.value at c.in_ok-number.ensures.digits))

pub returns-in-10-clause-begins : goal.returns-in-10-clause-begins
returns-in-10-clause-begins c =
    let n = c.in_ok-number.end in
    let text = c.args.text.now in
    let feed : get_or text n 0 ≡ 10 = cc in
    let all : n - 0 ≡ n = omega arith in
    BeginsWithField-line_at text n c.range-in-10.result.now c.range_from-in-10.result.now
    (omega (arith, c.in_ok-number.ensures.bound, c.as_bytes-bytes.ensures.len)) feed
    (c.range-in-10.ensures.value ∙ ap (λ (k : ℕ). take k text) all) c.range_from-in-10.ensures.value
    (digits-plain (take n text) (rw c.as_bytes-bytes.ensures.value at c.in_ok-number.ensures.digits))

pub returns-in-44-clause-number : goal.returns-in-44-clause-number
returns-in-44-clause-number c = grind (arith, common_steps)

pub returns-in-10-clause-number : goal.returns-in-10-clause-number
returns-in-10-clause-number c = grind (arith, common_steps)
