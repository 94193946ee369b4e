use Rattle.std.proofs.Common.{◌∙◌, true≢false, sym}
use Rattle.std.proofs.lemmas.Str.{is_utf8-from_IsUtf8}
use Rattle.plan_json.proofs.ValueLemmas.{no_value}
use Rattle.plan_json.proofs.reading.value_in.Goals as goal

pub returns-in-Ok-clause-ok : goal.returns-in-Ok-clause-ok
returns-in-Ok-clause-ok c =
    let is = c.in-Ok.ensures.ok in
    rw (is_utf8-from_IsUtf8 _ is.0) is.1

pub returns-then-is_memory-clause-not_plan : goal.returns-then-is_memory-clause-not_plan
returns-then-is_memory-clause-not_plan c = λ bad. absurd (cc)

pub returns-else-is_memory-clause-not_plan : goal.returns-else-is_memory-clause-not_plan
returns-else-is_memory-clause-not_plan c =
    let e = c.is_memory.ensures in
    let f = c.if-is_memory.false in
    λ _. no_value c.args.bytes.now (c.in-Err.ensures.err (λ m. true≢false (sym (e.1 m) ∙ f)))
