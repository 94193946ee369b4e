use Rattle.std.proofs.Common.{sym, arith}
use Rattle.std.proofs.lemmas.Grind.{common_steps}
use Rattle.std.proofs.lemmas.List.{append-nil}
use Rattle.csv.specs.Writing.{fields_text}
use Rattle.relation_csv.proofs.TextLemmas.{Extends-loop, OnErr-from, fields_text-next}
use Rattle.relation_csv.proofs.texts.push_fields.Goals as goal

pub loop-field-init : goal.loop-field-init
unfolding fields_text
loop-field-init g c = sym (append-nil c.push.new.into.items)

pub returns-in_err-push-3-clause-err : goal.returns-in_err-push-3-clause-err
returns-in_err-push-3-clause-err g c =
    OnErr-from _ (Extends-loop c.args.into.now.items _ _ c.push.new.into.items c.loop-field.into.items
    c.push-in-loop-field.new.self.items c.push-in-loop-field-2.new.into.items
    c.in_ok-push.ensures.ok c.loop-field.invariant c.in_ok-push-2.ensures.items c.in_err-push-3.ensures.err)

pub loop-field-preserved : goal.loop-field-preserved
loop-field-preserved g c =
    fields_text-next g.F.Field.bytes _ c.loop-field.field-index c.field-item.result c.push.new.into.items
    c.loop-field.into.items c.push-in-loop-field.new.self.items c.push-in-loop-field-2.new.into.items
    c.loop-field-test.true c.field-item.is c.loop-field.invariant c.in_ok-push-2.ensures.items c.in_ok-push-3.ensures.ok

pub returns-in_default-clause-ok : goal.returns-in_default-clause-ok
returns-in_default-clause-ok g c = grind (arith, common_steps)

pub returns-clause-ok : goal.returns-clause-ok
returns-clause-ok g c = grind (arith, common_steps)
