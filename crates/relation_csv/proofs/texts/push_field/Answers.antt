use Rattle.std.proofs.Common.{sym, arith}
use Rattle.std.proofs.lemmas.Grind.{common_steps}
use Rattle.std.proofs.lemmas.List.{append-nil}
use Rattle.csv.specs.Writing.{escaped}
use Rattle.relation_csv.proofs.TextLemmas.{escaped-other, escaped-quote}
use Rattle.relation_csv.proofs.texts.push_field.Goals as goal
use Rattle.relation_csv.proofs.texts.push_field.Goals.{then-byte-eq34+in_ok-push-2, else-byte-eq34}

pub loop-byte-init : goal.loop-byte-init
unfolding escaped
loop-byte-init c = sym (append-nil c.push.new.self.items)

pub loop-byte-preserved : goal.loop-byte-preserved
loop-byte-preserved c =
    let whole = c.in_ok-push-3.ensures.items in
    elim c.if-byte-eq34.branch [
      | then-byte-eq34+in_ok-push-2 w ↦
          escaped-quote c.push.new.self.items c.loop-byte.into.items w.push-then-byte-eq34.new.self.items
          c.push-in-loop-byte.new.self.items c.args.field.now c.loop-byte.byte-index
          c.loop-byte-test.true w.if-byte-eq34.true c.loop-byte.invariant w.in_ok-push-2.ensures.items
          (rw w.into-is at whole)
      | else-byte-eq34 w ↦
          escaped-other c.push.new.self.items c.loop-byte.into.items c.push-in-loop-byte.new.self.items
          c.args.field.now c.loop-byte.byte-index
          c.loop-byte-test.true w.if-byte-eq34.false c.loop-byte.invariant (rw w.into-is at whole)
    ]

pub returns-clause-ok : goal.returns-clause-ok
returns-clause-ok c = grind (arith, common_steps)
