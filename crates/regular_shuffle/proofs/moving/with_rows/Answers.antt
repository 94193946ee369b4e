use Rattle.std.proofs.Common.{◌≡◌, ◌∙◌, ◌==◌, true, false, cond, length, sym, ap, arith}
use Rattle.std.proofs.lemmas.Grind.{common_steps}
use Rattle.std.specs.Prelude.{set}
use Rattle.std.proofs.lemmas.Bool.Decides.{nat_tests}
use Rattle.regular_shuffle.proofs.MovingLemmas.{set-back}
use Rattle.regular_shuffle.proofs.moving.with_rows.Goals as goal

pub loop-present-preserved-then-len-atom : goal.loop-present-preserved-then-len-atom
loop-present-preserved-then-len-atom c =
    let a = c.args in
    let here : (length c.pop.new.self == a.atom) ≡ true = grind (arith, nat_tests, c.if-len-atom.true, c.len-in-Some.ensures) in
    set-back c.loop-present.parts c.pop.new.self c.loop-present.backwards.items c.push.new.self.items (set a.parts a.atom a.rows.now) a.atom a.rows.now c.in-Some.present c.in_ok-copy.field-0
    c.in-Some.ensures.items c.in_ok-push.ensures.items (c.in_ok-copy.ensures ∙ sym (ap (λ b. cond b a.rows.now c.in-Some.present) here)) c.loop-present.invariant

pub loop-present-preserved : goal.loop-present-preserved
loop-present-preserved c =
    let a = c.args in
    let elsewhere : (length c.pop.new.self == a.atom) ≡ false = grind (arith, nat_tests, c.if-len-atom.false, c.len-in-Some.ensures) in
    set-back c.loop-present.parts c.pop.new.self c.loop-present.backwards.items c.push-else-len-atom.new.self.items (set a.parts a.atom a.rows.now) a.atom a.rows.now c.in-Some.present c.in-Some.present
    c.in-Some.ensures.items c.in_ok-push-2.ensures.items (sym (ap (λ b. cond b a.rows.now c.in-Some.present) elsewhere)) c.loop-present.invariant

pub loop-present-smaller-then-len-atom : goal.loop-present-smaller-then-len-atom
loop-present-smaller-then-len-atom c = grind (arith, common_steps)

pub loop-present-smaller : goal.loop-present-smaller
loop-present-smaller c = grind (arith, common_steps)

pub returns : goal.returns
returns c = grind (arith, common_steps)
