use Rattle.std.proofs.Common.{◌≡◌, ◌∙◌, ◌+◌, true, cond, ap, sym, drop}
use Rattle.myrial_parser.specs.inner.Descent.{Input, sees, count_ahead}
use Rattle.myrial_parser.proofs.CountLemmas.{count-turn, drop-turn}
use Rattle.myrial_parser.proofs.cursor.Cursor.count_of.Goals as goal

pub loop-count-preserved : goal.loop-count-preserved
loop-count-preserved c =
    let now = c.loop-count.self in
    let seen : sees c.args.symbol now ≡ true = sym c.eat.ensures.found ∙ c.if-not-eat.false in
    let passed : c.eat.new.self ≡ drop 1 now = c.eat.ensures.after ∙ ap (λ t. cond t (drop 1 now) now) seen in (
      ap (λ (i : Input). c.loop-count.count + 1 + count_ahead c.args.symbol i) passed ∙ count-turn c.args.symbol c.args.self.now now c.loop-count.count seen c.loop-count.invariant.0,
      passed ∙ drop-turn c.args.self.now now c.loop-count.count c.loop-count.invariant.1,
    )
