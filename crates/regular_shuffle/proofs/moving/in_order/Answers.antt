use Rattle.std.proofs.Common.{◌∙◌, ◌++◌, reverse, sym, ap}
use Rattle.regular_shuffle.proofs.MovingLemmas.{turned}
use Rattle.regular_shuffle.proofs.moving.in_order.Goals as goal

pub loop-item-preserved : goal.loop-item-preserved
loop-item-preserved g c =
    ap (λ l. l ++ reverse c.pop.new.self.items) c.in_ok-push.ensures.ok
    ∙ turned c.loop-item.made c.pop.new.self.items (reverse c.args.backwards.items) c.in-Some.item
    (ap (λ l. c.loop-item.made ++ reverse l) (sym c.in-Some.ensures.items) ∙ c.loop-item.invariant)
