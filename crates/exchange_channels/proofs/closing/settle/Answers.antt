use Rattle.std.proofs.Common.{◌≡◌, ◌<◌, ◌∙◌, length, sym, subst, arith}
use Rattle.exchange_channels.specs.inner.Keeps.{IsSettled}
use Rattle.exchange_channels.proofs.PortLemmas.{set_unchanged, settled_more}
use Rattle.exchange_channels.proofs.closing.settle.Goals as goal

pub loop-cell-preserved : goal.loop-cell-preserved
loop-cell-preserved c =
    let here : c.loop-cell.cell-index < length c.loop-cell.cells = omega arith in
    let same : c.learn.new.self ≡ c.cell-item.result = c.learn.ensures.same ∙ sym c.cell-item.is in
    record {
      same = set_unchanged c.loop-cell.cells c.loop-cell.cell-index c.cell-item.result c.learn.new.self c.cell-item.is here same ∙ c.loop-cell.invariant.same;
      settled = settled_more c.loop-cell.cells c.loop-cell.cell-index c.cell-item.result c.learn.new.self c.cell-item.is here same (subst IsSettled (sym c.cell-item.is) c.learn.ensures.inbox) c.loop-cell.invariant.settled;
    }
