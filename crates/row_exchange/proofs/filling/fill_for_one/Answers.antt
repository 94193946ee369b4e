use Rattle.std.proofs.Common.{◌+◌, arith}
use Rattle.std.proofs.lemmas.Grind.{common_steps}
use Rattle.row_exchange.proofs.OneCellLemmas.{next-batch}
use Rattle.row_exchange.proofs.filling.fill_for_one.Goals as goal

pub loop-from-preserved : goal.loop-from-preserved
loop-from-preserved c = record {
  within = omega arith;
  added = let inv = c.loop-from.invariant in
      next-batch c.args.cell c.args.size.workers c.args.atoms c.args.size.batch c.args.atom c.loop-from.from (c.loop-from.from + c.min.result)
      c.args.rows.now c.in_ok-rows.rows c.args.filled.items c.loop-from.filled.items c.push.new.self.items
      (c.requires.inside (omega arith)) c.requires.atom (omega arith) (omega arith) (omega arith) (omega arith)
      c.in_ok-rows.ensures c.in_ok-push.ensures.items inv.added;
}

pub returns : goal.returns
returns c = grind (arith, common_steps)
