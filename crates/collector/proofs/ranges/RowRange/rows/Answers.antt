use Rattle.std.proofs.Common.{◌≡◌, ◌∙◌, take, arith}
use Rattle.std.proofs.lemmas.Grind.{common_steps}
use Rattle.std.proofs.lemmas.List.{take_all}
use Rattle.collector.proofs.CollectLemmas.{merged_rows}
use Rattle.collector.proofs.ranges.RowRange.rows.Goals as goal

pub loop-run-preserved : goal.loop-run-preserved
loop-run-preserved c = grind (arith, common_steps)

pub returns : goal.returns
returns c =
    let runs = c.deref-run-items.result.now in
    let over = c.loop-run-test.false in
    let all : take c.loop-run.run-index runs ≡ c.self.inside.runs.items =
    take_all c.loop-run.run-index runs (omega (arith, over)) ∙ c.deref-run-items.ensures.value in
    merged_rows c.self.inside.runs.items c.loop-run.lists.items c.in_ok-rows-2.rows (c.loop-run.invariant.0 ∙ all) c.in_ok-rows-2.ensures
    ∙ c.self.view_is
