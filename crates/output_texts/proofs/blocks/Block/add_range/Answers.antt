use Rattle.std.proofs.Common.{◌∙◌, ◌++◌, Result, Ok, Err, map, ap}
use Rattle.std.specs.Prelude.{OnOk}
use Rattle.output_texts.proofs.BlockLemmas.{text-of_rows}
use Rattle.output_texts.proofs.blocks.Block.add_range.Goals as goal

carried : {X E P Q : Type 0} (r : Result X E) → (P → Q) → OnOk r P → OnOk r Q
carried (Ok x) f h = f h
carried (Err why) f h = tt

pub returns : goal.returns
returns c =
    carried c.add_rows.result
    (λ added. added ∙ ap (λ text. c.args.self.now ++ text) (text-of_rows c.deref.result.now c.args.range.now (ap (map (λ row. row.now)) c.deref.ensures.value ∙ c.in_ok-rows.ensures)))
    c.add_rows.ensures
