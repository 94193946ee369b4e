use Rattle.std.proofs.Common.{Result, Ok, Err, ◌∙◌, ap}
use Rattle.std.specs.Prelude.{OnOk}
use Rattle.rel_base.specs.Picks.{joined}
use Rattle.output_texts.proofs.StoreLemmas.{store_text}
use Rattle.output_texts.proofs.pieces.Pieces.add_store.Goals as goal

carried : {X E P Q : Type 0} (r : Result X E) → (P → Q) → OnOk r P → OnOk r Q
carried (Ok x) f h = f h
carried (Err why) f h = tt

pub returns : goal.returns
returns g c =
    carried c.add_ranges.result
    (λ written. store_text c.args.store.now c.in_ok-sorted.sorted c.deref.result.now c.len-rows.result
    c.args.self.now c.add_store_line.new.self c.add_header.new.self c.add_ranges.new.self c.in_ok-sorted.ensures (ap joined c.deref.ensures.value ∙ c.in_ok-ranges.ensures)
    c.len-rows.ensures c.in_ok-add_store_line.ensures c.in_ok-add_header.ensures written) c.add_ranges.ensures
