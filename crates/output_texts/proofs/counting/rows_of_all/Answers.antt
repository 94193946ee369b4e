use Rattle.std.proofs.Common.{◌∙◌, [], sym, ap, arith}
use Rattle.std.specs.List.{flat_map}
use Rattle.std.proofs.lemmas.List.{take_all}
use Rattle.rel_base.specs.Picks.{joined}
use Rattle.output_texts.proofs.TrialLemmas.{rows-more, rows_of_stores}
use Rattle.output_texts.proofs.counting.rows_of_all.Goals as goal

pub loop-store-preserved : goal.loop-store-preserved
loop-store-preserved c =
    rows-more (λ store. joined store.parts) [] c.loop-store.all.items c.add_rows_of_store.new.all.items c.as_slice-store-items.result.now
    c.loop-store.store-index c.store-item.result c.loop-store-test.true c.store-item.is c.loop-store.invariant c.in_ok-add_rows_of_store.ensures

pub returns : goal.returns
returns c =
    let stores = c.as_slice-store-items.result.now in
    let over = c.loop-store-test.false in
    c.loop-store.invariant ∙ ap (flat_map (λ store. joined store.parts)) (take_all c.loop-store.store-index stores (omega (arith, over)) ∙ c.as_slice-store-items.ensures.value)
    ∙ sym (rows_of_stores c.args.stored.now)
