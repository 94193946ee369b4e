use Rattle.std.proofs.Common.{◌≡◌, ◌∙◌, suc, ◌++◌, Err, ap, refl, drop, rules, subst, sym}
use Rattle.rel_base.specs.Picks.{joined}
use Rattle.rel_io.specs.Sinks.{Offers}
use Rattle.output_texts.proofs.PieceLemmas.{blocks_at, blocks_whole, offers_further, offers_line, offers_refused}
use Rattle.output_texts.proofs.pieces.Pieces.print.Goals as goal

pub returns-in_err-print : goal.returns-in_err-print
returns-in_err-print g c =
    let blocks = c.deref-block-items.result.now in
    let last = c.self.inside.last in
    let i = c.loop-block.block-index in
    let block = c.block-item.result in
    let answer : c.from_residual.result ≡ Err c.in_err-print.field-0.0 = search rules in
    let text = ap (λ bs. joined bs ++ last) c.deref-block-items.ensures.value ∙ c.self.view_is in
    let refused = offers_refused _ block (joined (drop (suc i) blocks) ++ last) _ _ refl c.in_err-print.ensures in
    offers_line _ _ _ _ text
    (offers_further _ _ _ _ _ _ _ _ (blocks_at blocks last block i c.loop-block-test.true c.block-item.is) c.loop-block.invariant
    (subst (Offers _ _) (sym answer) refused))

pub returns : goal.returns
returns g c =
    let blocks = c.deref-block-items.result.now in
    let last = c.self.inside.last in
    let text = ap (λ bs. joined bs ++ last) c.deref-block-items.ensures.value ∙ c.self.view_is in
    offers_line _ _ _ _ text
    (offers_further _ _ _ _ _ _ _ _ (blocks_whole blocks last c.loop-block.block-index c.loop-block-test.false) c.loop-block.invariant c.print-2.ensures)
