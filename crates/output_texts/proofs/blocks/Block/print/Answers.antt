use Rattle.std.proofs.Common.{◌≡◌, ◌+◌, ◌-◌, ◌∙◌, sym, subst, arith, rules, Err, take, drop, take-append-drop}
use Rattle.rel_io.specs.Sinks.{Offers}
use Rattle.output_texts.proofs.PieceLemmas.{next_piece, last_piece, offers_further, offers_line, offers_refused}
use Rattle.output_texts.proofs.blocks.Block.print.Goals as goal

pub loop-len-preserved : goal.loop-len-preserved
loop-len-preserved g c =
    let kept = c.loop-len.invariant in
    let done = c.loop-len.done in
    let end = done + c.min.result in
    record {
      within = omega (arith, kept.within);
      offered = offers_further _ _ _ _ _ _ _ _ (next_piece c.as_slice-text.result.now done end (omega arith)) kept.offered c.in_ok-offer.ensures;
    }

pub returns-in_err-offer : goal.returns-in_err-offer
returns-in_err-offer g c =
    let text = c.as_slice-text.result.now in
    let done = c.loop-len.done in
    let piece = take (done + c.min.result - done) (drop done text) in
    let answer : c.from_residual.result ≡ Err c.in_err-offer.field-0.0 = search rules in
    let refused = offers_refused _ piece _ (drop done text) _ (sym (take-append-drop (done + c.min.result - done) (drop done text))) c.in_err-offer.ensures in
    offers_line _ text _ _ (c.as_slice-text.ensures.value ∙ c.self.view_is)
    (offers_further _ _ _ _ _ _ _ _ (sym (take-append-drop done text)) c.loop-len.invariant.offered (subst (Offers _ _) (sym answer) refused))

pub returns : goal.returns
returns g c =
    let text = c.as_slice-text.result.now in
    offers_line _ text _ _ (c.as_slice-text.ensures.value ∙ c.self.view_is)
    (offers_further _ _ _ _ _ _ _ _ (last_piece text c.loop-len.done) c.loop-len.invariant.offered c.offer-2.ensures)
