use Rattle.output_texts.proofs.PieceLemmas.{flat_map-first, offers_further}
use Rattle.myria_top.proofs.messages.+offer_all.Goals as goal

pub returns-in_ok-offer-in-len1-up : goal.returns-in_ok-offer-in-len1-up
returns-in_ok-offer-in-len1-up g t c =
    let whole = flat_map-first (λ p. p.now) c.args.pieces.now _ c.as_bytes.result.now c.in-len1-up.len_at_least c.as_bytes.ensures.value in
    offers_further _ _ _ _ _ _ _ c.offer_all.result whole c.in_ok-offer-in-len1-up.ensures c.offer_all.ensures
