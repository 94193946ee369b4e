use Rattle.std.proofs.Common.{◌≡◌, ◌∙◌, ℕ, ◌+◌, ◌*◌, ◌<◌, List, length, subst, sym, arith, ap}
use Rattle.std.proofs.lemmas.Grind.{common_steps}
use Rattle.std.proofs.lemmas.List.{get_or_default}
use Rattle.myrial_ast.specs.Combinations.{Rows}
use Rattle.routed_joins.specs.Listings.{count_at, IsListedAt}
use Rattle.routed_joins.proofs.TellingLemmas.{one-told}
use Rattle.routed_joins.proofs.telling.tell_listed.Goals as goal

pub returns : goal.returns
returns g c =
    let a = c.args in
    let totals = g.T.Tap.totals in
    let tag = g.T.Tap.tag in
    let end : c.loop-w.w ≡ length a.parts.now =
    omega (arith, c.loop-w-test.false, c.loop-w.auto.w-end, ap length c.as_slice-rows-items.ensures.value) in
    subst (λ (x : ℕ × List Rows). IsListedAt totals tag x.0 (count_at x.1) a.taps.now.items c.loop-w.taps.items)
    (λ i. (end i, c.as_slice-rows-items.ensures.value i)) c.loop-w.invariant

pub loop-w-preserved : goal.loop-w-preserved
loop-w-preserved g c =
    let items = c.loop-w.taps.items in
    let so = c.loop-w.invariant in
    let end = ap length c.as_slice-rows-items.ensures.value in
    let inside : 2 * c.loop-w.w + 1 < length items =
    omega (arith, c.loop-w-test.true, end, c.requires.taps, c.args.taps.now.ok.0, so.told.count) in
    one-told g.T.Tap.totals g.T.Tap.tag c.loop-w.w c.as_slice-rows-items.result.now
    c.args.taps.now.items items c.from.result c.index_mut.result.now c.listed.new.self so inside
    (λ d. get_or_default items (2 * c.loop-w.w + 1) d c.index_mut.result.now inside ∙ sym c.index_mut.ensures.value)
    (grind (arith, common_steps)) (omega arith)
    c.requires.unlisted c.listed.ensures.totals c.listed.ensures.tag
