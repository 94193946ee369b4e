use Rattle.std.proofs.Common.{◌*◌, ◌≤◌, ◌==◌, ℕ, List, [], ◌∷◌, length, All, refl, sym, subst, arith, rules}
use Rattle.std.specs.Prelude.{filter}
use Rattle.std.specs.List.{range_with_len}
use Rattle.myrial_ast.specs.Combinations.{Row}
use Rattle.hash_partition.specs.Hashing.{home_of}
use Rattle.myrial_ast.specs.Bags.{distinct}
use Rattle.algebra.specs.declared.notes.Exchange.TheVariants as exchange
use Rattle.placement.specs.Exchanges.{PlacedExchange, row_exchange}
use Rattle.placement.specs.Layouts.{together}
use Rattle.placement.specs.Runs.{size_of}
use Rattle.routed_joins.specs.PlacedJoins.{placed_rows}
use Rattle.row_exchange.specs.Exchanges.{nothing}
use Rattle.routed_joins.proofs.RouteLemmas.{told-low}
use Rattle.regular_shuffle.specs.KeySpreads.{HasColumns, IsSpread}
use Rattle.routed_joins.specs.Listings.{IsLow}
use Rattle.routed_joins.specs.Readings.{AreSeconds, HaveRisen}
use Rattle.routed_joins.specs.TermRuns.{AreShown, no_receipt, a_receipt}
use Rattle.routed_joins.proofs.TapLemmas.{told-fair}
use Rattle.routed_joins.proofs.ReadingLemmas.{risen-told}
use Rattle.keyed_terms.specs.KeyedTerms.{keyed_placing, distinct_parts, distinct_exchanges}
use Rattle.keyed_terms.proofs.BagLemmas.{distinct-made}
use Rattle.keyed_terms.proofs.ConcludeLemmas.{run-refused, tables-made, concluded}
use Rattle.keyed_terms.proofs.SpreadLemmas.{spread-as, tables-refl, whole-home, whole-columns}
use Rattle.keyed_terms.proofs.distincts.run_distinct.Goals as goal

pub spread_by_key-requires-clause-columns : goal.spread_by_key-requires-clause-columns
spread_by_key-requires-clause-columns g c κs within =
    subst (λ (columns : List ℕ). All (All (HasColumns columns)) c.args.parts) (sym c.in_ok-columns.ensures)
    (whole-columns c.args.width c.args.parts c.requires.width)

pub returns-in_err-met : goal.returns-in_err-met
returns-in_err-met g c =
    let a = c.args in
    let s = a.settings.now in
    let x = c.spread_by_key.ensures in
    run-refused s a.statement (distinct_parts s a.parts) (distinct_exchanges s a.parts) g.T.Tap.totals g.T.Tap.tag a.taps.now.items c.spread_by_key.new.taps.items
    c.from_residual-in_err-met.result (search rules)
    (told-fair g.T.Tap.totals g.T.Tap.tag s.workers x.sent_by x.got_by nothing a.taps.now.items c.spread_by_key.new.taps.items x.even x.told)

pub returns-in_err-made : goal.returns-in_err-made
returns-in_err-made g c =
    let a = c.args in
    let s = a.settings.now in
    let x = c.spread_by_key.ensures in
    run-refused s a.statement (distinct_parts s a.parts) (distinct_exchanges s a.parts) g.T.Tap.totals g.T.Tap.tag a.taps.now.items c.spread_by_key.new.taps.items
    c.from_residual-in_err-made.result (search rules)
    (told-fair g.T.Tap.totals g.T.Tap.tag s.workers x.sent_by x.got_by nothing a.taps.now.items c.spread_by_key.new.taps.items x.even x.told)

pub returns-in_err-receipts : goal.returns-in_err-receipts
returns-in_err-receipts g c =
    let a = c.args in
    let s = a.settings.now in
    let x = c.spread_by_key.ensures in
    run-refused s a.statement (distinct_parts s a.parts) (distinct_exchanges s a.parts) g.T.Tap.totals g.T.Tap.tag a.taps.now.items c.spread_by_key.new.taps.items
    c.from_residual-in_err-receipts.result (search rules)
    (told-fair g.T.Tap.totals g.T.Tap.tag s.workers x.sent_by x.got_by nothing a.taps.now.items c.spread_by_key.new.taps.items x.even x.told)

pub conclude-requires-clause-unlisted : goal.conclude-requires-clause-unlisted
conclude-requires-clause-unlisted g c =
    let a = c.args in
    let totals = g.T.Tap.totals in
    let x = c.spread_by_key.ensures in
    let low : All (λ t. IsLow (totals t)) a.taps.now.items =
    subst (All (λ t. IsLow (totals t))) c.as_slice.ensures.value (c.have_room.ensures.unlisted (search rules)) in
    told-low totals g.T.Tap.tag a.settings.now.workers x.sent_by x.got_by a.taps.now.items c.spread_by_key.new.taps.items x.told low

pub conclude-requires-clause-risen : goal.conclude-requires-clause-risen
conclude-requires-clause-risen g c =
    let a = c.args in
    let totals = g.T.Tap.totals in
    let tag = g.T.Tap.tag in
    let n = a.settings.now.workers in
    let x = c.spread_by_key.ensures in
    let after = c.spread_by_key.new.taps.items in
    let read = subst (λ (taps : List _). AreSeconds totals n taps c.in_ok-since.since.items) c.as_slice-2.ensures.value c.in_ok-since.ensures in
    subst (λ (since : List _). HaveRisen totals since after) (sym c.deref.ensures.value)
    (risen-told totals tag n x.sent_by x.got_by nothing a.taps.now.items after c.in_ok-since.since.items read x.told)

pub returns : goal.returns
returns g c =
    let a = c.args in
    let s = a.settings.now in
    let parts = a.parts in
    let totals = g.T.Tap.totals in
    let tag = g.T.Tap.tag in
    let home : Row → ℕ = λ row. home_of s.seed row s.workers in
    let before = a.taps.now.items in
    let middle = c.spread_by_key.new.taps.items in
    let since = c.deref.result.now in
    let met = c.in_ok-met.met in
    let made = c.in_ok-made.made in
    let x = c.in_ok-met.ensures in
    let room : 2 * s.workers ≤ length before = omega (arith, c.requires.taps, a.taps.now.ok.0) in
    let read : AreSeconds totals s.workers before since =
    subst (λ (since : List _). AreSeconds totals s.workers before since) (sym c.deref.ensures.value)
    (subst (λ (taps : List _). AreSeconds totals s.workers taps c.in_ok-since.since.items) c.as_slice-2.ensures.value c.in_ok-since.ensures) in
    let spread =
    spread-as s.seed (range_with_len 0 a.width) home parts parts (size_of s) x.sent_by x.got_by met c.in_ok-met.receipt (tables-refl parts)
    (whole-home s.seed s.workers a.width parts c.requires.width)
    (subst (λ (columns : List ℕ). IsSpread s.seed columns parts (size_of s) x.sent_by x.got_by met c.in_ok-met.receipt) c.in_ok-columns.ensures x.ok) in
    let rows = distinct-made s.workers (λ w row. home row == w) (together parts) met made spread.rows c.in_ok-made.ensures in
    let e : PlacedExchange = row_exchange (keyed_placing s) exchange.Distinct (placed_rows parts ∷ []) (distinct_parts s parts) in
    concluded s a.statement (distinct_parts s parts) e totals tag before middle c.conclude.new.taps.items x.sent_by x.got_by
    since made c.in_ok-receipts.receipts room read x.told spread.sent_are spread.got_are
    refl rows.count (tables-made s.workers (λ w. filter (λ row. home row == w) (distinct (together parts))) made rows)
    (subst (AreShown (size_of s) (e.moves ∷ [])) (sym c.in_ok-receipts.ensures) (a_receipt e.moves c.in_ok-met.receipt [] [] spread.shows no_receipt))
    c.conclude.ensures.listed (told-fair totals tag s.workers x.sent_by x.got_by nothing before middle x.even x.told) c.conclude.result c.conclude.ensures.ok

pub returns-in_err-since : goal.returns-in_err-since
returns-in_err-since g c = search rules

pub returns-in_err-columns : goal.returns-in_err-columns
returns-in_err-columns g c = search rules
