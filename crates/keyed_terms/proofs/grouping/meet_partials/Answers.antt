use Rattle.std.proofs.Common.{◌≡◌, ◌*◌, ◌≤◌, ◌==◌, ℕ, List, [], ◌∷◌, map, length, get_or, All, Err, refl, sym, ap, ◌∙◌, subst, arith, rules}
use Rattle.std.specs.Prelude.{filter}
use Rattle.std.specs.List.{list_all}
use Rattle.std.proofs.lemmas.Result.{err_from_is_err_and}
use Rattle.myrial_ast.specs.Combinations.{Row}
use Rattle.myrial_ast.specs.Groups.{groups, sums_fit}
use Rattle.myrial_ast.specs.Partials.{partial_rows, partial_keys}
use Rattle.algebra.specs.Trees.{kind_of_emit}
use Rattle.aggregate_ops.specs.Columns.{Overflows}
use Rattle.aggregate_ops.specs.Forms.{merged_fits}
use Rattle.aggregate_ops.specs.declared.faults.AggFault.TheVariants as fault
use Rattle.placement.specs.Exchanges.{PlacedExchange, group_exchange}
use Rattle.placement.specs.Layouts.{together}
use Rattle.placement.specs.Runs.{size_of}
use Rattle.row_exchange.specs.Exchanges.{nothing}
use Rattle.routed_joins.proofs.RouteLemmas.{told-low}
use Rattle.regular_shuffle.specs.KeySpreads.{HasColumns, IsSpread}
use Rattle.routed_joins.specs.Listings.{IsLow, count_at}
use Rattle.routed_joins.specs.Readings.{AreSeconds, HaveRisen}
use Rattle.routed_joins.specs.TermRuns.{AreShown, no_receipt, a_receipt}
use Rattle.routed_joins.proofs.TapLemmas.{told-fair, listed-fair, fair-both}
use Rattle.routed_joins.proofs.ReadingLemmas.{risen-told}
use Rattle.routed_joins.proofs.RunLemmas.{run-made}
use Rattle.keyed_terms.specs.KeyedTerms.{keyed_placing, group_parts, group_exchanges, IsGroupFault}
use Rattle.keyed_terms.specs.inner.Making.{AreMadeBy}
use Rattle.keyed_terms.proofs.ConcludeLemmas.{run-faulty, tables-made, moved-once, concluded-ok}
use Rattle.keyed_terms.proofs.GroupLemmas.{partial_home, group_home, partials-same, partials-home, partials-columns, met-wide, groups-made, fits-all}
use Rattle.keyed_terms.proofs.SpreadLemmas.{spread-as}
use Rattle.keyed_terms.proofs.grouping.meet_partials.Goals as goal

pub spread_by_key-requires-clause-columns : goal.spread_by_key-requires-clause-columns
spread_by_key-requires-clause-columns g c κs within =
    let a = c.args in
    let s = a.settings.now in
    let n = s.workers in
    let kinds = map kind_of_emit a.kinds.now in
    let listed = c.requires.formed.0 in
    let f = c.requires.formed.1 in
    let totals = g.T.Tap.totals in
    let tag = g.T.Tap.tag in
    let before = a.taps.now.items in
    let partials = a.partials.now in
    let formed : AreMadeBy n (λ w. partial_rows kinds (get_or listed w [])) partials = f.made in
    subst (λ (columns : List ℕ). All (All (HasColumns columns)) partials) (sym c.in_ok-keys.ensures)
    (partials-columns kinds s.seed n listed f.long f.grouped partials formed)

pub returns-in_err-met-clause-run : goal.returns-in_err-met-clause-run
returns-in_err-met-clause-run g c listed f =
    let a = c.args in
    let s = a.settings.now in
    let n = s.workers in
    let kinds = map kind_of_emit a.kinds.now in
    let totals = g.T.Tap.totals in
    let tag = g.T.Tap.tag in
    let before = a.taps.now.items in
    let middle = c.spread_by_key.new.taps.items in
    let x = c.spread_by_key.ensures in
    let fair = told-fair totals tag n x.sent_by x.got_by nothing before middle x.even x.told in
    let p = err_from_is_err_and c.from_residual-in_err-met.result c.from_residual-in_err-met.ensures.1 in
    run-faulty s a.statement (group_parts s kinds listed) (group_exchanges s kinds listed) totals tag (IsGroupFault kinds listed) before middle
    c.from_residual-in_err-met.result fault.Memory (p.1 ∙ ap Err p.2) fair tt

pub merge_each-requires-after_bounds : goal.merge_each-requires-after_bounds
merge_each-requires-after_bounds g c κs within =
    let a = c.args in
    let s = a.settings.now in
    let n = s.workers in
    let kinds = map kind_of_emit a.kinds.now in
    let listed = c.requires.formed.0 in
    let f = c.requires.formed.1 in
    let totals = g.T.Tap.totals in
    let tag = g.T.Tap.tag in
    let before = a.taps.now.items in
    let partials = a.partials.now in
    let formed : AreMadeBy n (λ w. partial_rows kinds (get_or listed w [])) partials = f.made in
    let y = c.in_ok-met.ensures in
    let met = c.in_ok-met.met in
    let home : Row → ℕ = partial_home kinds s.seed n listed f.long f.grouped in
    let spread =
    spread-as s.seed (partial_keys kinds) home (map (partial_rows kinds) listed) partials (size_of s) y.sent_by y.got_by met c.in_ok-met.receipt
    (partials-same kinds s.seed n listed f.long f.grouped partials formed) (partials-home kinds s.seed n listed f.long f.grouped partials formed)
    (subst (λ (columns : List ℕ). IsSpread s.seed columns partials (size_of s) y.sent_by y.got_by met c.in_ok-met.receipt) c.in_ok-keys.ensures y.ok) in
    met-wide kinds s.seed n listed f.long f.grouped met spread.rows

pub returns-in_err-made-clause-run : goal.returns-in_err-made-clause-run
returns-in_err-made-clause-run g c listed f =
    let a = c.args in
    let s = a.settings.now in
    let n = s.workers in
    let kinds = map kind_of_emit a.kinds.now in
    let totals = g.T.Tap.totals in
    let tag = g.T.Tap.tag in
    let before = a.taps.now.items in
    let partials = a.partials.now in
    let formed : AreMadeBy n (λ w. partial_rows kinds (get_or listed w [])) partials = f.made in
    let middle = c.spread_by_key.new.taps.items in
    let x = c.spread_by_key.ensures in
    let fair = told-fair totals tag n x.sent_by x.got_by nothing before middle x.even x.told in
    let y = c.in_ok-met.ensures in
    let met = c.in_ok-met.met in
    let home : Row → ℕ = partial_home kinds s.seed n listed f.long f.grouped in
    let spread =
    spread-as s.seed (partial_keys kinds) home (map (partial_rows kinds) listed) partials (size_of s) y.sent_by y.got_by met c.in_ok-met.receipt
    (partials-same kinds s.seed n listed f.long f.grouped partials formed) (partials-home kinds s.seed n listed f.long f.grouped partials formed)
    (subst (λ (columns : List ℕ). IsSpread s.seed columns partials (size_of s) y.sent_by y.got_by met c.in_ok-met.receipt) c.in_ok-keys.ensures y.ok) in
    let fits : list_all (merged_fits kinds) met ≡ sums_fit kinds (together listed) =
    fits-all kinds s.seed n listed f.long f.grouped met spread.rows s.workers_in_range.0 f.few in
    let wrong = c.in_err-made.field-0.0 in
    let answer : c.from_residual-in_err-made.result ≡ Err wrong = search rules in
    run-faulty s a.statement (group_parts s kinds listed) (group_exchanges s kinds listed) totals tag (IsGroupFault kinds listed) before middle
    c.from_residual-in_err-made.result wrong answer fair (subst (Overflows wrong) fits c.in_err-made.ensures.fault)

pub returns-in_err-receipts-clause-run : goal.returns-in_err-receipts-clause-run
returns-in_err-receipts-clause-run g c listed f =
    let a = c.args in
    let s = a.settings.now in
    let n = s.workers in
    let kinds = map kind_of_emit a.kinds.now in
    let totals = g.T.Tap.totals in
    let tag = g.T.Tap.tag in
    let before = a.taps.now.items in
    let middle = c.spread_by_key.new.taps.items in
    let x = c.spread_by_key.ensures in
    let fair = told-fair totals tag n x.sent_by x.got_by nothing before middle x.even x.told in
    let p = err_from_is_err_and c.from_residual-in_err-receipts.result c.from_residual-in_err-receipts.ensures.1 in
    run-faulty s a.statement (group_parts s kinds listed) (group_exchanges s kinds listed) totals tag (IsGroupFault kinds listed) before middle
    c.from_residual-in_err-receipts.result fault.Memory (p.1 ∙ ap Err p.2) fair tt

pub conclude-requires-clause-unlisted : goal.conclude-requires-clause-unlisted
conclude-requires-clause-unlisted g c =
    let a = c.args in
    let s = a.settings.now in
    let n = s.workers in
    let kinds = map kind_of_emit a.kinds.now in
    let listed = c.requires.formed.0 in
    let f = c.requires.formed.1 in
    let totals = g.T.Tap.totals in
    let tag = g.T.Tap.tag in
    let before = a.taps.now.items in
    let middle = c.spread_by_key.new.taps.items in
    let x = c.spread_by_key.ensures in
    let low : All (λ t. IsLow (totals t)) before =
    subst (All (λ t. IsLow (totals t))) c.as_slice.ensures.value (c.have_room.ensures.unlisted (search rules)) in
    told-low totals tag n x.sent_by x.got_by before middle x.told low

pub conclude-requires-clause-risen : goal.conclude-requires-clause-risen
conclude-requires-clause-risen g c =
    let a = c.args in
    let s = a.settings.now in
    let n = s.workers in
    let kinds = map kind_of_emit a.kinds.now in
    let listed = c.requires.formed.0 in
    let f = c.requires.formed.1 in
    let totals = g.T.Tap.totals in
    let tag = g.T.Tap.tag in
    let before = a.taps.now.items in
    let middle = c.spread_by_key.new.taps.items in
    let x = c.spread_by_key.ensures in
    let read = subst (λ (taps : List _). AreSeconds totals n taps c.in_ok-since.since.items) c.as_slice-2.ensures.value c.in_ok-since.ensures in
    subst (λ (since : List _). HaveRisen totals since middle) (sym c.deref.ensures.value)
    (risen-told totals tag n x.sent_by x.got_by nothing before middle c.in_ok-since.since.items read x.told)

pub returns-in_err-moved-clause-run : goal.returns-in_err-moved-clause-run
returns-in_err-moved-clause-run g c listed f =
    let a = c.args in
    let s = a.settings.now in
    let n = s.workers in
    let kinds = map kind_of_emit a.kinds.now in
    let totals = g.T.Tap.totals in
    let tag = g.T.Tap.tag in
    let before = a.taps.now.items in
    let middle = c.spread_by_key.new.taps.items in
    let x = c.spread_by_key.ensures in
    let fair = told-fair totals tag n x.sent_by x.got_by nothing before middle x.even x.told in
    let after = c.conclude.new.taps.items in
    let p = err_from_is_err_and c.from_residual-in_err-moved.result c.from_residual-in_err-moved.ensures.1 in
    run-faulty s a.statement (group_parts s kinds listed) (group_exchanges s kinds listed) totals tag (IsGroupFault kinds listed) before after
    c.from_residual-in_err-moved.result fault.Memory (p.1 ∙ ap Err p.2)
    (fair-both totals tag before middle after fair (listed-fair totals tag (length c.in_ok-made.made) (count_at c.in_ok-made.made) middle after c.conclude.ensures.listed)) tt

pub returns-clause-fits : goal.returns-clause-fits
returns-clause-fits g c listed f =
    let a = c.args in
    let s = a.settings.now in
    let n = s.workers in
    let kinds = map kind_of_emit a.kinds.now in
    let totals = g.T.Tap.totals in
    let tag = g.T.Tap.tag in
    let before = a.taps.now.items in
    let partials = a.partials.now in
    let formed : AreMadeBy n (λ w. partial_rows kinds (get_or listed w [])) partials = f.made in
    let y = c.in_ok-met.ensures in
    let met = c.in_ok-met.met in
    let home : Row → ℕ = partial_home kinds s.seed n listed f.long f.grouped in
    let spread =
    spread-as s.seed (partial_keys kinds) home (map (partial_rows kinds) listed) partials (size_of s) y.sent_by y.got_by met c.in_ok-met.receipt
    (partials-same kinds s.seed n listed f.long f.grouped partials formed) (partials-home kinds s.seed n listed f.long f.grouped partials formed)
    (subst (λ (columns : List ℕ). IsSpread s.seed columns partials (size_of s) y.sent_by y.got_by met c.in_ok-met.receipt) c.in_ok-keys.ensures y.ok) in
    let fits : list_all (merged_fits kinds) met ≡ sums_fit kinds (together listed) =
    fits-all kinds s.seed n listed f.long f.grouped met spread.rows s.workers_in_range.0 f.few in
    sym fits ∙ c.in_ok-made.ensures.fits

pub returns-clause-run : goal.returns-clause-run
returns-clause-run g c listed f =
    let a = c.args in
    let s = a.settings.now in
    let n = s.workers in
    let kinds = map kind_of_emit a.kinds.now in
    let totals = g.T.Tap.totals in
    let tag = g.T.Tap.tag in
    let before = a.taps.now.items in
    let partials = a.partials.now in
    let formed : AreMadeBy n (λ w. partial_rows kinds (get_or listed w [])) partials = f.made in
    let middle = c.spread_by_key.new.taps.items in
    let room : 2 * n ≤ length before = omega (arith, c.requires.taps, a.taps.now.ok.0) in
    let y = c.in_ok-met.ensures in
    let met = c.in_ok-met.met in
    let home : Row → ℕ = partial_home kinds s.seed n listed f.long f.grouped in
    let spread =
    spread-as s.seed (partial_keys kinds) home (map (partial_rows kinds) listed) partials (size_of s) y.sent_by y.got_by met c.in_ok-met.receipt
    (partials-same kinds s.seed n listed f.long f.grouped partials formed) (partials-home kinds s.seed n listed f.long f.grouped partials formed)
    (subst (λ (columns : List ℕ). IsSpread s.seed columns partials (size_of s) y.sent_by y.got_by met c.in_ok-met.receipt) c.in_ok-keys.ensures y.ok) in
    let after = c.conclude.new.taps.items in
    let since = c.deref.result.now in
    let made = c.in_ok-made.made in
    let read : AreSeconds totals n before since =
    subst (λ (since : List _). AreSeconds totals n before since) (sym c.deref.ensures.value)
    (subst (λ (taps : List _). AreSeconds totals n taps c.in_ok-since.since.items) c.as_slice-2.ensures.value c.in_ok-since.ensures) in
    let own : Row → ℕ = group_home kinds s.seed n listed f.long f.grouped in
    let rows = groups-made kinds s.seed n listed f.long f.grouped met spread.rows made c.in_ok-made.ensures.rows in
    let tables = tables-made n (λ w. filter (λ row. own row == w) (groups kinds (together listed))) made rows in
    let e : PlacedExchange = group_exchange (keyed_placing s) kinds listed (group_parts s kinds listed) in
    let shown =
    subst (AreShown (size_of s) (e.moves ∷ [])) (sym c.in_ok-receipts.ensures) (a_receipt e.moves c.in_ok-met.receipt [] [] spread.shows no_receipt) in
    run-made s a.statement (group_parts s kinds listed) (e ∷ []) totals tag (IsGroupFault kinds listed) before after c.in_ok-moved.moved
    (fair-both totals tag before middle after (told-fair totals tag n y.sent_by y.got_by nothing before middle y.even y.told) (listed-fair totals tag (length made) (count_at made) middle after c.conclude.ensures.listed))
    (concluded-ok s a.statement (group_parts s kinds listed) e totals tag before middle after y.sent_by y.got_by since made
    c.in_ok-receipts.receipts room read y.told spread.sent_are spread.got_are refl rows.count tables shown c.conclude.ensures.listed c.in_ok-moved.moved c.in_ok-moved.ensures.ok)
    (moved-once s a.statement (group_parts s kinds listed) e totals tag before middle after y.sent_by y.got_by since made
    c.in_ok-receipts.receipts room read y.told spread.sent_are spread.got_are refl rows.count tables shown c.conclude.ensures.listed)
