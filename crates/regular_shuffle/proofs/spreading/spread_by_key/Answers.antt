use Rattle.std.proofs.Common.{Err, ap, subst, refl, rules}
use Rattle.row_exchange.specs.Exchanges.{IsExchange}
use Rattle.row_exchange.proofs.AssemblyLemmas.{nothing-done}
use Rattle.row_exchange.specs.declared.routes.Size.{Size}
use Rattle.placement.specs.Runs.{size_of}
use Rattle.regular_shuffle.specs.KeySpreads.{moves_by_key}
use Rattle.regular_shuffle.proofs.SpreadLemmas.{is-routed, routed-by, exchange-by, one-atom, refused, is-spread}
use Rattle.regular_shuffle.proofs.spreading.spread_by_key.Goals as goal

pub returns-in_err-atoms : goal.returns-in_err-atoms
returns-in_err-atoms g c =
    let a = c.args in
    let moves = moves_by_key a.settings.now.seed a.settings.now.workers a.columns.now a.parts.now in
    refused a.settings.now.seed a.columns.now a.parts.now (size_of a.settings.now) c.requires.parts g.T.Tap.totals g.T.Tap.tag a.taps.now.items a.taps.now.items (Err c.in_err-atoms.field-0.0)
    c.from_residual.result (nothing-done moves 1 (size_of a.settings.now) g.T.Tap.totals g.T.Tap.tag a.taps.now.items (Err c.in_err-atoms.field-0.0) refl) (search rules)

pub exchange-requires-clause-routed : goal.exchange-requires-clause-routed
exchange-requires-clause-routed g c κs within =
    let a = c.args in
    let e = c.new-route.ensures in
    routed-by a.settings.now.seed c.new-route.result.seed a.settings.now.workers c.new-route.result.workers a.columns.now c.new-route.result.first.now c.new-route.result.others.now a.parts.now
    c.in_ok-atoms.atoms e.seed e.workers e.first e.others c.in_ok-atoms.ensures a.settings.now.workers c.size_of-size.result.workers
    (ap (λ (size : Size). size.workers) c.size_of-size.ensures)
    (is-routed a.settings.now.seed a.settings.now.workers a.columns.now a.parts.now c.requires.parts (a.settings.now.workers_in_range.0) c.requires.columns)

pub returns-in_err-given : goal.returns-in_err-given
returns-in_err-given g c =
    let a = c.args in
    let e = c.new-route.ensures in
    let x = exchange-by a.settings.now.seed c.new-route.result.seed a.settings.now.workers c.new-route.result.workers a.columns.now c.new-route.result.first.now c.new-route.result.others.now a.parts.now
    c.in_ok-atoms.atoms e.seed e.workers e.first e.others c.in_ok-atoms.ensures (size_of a.settings.now) c.size_of-size.result c.size_of-size.ensures g.T.Tap.totals g.T.Tap.tag a.taps.now.items c.exchange.new.taps.items c.exchange.result c.exchange.ensures in
    refused a.settings.now.seed a.columns.now a.parts.now (size_of a.settings.now) c.requires.parts g.T.Tap.totals g.T.Tap.tag a.taps.now.items c.exchange.new.taps.items c.exchange.result
    c.from_residual-in_err-given.result x (search rules)

pub given_of_only-requires : goal.given_of_only-requires
given_of_only-requires g c =
    let a = c.args in
    let e = c.new-route.ensures in
    let moves = moves_by_key a.settings.now.seed a.settings.now.workers a.columns.now a.parts.now in
    let x = subst (λ r. IsExchange moves 1 (size_of a.settings.now) g.T.Tap.totals g.T.Tap.tag a.taps.now.items c.exchange.new.taps.items r) c.in_ok-given.was
    (exchange-by a.settings.now.seed c.new-route.result.seed a.settings.now.workers c.new-route.result.workers a.columns.now c.new-route.result.first.now c.new-route.result.others.now a.parts.now
    c.in_ok-atoms.atoms e.seed e.workers e.first e.others c.in_ok-atoms.ensures (size_of a.settings.now) c.size_of-size.result c.size_of-size.ensures g.T.Tap.totals g.T.Tap.tag a.taps.now.items c.exchange.new.taps.items c.exchange.result c.exchange.ensures) in
    one-atom moves a.settings.now.workers c.in_ok-given.field-0.given x.ok.given

pub returns-in_err-made : goal.returns-in_err-made
returns-in_err-made g c =
    let a = c.args in
    let e = c.new-route.ensures in
    let x = exchange-by a.settings.now.seed c.new-route.result.seed a.settings.now.workers c.new-route.result.workers a.columns.now c.new-route.result.first.now c.new-route.result.others.now a.parts.now
    c.in_ok-atoms.atoms e.seed e.workers e.first e.others c.in_ok-atoms.ensures (size_of a.settings.now) c.size_of-size.result c.size_of-size.ensures g.T.Tap.totals g.T.Tap.tag a.taps.now.items c.exchange.new.taps.items c.exchange.result c.exchange.ensures in
    refused a.settings.now.seed a.columns.now a.parts.now (size_of a.settings.now) c.requires.parts g.T.Tap.totals g.T.Tap.tag a.taps.now.items c.exchange.new.taps.items c.exchange.result
    c.from_residual-in_err-made.result x (search rules)

pub returns : goal.returns
returns g c =
    let a = c.args in
    let e = c.new-route.ensures in
    let moves = moves_by_key a.settings.now.seed a.settings.now.workers a.columns.now a.parts.now in
    let x = subst (λ r. IsExchange moves 1 (size_of a.settings.now) g.T.Tap.totals g.T.Tap.tag a.taps.now.items c.exchange.new.taps.items r) c.in_ok-given.was
    (exchange-by a.settings.now.seed c.new-route.result.seed a.settings.now.workers c.new-route.result.workers a.columns.now c.new-route.result.first.now c.new-route.result.others.now a.parts.now
    c.in_ok-atoms.atoms e.seed e.workers e.first e.others c.in_ok-atoms.ensures (size_of a.settings.now) c.size_of-size.result c.size_of-size.ensures g.T.Tap.totals g.T.Tap.tag a.taps.now.items c.exchange.new.taps.items c.exchange.result c.exchange.ensures) in
    is-spread a.settings.now.seed a.columns.now a.parts.now (size_of a.settings.now) c.requires.parts g.T.Tap.totals g.T.Tap.tag a.taps.now.items c.exchange.new.taps.items
    c.in_ok-given.field-0 c.in_ok-made.made x c.in_ok-made.ensures
