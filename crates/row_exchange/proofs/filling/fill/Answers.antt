use Rattle.std.proofs.Common.{◌≡◌, ◌<◌, ℕ, List, subst, sym, arith, length}
use Rattle.row_exchange.specs.Routes.{Rows, AreRouted, rows_at}
use Rattle.row_exchange.specs.inner.Shipments.{AddsAtom}
use Rattle.row_exchange.proofs.FillingLemmas.{rows-at, one-atom-more, all-atoms}
use Rattle.row_exchange.proofs.filling.fill.Goals as goal
use Rattle.row_exchange.proofs.filling.fill.Given as given

here : (g : given.Over) (c : goal.After-get-rows g) → c.get-rows.result.now ≡ rows_at c.args.parts.now c.loop-atom.atom c.args.worker
here g c =
    let below : c.loop-atom.atom < length c.args.parts.now = omega (arith, c.loop-atom-test.true, c.len-atoms.ensures) in
    let each = c.requires.routed.each_worker c.loop-atom.atom c.get.result.now below in
    rows-at c.args.parts.now c.loop-atom.atom c.args.worker c.get.result.now c.get-rows.result.now below
    (subst (λ (l : List Rows). c.args.worker < length l) (sym c.get.ensures) (omega (arith, each, c.requires.worker))) c.get.ensures c.get-rows.ensures

pub fill_atom-requires-clause-routed : goal.fill_atom-requires-clause-routed
fill_atom-requires-clause-routed g c =
    subst (AreRouted (g.W.Route.accepts c.args.route.now c.loop-atom.atom) (g.W.Route.cells c.args.route.now c.loop-atom.atom) c.args.size.workers) (sym (here g c))
    (c.requires.routed.known c.loop-atom.atom c.args.worker (omega (arith, c.loop-atom-test.true, c.len-atoms.ensures)) c.requires.worker)

pub loop-atom-preserved : goal.loop-atom-preserved
loop-atom-preserved g c =
    let goes = g.W.Route.cells c.args.route.now in
    let below : c.loop-atom.atom < length c.args.parts.now = omega (arith, c.loop-atom-test.true, c.len-atoms.ensures) in
    let each = c.requires.routed.each_worker c.loop-atom.atom c.get.result.now below in
    let at = rows-at c.args.parts.now c.loop-atom.atom c.args.worker c.get.result.now c.get-rows.result.now below
    (subst (λ (l : List Rows). c.args.worker < length l) (sym c.get.ensures) (omega (arith, each, c.requires.worker))) c.get.ensures c.get-rows.ensures in
    one-atom-more goes c.args.parts.now c.args.size.workers c.args.size.batch c.args.worker c.loop-atom.atom c.loop-atom.filled.items c.in_ok-filled.filled.items c.loop-atom.invariant
    (subst (λ (n : ℕ). AddsAtom (goes c.loop-atom.atom) c.args.size.workers n c.args.size.batch c.loop-atom.atom (rows_at c.args.parts.now c.loop-atom.atom c.args.worker)
    c.loop-atom.filled.items c.in_ok-filled.filled.items) c.len-atoms.ensures
    (subst (λ (rows : Rows). AddsAtom (goes c.loop-atom.atom) c.args.size.workers c.len-atoms.result c.args.size.batch c.loop-atom.atom rows c.loop-atom.filled.items c.in_ok-filled.filled.items) at
    c.in_ok-filled.ensures))

pub returns : goal.returns
returns g c =
    all-atoms (g.W.Route.cells c.args.route.now) c.args.parts.now c.args.size.workers c.args.size.batch c.args.worker c.loop-atom.atom c.loop-atom.filled.items
    (omega (arith, c.loop-atom-test.false, c.loop-atom.auto.atom-end, c.len-atoms.ensures)) c.requires.routed.few c.loop-atom.invariant
