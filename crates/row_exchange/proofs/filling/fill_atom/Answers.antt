use Rattle.std.proofs.Common.{◌≡◌, ◌<◌, ◌∙◌, ◌∷◌, ℕ, [], List, All, length, get_or, take, subst, sym, ap, arith}
use Rattle.std.proofs.lemmas.List.{length-replicate}
use Rattle.row_exchange.specs.inner.Pairs.{rows_to, pairs_of}
use Rattle.row_exchange.specs.inner.Shipments.{FillingState, filling_of, Gathers, no_more}
use Rattle.row_exchange.proofs.FillingLemmas.{next-row, fill-step, Gathers-nothing, Gathers-same, fill-atom, took-all, pairs-few, IfOk-then}
use Rattle.row_exchange.proofs.OneCellLemmas.{same-cells, cell-inside}
use Rattle.row_exchange.proofs.filling.fill_atom.Goals as goal

pub fill_for_one-requires-clause-inside : goal.fill_for_one-requires-clause-inside
fill_for_one-requires-clause-inside g c =
    cell-inside (g.W.Route.accepts c.args.route.now c.args.atom) (g.W.Route.cells c.args.route.now c.args.atom) c.in-Some.cell c.args.size.workers c.args.rows.now
    c.requires.routed c.in-Some.ensures

pub returns-in-Some : goal.returns-in-Some
returns-in-Some g c =
    let goes = g.W.Route.cells c.args.route.now c.args.atom in
    IfOk-then c.fill_for_one.result c.fill_for_one.ensures
    (λ made a. same-cells goes (λ _. c.in-Some.cell ∷ []) c.args.size.workers c.args.atoms c.args.size.batch c.args.atom c.args.rows.now c.args.filled.items made.items
    (λ k d below. c.in-Some.ensures (get_or c.args.rows.now k d) (c.requires.routed.accepted k d below)) a)

pub loop-row-init : goal.loop-row-init
loop-row-init g c =
    let start = filling_of c.args.atom c.args.atoms c.args.rows.now c.args.size.batch c.args.size.workers c.args.filled.items in (
      tt,
      tt,
      sym (c.into_iter-row-iterator.ensures.into_iter_gives ∙ c.iter-row-items.ensures.value),
      subst (λ (s : FillingState). Gathers no_more 0 start s) (sym c.in_ok-filling.ensures) (Gathers-nothing start),
    )

pub put_row-requires-clause-inside : goal.put_row-requires-clause-inside
put_row-requires-clause-inside g c =
    let inv = c.loop-row.invariant in
    let rows = c.args.rows.now in
    let n = next-row rows c.loop-row.number c.in-Some-row.row.now c.next.new.self (inv.2 ∙ c.in-Some-row.ensures.steps) in
    let goes = g.W.Route.cells c.args.route.now c.args.atom in
    let all = subst (All (λ (cell : ℕ). cell < c.args.size.workers)) (ap goes n.1.0 ∙ sym (c.as_slice.ensures.value ∙ c.cells.ensures))
    (c.requires.routed.inside c.loop-row.number [] n.0).inside in
    λ k d below. omega (arith, all k d below, inv.3.same_work.cells, length-replicate {A = List ℕ} c.args.size.workers [])

pub put_row-requires-clause-row : goal.put_row-requires-clause-row
put_row-requires-clause-row g c =
    let inv = c.loop-row.invariant in
    let n = next-row c.args.rows.now c.loop-row.number c.in-Some-row.row.now c.next.new.self (inv.2 ∙ c.in-Some-row.ensures.steps) in
    omega (arith, n.0, ap length inv.3.same_work.rows)

pub overflow_add-number : goal.overflow_add-number
overflow_add-number g c =
    let n = next-row c.args.rows.now c.loop-row.number c.in-Some-row.row.now c.next.new.self (c.loop-row.invariant.2 ∙ c.in-Some-row.ensures.steps) in
    omega (arith, n.0, c.iter-row-items.ensures.bound)

pub loop-row-preserved : goal.loop-row-preserved
loop-row-preserved g c =
    let inv = c.loop-row.invariant in
    let rows = c.args.rows.now in
    let n = next-row rows c.loop-row.number c.in-Some-row.row.now c.next.new.self (inv.2 ∙ c.in-Some-row.ensures.steps) in
    let goes = g.W.Route.cells c.args.route.now c.args.atom in
    let start = filling_of c.args.atom c.args.atoms rows c.args.size.batch c.args.size.workers c.args.filled.items in (
      tt,
      tt,
      n.1.1,
      fill-step goes start c.loop-row.filling c.put_row.new.self c.loop-row.number c.as_slice.result.now n.0
          (c.as_slice.ensures.value ∙ c.cells.ensures ∙ ap goes (sym n.1.0)) inv.3 c.in_ok-put_row.ensures,
    )

pub returns : goal.returns
returns g c =
    let rows = c.args.rows.now in
    let goes = g.W.Route.cells c.args.route.now c.args.atom in
    let start = filling_of c.args.atom c.args.atoms rows c.args.size.batch c.args.size.workers c.args.filled.items in
    let inv = c.loop-row.invariant in
    let left = rw c.in-None.is at c.next.ensures.steps in
    let all : take c.loop-row.number rows ≡ rows = took-all rows c.loop-row.number (inv.2 ∙ left.0) in
    let whole : Gathers (λ w. rows_to goes w rows) (pairs_of goes rows) start c.loop-row.filling =
    Gathers-same (λ w. rows_to goes w (take c.loop-row.number rows)) (λ w. rows_to goes w rows) (pairs_of goes (take c.loop-row.number rows)) (pairs_of goes rows) start c.loop-row.filling inv.3
    (λ w. ap (rows_to goes w) all) (ap (pairs_of goes) all) in
    IfOk-then c.finish.result c.finish.ensures
    (λ made f. fill-atom goes c.args.atom c.args.atoms c.args.size.batch c.args.size.workers rows c.args.filled.items made.items c.loop-row.filling
    (omega (arith, pairs-few goes c.args.size.workers rows c.requires.routed.inside, c.iter-row-items.ensures.bound)) whole f)
