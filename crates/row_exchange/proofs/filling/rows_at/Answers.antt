use Rattle.std.proofs.Common.{◌≡◌, ◌∙◌, ◌+◌, ◌-◌, length, List, ap, subst, arith}
use Rattle.std.specs.Prelude.{IfOk, slice_range}
use Rattle.row_exchange.specs.Routes.{Row}
use Rattle.row_exchange.proofs.ViewLemmas.{run_within, run_rows}
use Rattle.row_exchange.proofs.filling.rows_at.Goals as goal

pub returns : goal.returns
returns c =
    let rows = c.args.rows.now in
    let places = c.args.places.now in
    let from = c.in-Some.from in
    let within = run_within rows from places c.in-Some.ensures c.requires.within c.requires.some in
    let last : c.len-2.result - (c.len.result - from - length places) ≡ from + length places =
    omega (arith, c.len.ensures, c.len-2.ensures, within) in
    subst (λ (ys : List Row). IfOk c.slice.result (λ made. made ≡ ys))
    (ap (slice_range rows from) last ∙ run_rows rows from places c.in-Some.ensures c.requires.within c.requires.some)
    c.slice.ensures
