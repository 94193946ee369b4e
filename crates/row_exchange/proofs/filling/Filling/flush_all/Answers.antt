use Rattle.std.proofs.Common.{◌≡◌, ◌∙◌, ℕ, [], length, map, arith, ap}
use Rattle.std.proofs.lemmas.List.{get_or_default, length-map}
use Rattle.std.specs.Prelude.{Vec}
use Rattle.std.specs.declared.alloc.Global.{Global}
use Rattle.row_exchange.specs.inner.Shipments.{FillingState, no_more}
use Rattle.row_exchange.proofs.FillingLemmas.{Gathers-nothing, Gathers-then, rest-empty}
use Rattle.row_exchange.proofs.filling.Filling.flush_all.Goals as goal

-- as many cells as lists
cells : (s : FillingState) (pending : Vec (Vec ℕ Global) Global) (n : ℕ) → n ≡ pending.len → map (λ (v : Vec ℕ Global). v.items) pending.items ≡ s.pending → length s.pending ≡ n
cells s pending n e is = omega (arith, ap length is, length-map pending.items (λ (v : Vec ℕ Global). v.items), pending.ok.0, e)

-- no cell lies before the first
pub loop-cell-init : goal.loop-cell-init
loop-cell-init c = (Gathers-nothing c.args.self.now, λ k below. absurd (omega (arith, below)))

pub loop-cell-preserved : goal.loop-cell-preserved
loop-cell-preserved c =
    let long = cells c.args.self.now c.self.inside.pending c.len-cell-end.result c.len-cell-end.ensures (ap (λ (s : FillingState). s.pending) c.self.view_is) in
    let inv = c.loop-cell.invariant in (
      Gathers-then no_more no_more 0 0 c.args.self.now c.loop-cell.self c.flush_rest.new.self inv.0 c.in_ok-flush_rest.ensures.gathers,
      rest-empty c.loop-cell.self c.flush_rest.new.self c.loop-cell.cell (omega (arith, c.loop-cell-test.true, long, inv.0.same_work.cells)) c.in_ok-flush_rest.ensures.pending inv.1,
    )

pub returns-clause-pending : goal.returns-clause-pending
returns-clause-pending c k d below =
    let long = cells c.args.self.now c.self.inside.pending c.len-cell-end.result c.len-cell-end.ensures (ap (λ (s : FillingState). s.pending) c.self.view_is) in
    let inv = c.loop-cell.invariant in
    get_or_default c.loop-cell.self.pending k d [] below ∙ inv.1 k (omega (arith, c.loop-cell-test.false, below, long, inv.0.same_work.cells))
