use Rattle.std.proofs.Common.{◌≡◌, ◌<◌, [], List, ℕ, Vec, length, set, sym, subst, arith}
use Rattle.std.proofs.lemmas.Grind.{common_steps}
use Rattle.std.specs.declared.alloc.Global.{Global}
use Rattle.std.proofs.lemmas.List.{length-map}
use Rattle.row_exchange.specs.inner.Shipments.{FillingState}
use Rattle.row_exchange.proofs.FillingLemmas.{empty-set, nil-from_vec_len}
use Rattle.row_exchange.proofs.filling.Filling.flush_rest.Goals as goal

pub returns-then-is_empty-clause-pending : goal.returns-then-is_empty-clause-pending
returns-then-is_empty-clause-pending c =
    let items : Vec ℕ Global → List ℕ = λ v. v.items in
    subst (λ (s : FillingState). s.pending ≡ set s.pending c.args.cell []) c.self.view_is
    (empty-set c.self.inside.pending.items c.args.cell c.index.result.now
    (subst (λ (n : ℕ). c.args.cell < n) (length-map c.self.inside.pending.items items) (subst (λ (s : FillingState). c.args.cell < length s.pending) (sym c.self.view_is) c.requires))
    c.index.ensures (nil-from_vec_len c.index.result.now c.is_empty.result c.if-is_empty.true c.is_empty.ensures))

pub flush-requires-clause-some : goal.flush-requires-clause-some
flush-requires-clause-some c = grind (arith, common_steps)
