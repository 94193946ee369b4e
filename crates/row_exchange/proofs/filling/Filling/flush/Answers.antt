use Rattle.std.proofs.Common.{◌≡◌, ◌<◌, [], List, ℕ, Vec, length, set, sym, ap, ◌∙◌, subst}
use Rattle.std.specs.declared.alloc.Global.{Global}
use Rattle.std.proofs.lemmas.List.{length-map}
use Rattle.rel_base.specs.Picks.{items_at}
use Rattle.row_exchange.specs.inner.Shipments.{FillingState, IsFilling, Gathers, no_more, pending_for}
use Rattle.row_exchange.proofs.FillingLemmas.{flushed, flushed-keeps, flushed-gathers, flushed-state, state_of}
use Rattle.row_exchange.proofs.filling.Filling.flush.Goals as goal

abbrev before : (c : goal.After-self-1) → FillingState
before c = state_of c.self.inside.atom c.self.inside.atoms c.self.inside.rows.now c.self.inside.batch c.self.inside.pending.items c.self.inside.filled.items

below : (c : goal.After-self-1) → c.args.cell < length (before c).pending
below c = subst (λ (s : FillingState). c.args.cell < length s.pending) (sym c.self.view_is) c.requires.inside

after : (c : goal.After-self-1)
    → state_of c.self.inside.atom c.self.inside.atoms c.self.inside.rows.now c.self.inside.batch (set c.self.inside.pending.items c.args.cell c.clear.new.self) c.push.new.self.items
    ≡ flushed (before c) c.args.cell
after c =
    let items : Vec ℕ Global → List ℕ = λ places. places.items in
    flushed-state c.self.inside.atom c.self.inside.atoms c.self.inside.batch c.args.cell c.self.inside.rows.now c.in_ok-rows.rows c.self.inside.pending.items c.self.inside.filled.items
    c.push.new.self.items c.index-places.result.now c.clear.new.self
    (subst (λ (n : ℕ). c.args.cell < n) (length-map c.self.inside.pending.items items) (below c))
    c.index-places.ensures (c.in_ok-rows.ensures ∙ ap (λ l. items_at c.self.inside.rows.now l) c.as_slice.ensures.value) c.clear.ensures.items c.in_ok-push.ensures.items

pub invariant_of-self-2 : goal.invariant_of-self-2
invariant_of-self-2 c =
    subst IsFilling (sym (after c)) (flushed-keeps (before c) c.args.cell c.self.invariant (below c) (subst (λ (s : FillingState). 0 < length (pending_for s c.args.cell)) (sym c.self.view_is) c.requires.some))

pub returns-clause-gathers : goal.returns-clause-gathers
returns-clause-gathers c =
    subst (λ (s : FillingState). Gathers no_more 0 s (state_of c.self.inside.atom c.self.inside.atoms c.self.inside.rows.now c.self.inside.batch
    (set c.self.inside.pending.items c.args.cell c.clear.new.self) c.push.new.self.items)) c.self.view_is
    (subst (λ (t : FillingState). Gathers no_more 0 (before c) t) (sym (after c)) (flushed-gathers (before c) c.args.cell c.self.invariant (below c)))

pub returns-clause-pending : goal.returns-clause-pending
returns-clause-pending c =
    ap (λ (s : FillingState). s.pending) (after c) ∙ ap (λ (s : FillingState). set s.pending c.args.cell []) c.self.view_is
