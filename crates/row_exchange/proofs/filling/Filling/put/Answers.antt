use Rattle.std.proofs.Common.{◌≡◌, ◌<◌, ◌∷◌, [], List, ℕ, Vec, length, set, sym, subst}
use Rattle.std.specs.declared.alloc.Global.{Global}
use Rattle.std.proofs.lemmas.List.{length-map}
use Rattle.row_exchange.specs.inner.Pairs.{times_to}
use Rattle.row_exchange.specs.inner.Shipments.{FillingState, IsFilling, Gathers, no_more, pending_for, row_at}
use Rattle.row_exchange.proofs.FillingLemmas.{put_in, put_in-keeps, put_in-state, refused-state, state_of, put_then}
use Rattle.row_exchange.proofs.filling.Filling.put.Goals as goal

abbrev before : (c : goal.In_ok-push) → FillingState
before c = state_of c.self.inside.atom c.self.inside.atoms c.self.inside.rows.now c.self.inside.batch c.self.inside.pending.items c.self.inside.filled.items

below : (c : goal.In_ok-push) → c.args.cell < length (before c).pending
below c = subst (λ (s : FillingState). c.args.cell < length s.pending) (sym c.self.view_is) (subst (λ (n : ℕ). c.args.cell < n) (sym c.in_ok-make_room.ensures.gathers.same_work.cells) c.requires.inside)

row : (c : goal.In_ok-push) → c.args.number < length (before c).rows
row c = subst (λ (s : FillingState). c.args.number < length s.rows) (sym c.self.view_is)
    (subst (λ (n : List (List _)). c.args.number < length n) (sym c.in_ok-make_room.ensures.gathers.same_work.rows) c.requires.row)

after : (c : goal.In_ok-push)
    → state_of c.self.inside.atom c.self.inside.atoms c.self.inside.rows.now c.self.inside.batch (set c.self.inside.pending.items c.args.cell c.push.new.self) c.self.inside.filled.items
    ≡ put_in (before c) c.args.cell c.args.number
after c =
    let items : Vec ℕ Global → List ℕ = λ places. places.items in
    put_in-state c.self.inside.atom c.self.inside.atoms c.self.inside.batch c.args.cell c.args.number c.self.inside.rows.now c.self.inside.pending.items c.self.inside.filled.items
    c.index_mut.result.now c.push.new.self
    (subst (λ (n : ℕ). c.args.cell < n) (length-map c.self.inside.pending.items items) (below c))
    c.index_mut.ensures.value c.in_ok-push.ensures.items

pub invariant_of-self : goal.invariant_of-self
invariant_of-self c =
    subst IsFilling
    (sym (refused-state c.self.inside.atom c.self.inside.atoms c.self.inside.batch c.args.cell c.self.inside.rows.now c.self.inside.pending.items c.self.inside.filled.items
    c.index_mut.result.now c.push.new.self c.index_mut.ensures.value c.in_err-push.ensures.items))
    c.self.invariant

pub invariant_of-self-2 : goal.invariant_of-self-2
invariant_of-self-2 c =
    subst IsFilling (sym (after c))
    (put_in-keeps (before c) c.args.cell c.args.number c.self.invariant (below c) (row c)
    (subst (λ (s : FillingState). length (pending_for s c.args.cell) < s.batch) (sym c.self.view_is) c.in_ok-make_room.ensures.room))

pub returns : goal.returns
returns c =
    subst (λ (t : FillingState). Gathers (λ w. times_to w (c.args.cell ∷ []) (row_at c.args.self.now c.args.number)) 1 c.args.self.now t) (sym (after c))
    (put_then c.args.self.now (before c) c.args.cell c.args.number (subst (λ (s : FillingState). Gathers no_more 0 c.args.self.now s) (sym c.self.view_is) c.in_ok-make_room.ensures.gathers)
    (below c) (row c))
