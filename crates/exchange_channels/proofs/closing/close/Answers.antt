use Rattle.std.proofs.Common.{◌≡◌, ◌∙◌, List, [], All, length, map, get_or, sym, ap, subst}
use Rattle.std.proofs.lemmas.List.{with_items_is, length-map}
use Rattle.exchange_channels.specs.Messages.{batches_of}
use Rattle.exchange_channels.specs.declared.rule.View.{View}
use Rattle.exchange_channels.specs.Ports.{Place, PortState}
use Rattle.exchange_channels.specs.Wirings.{WiringState, IsAtItsCell, cells_of}
use Rattle.exchange_channels.specs.inner.Outlets.{places_of}
use Rattle.exchange_channels.proofs.ClosingLemmas.{ends_count, ends_of_wiring, ends_in_order}
use Rattle.exchange_channels.proofs.DeliveryLemmas.{receipt-from_keepers}
use Rattle.exchange_channels.proofs.PortLemmas.{map-map}
use Rattle.exchange_channels.proofs.closing.close.Goals as goal

pub take_ends_back-requires : goal.take_ends_back-requires
take_ends_back-requires c =
    let places : c.args.keep.places ≡ places_of c.as_mut_slice.result.now =
    sym (ap (λ (w : WiringState). w.places) c.keep.view_is) ∙ sym (ap places_of c.as_mut_slice.ensures.value) in
    record {
      none = subst (All (λ (p : PortState). p.knows.returned ≡ [])) (sym c.as_mut_slice.ensures.value)
          (λ k d below. ap (λ (v : View). v.returned) (c.keep.invariant.0 k d below));
      senders = subst (All (λ (p : PortState). p.knows.senders ≡ length c.args.outs.items)) (sym c.as_mut_slice.ensures.value)
          (λ k d below. ap (λ (v : View). v.senders) (c.keep.invariant.0 k d below) ∙ ap (λ (w : WiringState). w.senders) c.keep.view_is ∙ sym c.requires.outs.count);
      outs_places = λ k d below. ap (λ (w : WiringState). w.places) (c.requires.outs.of_wiring k d below) ∙ places;
      outs_in_order = c.requires.outs.in_order;
      ins_count = ends_count c.args.keep c.args.ins.items c.requires.ins ∙ ap length places ∙ length-map c.as_mut_slice.result.now (λ (p : PortState). p.place);
      ins_places = λ k d below. subst (λ (places : List Place). IsAtItsCell places (get_or c.args.ins.items k d)) places (ends_of_wiring c.args.keep c.args.ins.items c.requires.ins k d below).at_its_cell;
      ins_senders = λ k d below. (ends_of_wiring c.args.keep c.args.ins.items c.requires.ins k d below).same_senders ∙ sym c.requires.outs.count;
      ins_in_order = ends_in_order c.args.keep c.args.ins.items c.requires.ins;
    }

pub returns-clause-receipt : goal.returns-clause-receipt
returns-clause-receipt c =
    let cells = c.take_ends_back.new.cells in
    let same : length cells ≡ length c.keep.inside.cells.items = c.take_ends_back.auto.cells ∙ ap length c.as_mut_slice.ensures.value in
    let count : length cells ≡ cells_of c.args.keep =
    same ∙ sym (length-map c.keep.inside.cells.items (λ (p : PortState). p.place)) ∙ ap (λ (w : WiringState). cells_of w) c.keep.view_is in
    let knows : c.passes_of.result.items ≡ map (λ (p : PortState). p.knows) cells =
    c.passes_of.ensures ∙ ap (map (λ (p : PortState). p.knows)) (with_items_is c.keep.inside.cells cells (same ∙ sym c.keep.inside.cells.ok.0)) in
    λ i. record {
      capacity = ap (λ (w : WiringState). w.capacity) c.keep.view_is i;
      batches = (ap (map (λ (v : View). map batches_of v.returned)) knows ∙ map-map (λ (p : PortState). p.knows) (λ (v : View). map batches_of v.returned) cells
          ∙ receipt-from_keepers c.args.keep cells c.args.outs.items count c.take_ends_back.ensures.returned) i;
    }
