use Rattle.std.proofs.Common.{◌≡◌, ◌∙◌, List, [], length, All, ap, sym, subst, arith}
use Rattle.std.proofs.lemmas.List.{with_items_is}
use Rattle.std.proofs.lemmas.Grind.{common_steps}
use Rattle.exchange_channels.specs.Ports.{PortState}
use Rattle.exchange_channels.specs.inner.Outlets.{places_of}
use Rattle.exchange_channels.proofs.WiringLemmas.{places_of-receivers, receivers_fresh}
use Rattle.exchange_channels.proofs.wiring.wire.Goals as goal

pub make_intakes-requires-clause-places : goal.make_intakes-requires-clause-places
make_intakes-requires-clause-places c =
    let keepers = c.in_ok-keepers.keepers in
    let long : length c.make_outlets.new.cells ≡ c.in_ok-keepers.keepers.len =
    c.make_outlets.auto.cells ∙ ap length c.as_mut_slice.ensures.value ∙ sym c.in_ok-keepers.keepers.ok.0 in
    ap places_of (with_items_is keepers c.make_outlets.new.cells long) ∙ c.in_ok-outlets.ensures.places ∙ ap places_of c.as_mut_slice.ensures.value
    ∙ sym (places_of-receivers c.in_ok-keepers.keepers.items) ∙ ap places_of (sym c.in_ok-keepers.ensures.receivers)

pub make_intakes-requires-clause-fresh : goal.make_intakes-requires-clause-fresh
make_intakes-requires-clause-fresh c =
    subst (λ (ports : List PortState). All (λ (p : PortState). p.knows.got ≡ []) ports) (sym c.in_ok-keepers.ensures.receivers) (receivers_fresh c.in_ok-keepers.keepers.items)

pub make_outlets-requires-clause-cells : goal.make_outlets-requires-clause-cells
make_outlets-requires-clause-cells c = grind (arith, common_steps)

pub invariant_of-keep : goal.invariant_of-keep
invariant_of-keep c = grind (arith, common_steps)

pub make_intakes-requires-clause-count : goal.make_intakes-requires-clause-count
make_intakes-requires-clause-count c = grind (arith, common_steps)

pub returns : goal.returns
returns c = grind (arith, common_steps)
