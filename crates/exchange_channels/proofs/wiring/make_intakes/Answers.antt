use Rattle.std.proofs.Common.{◌≡◌, ◌∙◌, ◌<◌, [], List, ℕ, ◌+◌, Some, All, length, get_or, ap, sym, subst, arith, rules}
use Rattle.std.specs.Prelude.{slice_get}
use Rattle.std.proofs.lemmas.List.{length_push}
use Rattle.std.proofs.lemmas.List.Elements.{All-push}
use Rattle.std.proofs.lemmas.Iterator.Consumers.{YieldsList-turn}
use Rattle.std.proofs.lemmas.Iterator.Adapters.{YieldsList-from_vec}
use Rattle.exchange_channels.specs.Ports.{Place, PortState}
use Rattle.exchange_channels.specs.Wirings.{IntakeState, WiringState, IsIntakeOf}
use Rattle.exchange_channels.proofs.WiringLemmas.{slice_get-map, in_order_more}
use Rattle.exchange_channels.proofs.wiring.make_intakes.Goals as goal

pub make_intake-requires : goal.make_intake-requires
make_intake-requires c =
    let t = YieldsList-turn (YieldsList-from_vec c.args.receivers.items (search rules) (search rules)) c.loop-port.yielded c.loop-port.port-iterator c.loop-port.yielded_by c.next.result c.next.new.self c.in-Some.port c.in-Some.is c.next.ensures.steps in
    ap (λ (p : PortState). p.knows.got) t.1 ∙ c.requires.fresh (length c.loop-port.yielded) c.in-Some.port t.0

pub push-requires : goal.push-requires
push-requires c =
    let t = YieldsList-turn (YieldsList-from_vec c.args.receivers.items (search rules) (search rules)) c.loop-port.yielded c.loop-port.port-iterator c.loop-port.yielded_by c.next.result c.next.new.self c.in-Some.port c.in-Some.is c.next.ensures.steps in
    omega (arith, t.0)

pub loop-port-preserved : goal.loop-port-preserved
loop-port-preserved c =
    let t = YieldsList-turn (YieldsList-from_vec c.args.receivers.items (search rules) (search rules)) c.loop-port.yielded c.loop-port.port-iterator c.loop-port.yielded_by c.next.result c.next.new.self c.in-Some.port c.in-Some.is c.next.ensures.steps in
    let intake = c.in_ok-intake.intake in
    let number : intake.cell ≡ length c.loop-port.intakes = ap (λ (i : IntakeState). i.cell) c.in_ok-intake.ensures ∙ c.len.ensures in
    let of_wiring : IsIntakeOf c.args.keep.now intake = record {
      at_its_cell = ap (λ (n : ℕ). slice_get c.args.keep.now.places n) (number ∙ c.loop-port.invariant.count) ∙ ap (λ (places : List Place). slice_get places (length c.loop-port.yielded)) c.requires.places
          ∙ slice_get-map (λ (p : PortState). p.place) c.args.receivers.items (length c.loop-port.yielded) c.in-Some.port t.0
          ∙ ap (λ (p : PortState). Some p.place) (sym t.1) ∙ ap (λ (i : IntakeState). Some i.place) (sym c.in_ok-intake.ensures);
      same_senders = ap (λ (i : IntakeState). i.senders) c.in_ok-intake.ensures ∙ ap (λ (w : WiringState). w.senders) c.keep.view_is;
    } in
    let fresh : intake.got ≡ [] = ap (λ (i : IntakeState). i.got) c.in_ok-intake.ensures in
    let more = sym c.in_ok-push.ensures.ok in
    record {
      count = ap length c.in_ok-push.ensures.ok ∙ length_push c.loop-port.intakes intake ∙ ap (λ (n : ℕ). n + 1) c.loop-port.invariant.count ∙ sym (length_push c.loop-port.yielded c.in-Some.port);
      of_wiring = subst (All (IsIntakeOf c.args.keep.now)) more (All-push (IsIntakeOf c.args.keep.now) c.loop-port.intakes intake c.loop-port.invariant.of_wiring of_wiring);
      in_order = subst (λ (l : List IntakeState). (k : ℕ) (d : IntakeState) → k < length l → (get_or l k d).cell ≡ k) more (in_order_more c.loop-port.intakes intake number c.loop-port.invariant.in_order);
      nothing_taken = subst (All (λ (i : IntakeState). i.got ≡ [])) more (All-push (λ (i : IntakeState). i.got ≡ []) c.loop-port.intakes intake c.loop-port.invariant.nothing_taken fresh);
    }
