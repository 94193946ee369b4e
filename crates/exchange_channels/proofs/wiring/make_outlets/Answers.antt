use Rattle.std.proofs.Common.{◌∙◌, ◌∷◌, ◌++◌, [], List, length, ap, sym, map, arith}
use Rattle.std.specs.List.{range_with_len}
use Rattle.std.proofs.lemmas.List.FromFn.{length-map-range_with_len, map-range_with_len_more}
use Rattle.exchange_channels.specs.Ports.{Place}
use Rattle.exchange_channels.specs.Wirings.{OutletState, new_outlet}
use Rattle.exchange_channels.specs.inner.Outlets.{wiring_of}
use Rattle.exchange_channels.proofs.wiring.make_outlets.Goals as goal

pub push-requires : goal.push-requires
push-requires c =
    omega (arith, ap length c.loop-number.invariant.outlets, length-map-range_with_len (new_outlet (wiring_of c.args.cells.now c.args.senders c.args.capacity)) 0 c.loop-number.number)

pub loop-number-preserved : goal.loop-number-preserved
loop-number-preserved c =
    let made = new_outlet (wiring_of c.args.cells.now c.args.senders c.args.capacity) in
    record {
      kept = c.in_ok-outlet.ensures.cells;
      places = c.in_ok-outlet.ensures.places ∙ c.loop-number.invariant.places;
      outlets = c.in_ok-push.ensures.ok ∙ ap (λ (l : List OutletState). l ++ c.in_ok-outlet.outlet ∷ []) c.loop-number.invariant.outlets
          ∙ ap (λ o. map made (range_with_len 0 c.loop-number.number) ++ o ∷ [])
          (c.in_ok-outlet.ensures.outlet ∙ ap (λ (places : List Place). new_outlet (record { places = places; senders = c.args.senders; capacity = c.args.capacity }) c.loop-number.number) c.loop-number.invariant.places)
          ∙ sym (map-range_with_len_more made 0 c.loop-number.number c.loop-number.number (omega arith));
    }
