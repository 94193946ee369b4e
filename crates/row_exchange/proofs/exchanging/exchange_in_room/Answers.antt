use Rattle.std.proofs.Common.{◌∙◌, ℕ, List, length, length-append, reverse, arith, refl, sym, ap, subst}
use Rattle.std.proofs.lemmas.List.{length-reverse}
use Rattle.exchange_channels.specs.Wirings.{OutletState, IntakeState}
use Rattle.exchange_channels.proofs.DeliveryLemmas.{element}
use Rattle.row_exchange.specs.Routes.{Rows}
use Rattle.row_exchange.specs.inner.Gatherings.{the_stations, IsTakenApart, HaveRoom}
use Rattle.row_exchange.proofs.GatheringLemmas.{stations-ran, halves-ready}
use Rattle.row_exchange.proofs.AssemblyLemmas.{wired-outs, wired-ins, before-long, all-ready, after-long, all-ended, outs-are-ends, ins-are-ends, taps-as-long, is-exchange}
use Rattle.row_exchange.proofs.exchanging.exchange_in_room.Goals as goal

pub man-halves-requires-clause-count : goal.man-halves-requires-clause-count
man-halves-requires-clause-count g c =
    let a = c.args in
    let w = a.room.wiring in
    let room = c.requires.room in
    wired-ins w.keep w.outlets w.intakes a.size.workers a.size.workers a.size.capacity room.wired ∙ sym (wired-outs w.keep w.outlets w.intakes a.size.workers a.size.workers a.size.capacity room.wired)

pub man-halves-requires-clause-taps : goal.man-halves-requires-clause-taps
man-halves-requires-clause-taps g c =
    let a = c.args in
    let w = a.room.wiring in
    let room = c.requires.room in
    omega (arith, c.set_aside.ensures.len, wired-outs w.keep w.outlets w.intakes a.size.workers a.size.workers a.size.capacity room.wired)

pub man-halves-requires-clause-room : goal.man-halves-requires-clause-room
man-halves-requires-clause-room g c =
    let a = c.args in
    let w = a.room.wiring in
    let room = c.requires.room in
    subst (λ (n : ℕ). HaveRoom n a.halves) (sym (wired-outs w.keep w.outlets w.intakes a.size.workers a.size.workers a.size.capacity room.wired)) c.requires.halves

pub run_halves-requires-clause-senders : goal.run_halves-requires-clause-senders
run_halves-requires-clause-senders g c κs within =
    let a = c.args in
    let w = a.room.wiring in
    let room = c.requires.room in
    let accepts = g.W.Route.accepts in
    let goes = g.W.Route.cells in
    let totals = g.T.Tap.totals in
    let tag = g.T.Tap.tag in
    (halves-ready accepts goes c.man-halves.result c.man-halves.ensures.paired (all-ready accepts goes totals tag a.route.now a.parts.now a.size a.size.capacity w.keep w.outlets w.intakes c.set_aside.new.taps.items (the_stations c.man-halves.result) c.requires.size c.requires.routed room.wired c.man-halves.ensures.manned)).0

pub run_halves-requires-clause-receivers : goal.run_halves-requires-clause-receivers
run_halves-requires-clause-receivers g c κs within =
    let a = c.args in
    let w = a.room.wiring in
    let room = c.requires.room in
    let accepts = g.W.Route.accepts in
    let goes = g.W.Route.cells in
    let totals = g.T.Tap.totals in
    let tag = g.T.Tap.tag in
    (halves-ready accepts goes c.man-halves.result c.man-halves.ensures.paired (all-ready accepts goes totals tag a.route.now a.parts.now a.size a.size.capacity w.keep w.outlets w.intakes c.set_aside.new.taps.items (the_stations c.man-halves.result) c.requires.size c.requires.routed room.wired c.man-halves.ensures.manned)).1

pub take_apart-given-requires-clause-ends : goal.take_apart-given-requires-clause-ends
take_apart-given-requires-clause-ends g c =
    let a = c.args in
    let w = a.room.wiring in
    let room = c.requires.room in
    let accepts = g.W.Route.accepts in
    let goes = g.W.Route.cells in
    let totals = g.T.Tap.totals in
    let tag = g.T.Tap.tag in
    let ran = stations-ran goes totals tag c.man-halves.result c.run_halves.new.halves c.run_halves.ensures.senders c.run_halves.ensures.receivers in
    all-ended accepts goes totals tag a.route.now a.parts.now a.size a.size.capacity w.keep w.outlets w.intakes c.set_aside.new.taps.items (the_stations c.man-halves.result) c.requires.size c.requires.routed room.wired c.man-halves.ensures.manned (the_stations c.run_halves.new.halves) ran

pub take_apart-given-requires-clause-taps : goal.take_apart-given-requires-clause-taps
take_apart-given-requires-clause-taps g c =
    let a = c.args in
    let w = a.room.wiring in
    let room = c.requires.room in
    let accepts = g.W.Route.accepts in
    let goes = g.W.Route.cells in
    let totals = g.T.Tap.totals in
    let tag = g.T.Tap.tag in
    let ran = stations-ran goes totals tag c.man-halves.result c.run_halves.new.halves c.run_halves.ensures.senders c.run_halves.ensures.receivers in
    omega (
      arith,
      after-long accepts goes totals tag a.route.now a.parts.now a.size a.size.capacity w.keep w.outlets w.intakes c.set_aside.new.taps.items (the_stations c.man-halves.result) c.requires.size c.requires.routed room.wired c.man-halves.ensures.manned (the_stations c.run_halves.new.halves) ran,
      ap length c.man-halves.ensures.taps,
      c.man-halves.new.taps.ok.0,
      c.man-halves.ensures.room,
      c.set_aside.ensures.room,
      c.requires.taps,
      c.args.taps.now.ok.1,
    )

pub take_apart-given-requires-clause-outs : goal.take_apart-given-requires-clause-outs
take_apart-given-requires-clause-outs g c =
    let a = c.args in
    let w = a.room.wiring in
    let room = c.requires.room in
    let accepts = g.W.Route.accepts in
    let goes = g.W.Route.cells in
    let totals = g.T.Tap.totals in
    let tag = g.T.Tap.tag in
    let ran = stations-ran goes totals tag c.man-halves.result c.run_halves.new.halves c.run_halves.ensures.senders c.run_halves.ensures.receivers in
    omega (arith, after-long accepts goes totals tag a.route.now a.parts.now a.size a.size.capacity w.keep w.outlets w.intakes c.set_aside.new.taps.items (the_stations c.man-halves.result) c.requires.size c.requires.routed room.wired c.man-halves.ensures.manned (the_stations c.run_halves.new.halves) ran, room.outs_room)

pub take_apart-given-requires-clause-ins : goal.take_apart-given-requires-clause-ins
take_apart-given-requires-clause-ins g c =
    let a = c.args in
    let w = a.room.wiring in
    let room = c.requires.room in
    let accepts = g.W.Route.accepts in
    let goes = g.W.Route.cells in
    let totals = g.T.Tap.totals in
    let tag = g.T.Tap.tag in
    let ran = stations-ran goes totals tag c.man-halves.result c.run_halves.new.halves c.run_halves.ensures.senders c.run_halves.ensures.receivers in
    omega (arith, after-long accepts goes totals tag a.route.now a.parts.now a.size a.size.capacity w.keep w.outlets w.intakes c.set_aside.new.taps.items (the_stations c.man-halves.result) c.requires.size c.requires.routed room.wired c.man-halves.ensures.manned (the_stations c.run_halves.new.halves) ran, room.ins_room)

pub bring_back-requires : goal.bring_back-requires
bring_back-requires g c =
    let a = c.args in
    let w = a.room.wiring in
    let room = c.requires.room in
    let accepts = g.W.Route.accepts in
    let goes = g.W.Route.cells in
    let totals = g.T.Tap.totals in
    let tag = g.T.Tap.tag in
    let ran = stations-ran goes totals tag c.man-halves.result c.run_halves.new.halves c.run_halves.ensures.senders c.run_halves.ensures.receivers in
    let t = c.take_apart-given in
    let apart = subst (λ (x : List OutletState × (List IntakeState × (List (List Rows) × List _))).
    IsTakenApart (the_stations c.run_halves.new.halves) x.1.1.1 t.new.taps.items x.0 t.new.outs.items x.1.0 t.new.ins.items x.1.1.0 t.result)
    (λ i. (room.outs i, (room.ins i, (room.given i, c.man-halves.ensures.taps i)))) t.ensures.apart in
    omega (
      arith,
      taps-as-long accepts goes totals tag a.route.now a.parts.now a.size a.size.capacity w.keep w.outlets w.intakes c.set_aside.new.taps.items (the_stations c.man-halves.result) c.requires.size c.requires.routed room.wired c.man-halves.ensures.manned (the_stations c.run_halves.new.halves) ran t.new.outs.items t.new.ins.items t.new.taps.items t.result apart,
      t.new.taps.ok.0,
      t.ensures.room,
      c.man-halves.ensures.room,
      c.set_aside.ensures.room,
      c.set_aside.ensures.len,
      ap length c.set_aside.ensures.all,
      length-append c.set_aside.new.taps.items (reverse c.set_aside.new.idle.items),
      length-reverse c.set_aside.new.idle.items,
      c.set_aside.new.taps.ok.0,
      c.set_aside.new.idle.ok.0,
      c.args.taps.now.ok.0,
      c.args.taps.now.ok.1,
    )

pub close-receipt-requires-clause-outs : goal.close-receipt-requires-clause-outs
close-receipt-requires-clause-outs g c =
    let a = c.args in
    let w = a.room.wiring in
    let room = c.requires.room in
    let accepts = g.W.Route.accepts in
    let goes = g.W.Route.cells in
    let totals = g.T.Tap.totals in
    let tag = g.T.Tap.tag in
    let ran = stations-ran goes totals tag c.man-halves.result c.run_halves.new.halves c.run_halves.ensures.senders c.run_halves.ensures.receivers in
    let t = c.take_apart-given in
    let apart = subst (λ (x : List OutletState × (List IntakeState × (List (List Rows) × List _))).
    IsTakenApart (the_stations c.run_halves.new.halves) x.1.1.1 t.new.taps.items x.0 t.new.outs.items x.1.0 t.new.ins.items x.1.1.0 t.result)
    (λ i. (room.outs i, (room.ins i, (room.given i, c.man-halves.ensures.taps i)))) t.ensures.apart in
    let d = element (the_stations c.man-halves.result) 0 (omega (arith, before-long accepts goes totals tag a.route.now a.parts.now a.size a.size.capacity w.keep w.outlets w.intakes c.set_aside.new.taps.items (the_stations c.man-halves.result) c.requires.size c.requires.routed room.wired c.man-halves.ensures.manned, c.requires.size.some_worker)) in
    outs-are-ends accepts goes totals tag a.route.now a.parts.now a.size a.size.capacity w.keep w.outlets w.intakes c.set_aside.new.taps.items (the_stations c.man-halves.result) c.requires.size c.requires.routed room.wired c.man-halves.ensures.manned (the_stations c.run_halves.new.halves) ran t.new.outs.items t.new.ins.items t.new.taps.items t.result apart d

pub close-receipt-requires-clause-ins : goal.close-receipt-requires-clause-ins
close-receipt-requires-clause-ins g c =
    let a = c.args in
    let w = a.room.wiring in
    let room = c.requires.room in
    let accepts = g.W.Route.accepts in
    let goes = g.W.Route.cells in
    let totals = g.T.Tap.totals in
    let tag = g.T.Tap.tag in
    let ran = stations-ran goes totals tag c.man-halves.result c.run_halves.new.halves c.run_halves.ensures.senders c.run_halves.ensures.receivers in
    let t = c.take_apart-given in
    let apart = subst (λ (x : List OutletState × (List IntakeState × (List (List Rows) × List _))).
    IsTakenApart (the_stations c.run_halves.new.halves) x.1.1.1 t.new.taps.items x.0 t.new.outs.items x.1.0 t.new.ins.items x.1.1.0 t.result)
    (λ i. (room.outs i, (room.ins i, (room.given i, c.man-halves.ensures.taps i)))) t.ensures.apart in
    let d = element (the_stations c.man-halves.result) 0 (omega (arith, before-long accepts goes totals tag a.route.now a.parts.now a.size a.size.capacity w.keep w.outlets w.intakes c.set_aside.new.taps.items (the_stations c.man-halves.result) c.requires.size c.requires.routed room.wired c.man-halves.ensures.manned, c.requires.size.some_worker)) in
    ins-are-ends accepts goes totals tag a.route.now a.parts.now a.size a.size.capacity w.keep w.outlets w.intakes c.set_aside.new.taps.items (the_stations c.man-halves.result) c.requires.size c.requires.routed room.wired c.man-halves.ensures.manned (the_stations c.run_halves.new.halves) ran t.new.outs.items t.new.ins.items t.new.taps.items t.result apart d

pub returns : goal.returns
returns g c =
    let a = c.args in
    let w = a.room.wiring in
    let room = c.requires.room in
    let accepts = g.W.Route.accepts in
    let goes = g.W.Route.cells in
    let totals = g.T.Tap.totals in
    let tag = g.T.Tap.tag in
    let ran = stations-ran goes totals tag c.man-halves.result c.run_halves.new.halves c.run_halves.ensures.senders c.run_halves.ensures.receivers in
    let t = c.take_apart-given in
    let apart = subst (λ (x : List OutletState × (List IntakeState × (List (List Rows) × List _))).
    IsTakenApart (the_stations c.run_halves.new.halves) x.1.1.1 t.new.taps.items x.0 t.new.outs.items x.1.0 t.new.ins.items x.1.1.0 t.result)
    (λ i. (room.outs i, (room.ins i, (room.given i, c.man-halves.ensures.taps i)))) t.ensures.apart in
    is-exchange accepts goes totals tag a.route.now a.parts.now a.size a.size.capacity w.keep w.outlets w.intakes c.set_aside.new.taps.items (the_stations c.man-halves.result) c.requires.size c.requires.routed room.wired c.man-halves.ensures.manned (the_stations c.run_halves.new.halves) ran t.new.outs.items t.new.ins.items t.new.taps.items t.result apart c.close-receipt.ensures.delivered (reverse c.set_aside.new.idle.items) a.taps.now.items c.bring_back.new.taps.items
    c.requires.low c.set_aside.ensures.all c.bring_back.ensures.all c.close-receipt.result c.close-receipt.ensures.receipt refl c.with_receipt.result c.with_receipt.ensures
