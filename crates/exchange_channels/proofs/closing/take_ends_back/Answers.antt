use Rattle.std.proofs.Common.{◌∙◌, List, All, sym, subst, arith}
use Rattle.exchange_channels.specs.inner.Closings.{KnowAllSent}
use Rattle.exchange_channels.specs.Ports.{Place}
use Rattle.exchange_channels.specs.Wirings.{IsAtItsCell}
use Rattle.exchange_channels.specs.inner.Keeps.{IsSettled}
use Rattle.exchange_channels.proofs.DeliveryLemmas.{places_stay, each_takes, all_returned, returned_at, all_delivered}
use Rattle.exchange_channels.proofs.closing.take_ends_back.Goals as goal

pub take_intakes_back-requires-clause-places : goal.take_intakes_back-requires-clause-places
take_intakes_back-requires-clause-places c =
    subst (λ (places : List Place). All (IsAtItsCell places) c.args.ins.items)
    (sym (places_stay c.args.cells.now c.take_outlets_back.new.cells c.take_outlets_back.new.cells c.args.outs.items c.args.ins.items c.take_outlets_back.auto.cells c.take_outlets_back.auto.cells c.requires.ins_count c.take_outlets_back.ensures))
    c.requires.ins_places

pub settle-requires-clause-receivers : goal.settle-requires-clause-receivers
settle-requires-clause-receivers c = each_takes c.args.cells.now c.take_outlets_back.new.cells c.take_intakes_back.new.cells c.args.outs.items c.args.ins.items c.take_outlets_back.auto.cells (c.take_intakes_back.auto.cells ∙ c.take_outlets_back.auto.cells) c.requires.ins_count c.take_outlets_back.ensures c.take_intakes_back.ensures.cells

pub settle-requires-clause-senders : goal.settle-requires-clause-senders
settle-requires-clause-senders c = all_returned c.args.cells.now c.take_outlets_back.new.cells c.take_intakes_back.new.cells c.args.outs.items c.args.ins.items c.take_outlets_back.auto.cells (c.take_intakes_back.auto.cells ∙ c.take_outlets_back.auto.cells) c.requires.ins_count c.take_outlets_back.ensures c.take_intakes_back.ensures.cells c.requires.senders

pub returns-clause-returned : goal.returns-clause-returned
returns-clause-returned c =
    subst (KnowAllSent c.args.outs.items) (sym c.settle.ensures.same)
    (λ k d below. returned_at c.args.cells.now c.take_outlets_back.new.cells c.take_intakes_back.new.cells c.args.outs.items c.args.ins.items c.take_outlets_back.auto.cells (c.take_intakes_back.auto.cells ∙ c.take_outlets_back.auto.cells) c.requires.ins_count c.take_outlets_back.ensures c.take_intakes_back.ensures.cells k d (omega (arith, c.take_intakes_back.auto.cells, c.take_outlets_back.auto.cells)))

pub returns-clause-delivered : goal.returns-clause-delivered
returns-clause-delivered c =
    all_delivered c.args.cells.now c.take_outlets_back.new.cells c.take_intakes_back.new.cells c.args.outs.items c.args.ins.items c.take_outlets_back.auto.cells (c.take_intakes_back.auto.cells ∙ c.take_outlets_back.auto.cells) c.requires.ins_count c.take_outlets_back.ensures c.take_intakes_back.ensures.cells c.requires.senders
    (subst (All IsSettled) c.settle.ensures.same c.settle.ensures.settled) c.requires.ins_in_order c.take_intakes_back.ensures.ends c.requires.ins_senders
