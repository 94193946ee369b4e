use Rattle.std.proofs.Common.{sym, subst, take}
use Rattle.shuffle_core.specs.Inbox.{IsInbox}
use Rattle.shuffle_core.specs.Machine.{sender_of, is_end}
use Rattle.shuffle_core.proofs.InboxLemmas.{IsInbox-new_inbox, IsDelivered-from_ends}
use Rattle.shuffle_core.proofs.MachineLemmas.{IsInbox-run_of}
use Rattle.shuffle_core.proofs.machine.run.Goals as goal

pub returns-clause-kept : goal.returns-clause-kept
returns-clause-kept c =
    subst (IsInbox sender_of is_end) (sym c.loop-event.invariant)
    (IsInbox-run_of _ (take c.loop-event.event-index c.args.events.now) (IsInbox-new_inbox sender_of is_end c.args.senders c.args.capacity))

pub returns-clause-delivered : goal.returns-clause-delivered
returns-clause-delivered c =
    IsDelivered-from_ends sender_of is_end _
    (subst (IsInbox sender_of is_end) (sym c.loop-event.invariant)
    (IsInbox-run_of _ (take c.loop-event.event-index c.args.events.now) (IsInbox-new_inbox sender_of is_end c.args.senders c.args.capacity)))
