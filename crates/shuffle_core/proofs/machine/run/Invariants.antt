-- the inbox so far is the inbox after the events so far
use Rattle.std.proofs.Common.{◌≡◌, take}
use Rattle.shuffle_core.specs.Inbox.{new_inbox}
use Rattle.shuffle_core.specs.Machine.{run_of}
use Rattle.shuffle_core.proofs.machine.run.Given as goal

abbrev pub invariant-loop-event : goal.invariant-loop-event
invariant-loop-event l = l.inbox ≡ run_of (new_inbox l.senders l.capacity) (take l.event-index l.events)
