use Rattle.std.proofs.Common.{◌≡◌, List, [], false, replicate, sym, subst, ◌∙◌, ap, rules, arith}
use Rattle.shuffle_core.specs.declared.posts.Post.{Post}
use Rattle.shuffle_core.specs.Inbox.{IsInbox}
use Rattle.shuffle_core.specs.Machine.{sender_of, is_end, inbox_of_log}
use Rattle.shuffle_core.proofs.InboxLemmas.{IsInbox-new_inbox}
use Rattle.shuffle_core.proofs.MachineLemmas.{inbox_of_log-nil, ended_of-nil}
use Rattle.shuffle_core.proofs.machine.Inbox.new.Goals as goal

pub invariant_of-result : goal.invariant_of-result
invariant_of-result c =
    let empty : c.new.result.items ≡ [] = c.new.ensures.items in
    let flags : c.in_ok-ended.ended.items ≡ replicate c.args.senders false = c.in_ok-ended.ensures.items_if_clones_equal (λ y same. search rules) in
    rw (empty, flags) record {
      taken_of_sent = omega arith;
      ends_noted = ended_of-nil c.args.senders c.args.capacity;
      is_inbox = subst (IsInbox sender_of is_end) (sym (inbox_of_log-nil c.args.senders c.args.capacity)) (IsInbox-new_inbox sender_of is_end c.args.senders c.args.capacity);
    }

pub returns-clause-made : goal.returns-clause-made
returns-clause-made c =
    ap (λ (posts : List Post). inbox_of_log c.args.senders c.args.capacity posts 0) c.new.ensures.items
    ∙ inbox_of_log-nil c.args.senders c.args.capacity

pub returns-clause-kept : goal.returns-clause-kept
returns-clause-kept c =
    subst (IsInbox sender_of is_end)
    (sym (ap (λ (posts : List Post). inbox_of_log c.args.senders c.args.capacity posts 0) c.new.ensures.items
    ∙ inbox_of_log-nil c.args.senders c.args.capacity))
    (IsInbox-new_inbox sender_of is_end c.args.senders c.args.capacity)
