use Rattle.std.proofs.Common.{◌≡◌, Result, Ok, Err, sym, subst}
use Rattle.std.specs.Prelude.{OnOk, OnErr}
use Rattle.rel_base.specs.declared.failure.Memory.{Memory}
use Rattle.shuffle_core.specs.declared.posts.Post.{Post}
use Rattle.shuffle_core.specs.declared.posts.Stepped.{Stepped}
use Rattle.shuffle_core.specs.Inbox.{InboxState, IsInbox}
use Rattle.shuffle_core.specs.Machine.{sender_of, is_end, answer_to_post, after_post}
use Rattle.shuffle_core.proofs.InboxLemmas.{IsInbox-with_taken}
use Rattle.shuffle_core.proofs.MachineLemmas.{IsInbox-after_post}
use Rattle.shuffle_core.proofs.machine.Inbox.step.Goals as goal

-- an inbox stays one, whether the post found memory or not
after_send : (old new : InboxState Post) (post : Post) (r : Result Stepped Memory) → IsInbox sender_of is_end old
    → OnOk r (new ≡ after_post old post (answer_to_post old post)) → OnErr r (new ≡ old) → IsInbox sender_of is_end new
after_send old new post (Ok answer) was after err = subst (IsInbox sender_of is_end) (sym after) (IsInbox-after_post old post was)
after_send old new post (Err refused) was after err = subst (IsInbox sender_of is_end) (sym err) was

pub returns-in-Send-clause-kept : goal.returns-in-Send-clause-kept
returns-in-Send-clause-kept c =
    after_send c.args.self.now c.send.new.self c.in-Send.post c.send.result c.send.ensures.was c.send.ensures.after c.send.ensures.err

pub returns-in-Take-clause-kept : goal.returns-in-Take-clause-kept
returns-in-Take-clause-kept c =
    subst (IsInbox sender_of is_end) (sym c.take.ensures.after) (IsInbox-with_taken sender_of is_end c.args.self.now c.take.ensures.was)
