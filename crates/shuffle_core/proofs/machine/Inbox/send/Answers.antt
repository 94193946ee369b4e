use Rattle.std.proofs.Common.{◌≡◌, List, sym, ◌∙◌, ap, arith}
use Rattle.shuffle_core.specs.declared.posts.Post.{Post}
use Rattle.shuffle_core.specs.declared.posts.Stepped.TheVariants.{Ended}
use Rattle.shuffle_core.specs.Machine.{inbox_of_log, answer_to_post, after_post}
use Rattle.shuffle_core.proofs.MachineLemmas.{answer_to_post-noted, answer_to_post-no_room, answer_to_post-room, inbox_of_log-after_post, IsLogOf-push}
use Rattle.shuffle_core.proofs.machine.Inbox.send.Goals as goal
use Rattle.shuffle_core.proofs.machine.Inbox.send.Goals.{Then-index}

ended : (c : Then-index) → answer_to_post c.args.self.now c.args.post ≡ Ended
ended c =
    answer_to_post-noted c.self.inside.senders c.self.inside.capacity c.self.inside.log.items c.self.inside.taken c.self.inside.ended.items c.self.invariant
    c.args.post c.if-post-self.false c.args.self.now c.index.result.now c.self.view_is (sym c.index.ensures ∙ c.if-index.true)

pub returns-then-index-clause-answer : goal.returns-then-index-clause-answer
returns-then-index-clause-answer c = sym (ended c)

pub returns-then-index-clause-after : goal.returns-then-index-clause-after
returns-then-index-clause-after c = ap (after_post c.args.self.now c.args.post) (sym (ended c))

pub returns-then-len-self-clause-answer : goal.returns-then-len-self-clause-answer
returns-then-len-self-clause-answer c =
    sym (answer_to_post-no_room c.self.inside.senders c.self.inside.capacity c.self.inside.log.items c.self.inside.taken c.self.inside.ended.items c.self.invariant
    c.args.post c.if-post-self.false c.index.result.now (sym c.index.ensures ∙ c.if-index.false) c.args.self.now c.self.view_is (omega arith))

pub returns-then-len-self-clause-after : goal.returns-then-len-self-clause-after
returns-then-len-self-clause-after c =
    ap (after_post c.args.self.now c.args.post)
    (sym (answer_to_post-no_room c.self.inside.senders c.self.inside.capacity c.self.inside.log.items c.self.inside.taken c.self.inside.ended.items c.self.invariant
    c.args.post c.if-post-self.false c.index.result.now (sym c.index.ensures ∙ c.if-index.false) c.args.self.now c.self.view_is (omega arith)))

pub invariant_of-self-2 : goal.invariant_of-self-2
invariant_of-self-2 c =
    rw (c.in_ok-push.ensures.items, c.is_end.ensures)
    (IsLogOf-push c.self.inside.senders c.self.inside.capacity c.self.inside.log.items c.self.inside.taken c.self.inside.ended.items c.self.invariant
    c.args.post c.if-post-self.false c.index.result.now (sym c.index.ensures ∙ c.if-index.false) (omega arith))

pub returns-clause-answer : goal.returns-clause-answer
returns-clause-answer c =
    sym (answer_to_post-room c.self.inside.senders c.self.inside.capacity c.self.inside.log.items c.self.inside.taken c.self.inside.ended.items c.self.invariant
    c.args.post c.if-post-self.false c.index.result.now (sym c.index.ensures ∙ c.if-index.false) (omega arith) c.args.self.now c.self.view_is)

pub returns-clause-after : goal.returns-clause-after
returns-clause-after c =
    ap (λ (posts : List Post). inbox_of_log c.self.inside.senders c.self.inside.capacity posts c.self.inside.taken) c.in_ok-push.ensures.items
    ∙ inbox_of_log-after_post c.self.inside.senders c.self.inside.capacity c.self.inside.log.items c.self.inside.taken c.self.inside.ended.items c.self.invariant
    c.args.post c.if-post-self.false c.index.result.now (sym c.index.ensures ∙ c.if-index.false) (omega arith) c.args.self.now c.self.view_is
