use Rattle.std.proofs.Common.{◌≡◌, ◌∙◌, ℕ, true, List, [], ◌∷◌, ◌++◌, Bool, length, set, Result, sym, subst, ap, length-set, arith}
use Rattle.std.proofs.lemmas.Grind.{common_steps}
use Rattle.std.specs.Prelude.{IfOk, IsOkAnd}
use Rattle.std.proofs.lemmas.List.{with_items_is}
use Rattle.rel_base.specs.declared.failure.Memory.{Memory}
use Rattle.exchange_channels.specs.declared.messages.Batch.{Batch}
use Rattle.exchange_channels.specs.Messages.{batch_of, end_of}
use Rattle.exchange_channels.specs.inner.CellRule.{with_taken}
use Rattle.exchange_channels.specs.Ports.{PortState}
use Rattle.exchange_channels.specs.inner.Intakes.{IsTaking}
use Rattle.exchange_channels.proofs.TakingLemmas.{IsTaking-batch, IsTaking-end}
use Rattle.exchange_channels.proofs.intakes.Taking.take.Goals as goal

pub invariant_of-self-in-Some-2 : goal.invariant_of-self-in-Some-2
invariant_of-self-in-Some-2 g c =
    let port : c.take-sender.new.self ≡ record c.self.inside.port { knows = with_taken c.self.inside.port.knows (batch_of c.take-sender.result.sender c.in-Some.batch) } =
    c.take-sender.ensures ∙ (λ i. record c.self.inside.port { knows = with_taken c.self.inside.port.knows (record { sender = c.take-sender.result.sender; batch = c.in-Some.is i }) }) in
    let more : IfOk c.with_batch.result (λ now. IsOkAnd c.self.inside.drained (λ before. now ≡ before ++ (c.take-sender.result.sender, c.in-Some.batch) ∷ [])) =
    subst (λ (old : Result (List (ℕ × Batch)) Memory). IfOk c.with_batch.result (λ now. IsOkAnd old (λ before. now ≡ before ++ (c.take-sender.result.sender, c.in-Some.batch) ∷ [])))
    c.replace-drained.ensures.value c.with_batch.ensures in
    subst (λ (p : PortState). IsTaking (record { port = p; ended = c.self.inside.ended.items; drained = c.with_batch.result })) (sym port)
    (IsTaking-batch c.self.inside.port c.self.inside.ended.items c.self.inside.drained c.take-sender.result.sender c.in-Some.batch c.with_batch.result c.self.invariant more)

pub invariant_of-self-in-None : goal.invariant_of-self-in-None
invariant_of-self-in-None g c =
    let port : c.take-sender.new.self ≡ record c.self.inside.port { knows = with_taken c.self.inside.port.knows (end_of c.take-sender.result.sender) } =
    c.take-sender.ensures ∙ (λ i. record c.self.inside.port { knows = with_taken c.self.inside.port.knows (record { sender = c.take-sender.result.sender; batch = c.in-None.is i }) }) in
    let noted : c.note.new.ended ≡ set c.self.inside.ended.items c.take-sender.result.sender true =
    c.note.ensures ∙ ap (λ (l : List Bool). set l c.take-sender.result.sender true) c.as_mut_slice.ensures.value in
    let long : length c.note.new.ended ≡ c.self.inside.ended.len =
    ap length noted ∙ length-set c.self.inside.ended.items c.take-sender.result.sender true ∙ sym c.self.inside.ended.ok.0 in
    subst (λ (t : PortState × List Bool). IsTaking (record { port = t.0; ended = t.1; drained = c.self.inside.drained }))
    (λ i. (sym port i, sym (with_items_is c.self.inside.ended c.note.new.ended long ∙ noted) i))
    (IsTaking-end c.self.inside.port c.self.inside.ended.items c.self.inside.drained c.take-sender.result.sender c.self.invariant)

pub returns-in-Some-clause-taken : goal.returns-in-Some-clause-taken
returns-in-Some-clause-taken g c = grind (arith, common_steps)

pub returns-in-None-clause-taken : goal.returns-in-None-clause-taken
returns-in-None-clause-taken g c = grind (arith, common_steps)
