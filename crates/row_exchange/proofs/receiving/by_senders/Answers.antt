use Rattle.std.proofs.Common.{◌≡◌, ◌++◌, [], append-nil, sym, subst}
use Rattle.std.specs.Prelude.{IsPermutation}
use Rattle.std.proofs.lemmas.List.Sorted.{IsPermutation-refl, IsPermutation-trans}
use Rattle.row_exchange.proofs.ReceivingLemmas.{taken-step, nil-from_pop}
use Rattle.row_exchange.proofs.receiving.by_senders.Goals as goal

pub loop-one-init : goal.loop-one-init
loop-one-init c =
    subst (λ l. IsPermutation c.args.drained (c.args.drained ++ l)) (sym c.in_ok-taken.ensures.items)
    (subst (IsPermutation c.args.drained) (sym (append-nil c.args.drained)) (IsPermutation-refl c.args.drained))

pub loop-one-preserved : goal.loop-one-preserved
loop-one-preserved c =
    subst (λ l. IsPermutation c.args.drained (c.pop.new.self ++ l)) (sym c.in_ok-push.ensures.items)
    (taken-step c.args.drained c.loop-one.drained c.pop.new.self c.loop-one.taken.items c.in-Some.one c.in-Some.ensures.items c.loop-one.invariant)

pub returns : goal.returns
returns c =
    let left : c.loop-one.drained ≡ [] = nil-from_pop c.loop-one.drained c.pop.result c.in_default.is c.pop.ensures.some in
    IsPermutation-trans c.args.drained c.loop-one.taken.items c.sort_by_key.new.self.items
    (subst (λ l. IsPermutation c.args.drained (l ++ c.loop-one.taken.items)) left c.loop-one.invariant) c.sort_by_key.ensures.permutation
