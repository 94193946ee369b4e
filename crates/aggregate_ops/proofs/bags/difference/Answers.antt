use Rattle.std.proofs.Common.{◌≡◌}
use Rattle.std.proofs.lemmas.Result.{IfOk-weaker}
use Rattle.rel_base.specs.Bags.{SameBag}
use Rattle.myrial_ast.specs.Bags.{difference}
use Rattle.bag_laws.proofs.RowPermutations.{difference-same}
use Rattle.aggregate_ops.proofs.bags.difference.Goals as goal

pub returns : goal.returns
returns c =
    let rows = c.in-Some.packed.0 in
    let others = c.in-Some.packed.1 in
    let same : SameBag c.args.a rows × SameBag c.args.b others = rw (c.in-Some.is) at c.in_ok-packed.ensures in
    IfOk-weaker c.difference.result (λ made. made ≡ difference rows others)
    (λ made. SameBag (difference c.args.a c.args.b) made)
    (λ made is. rw is (difference-same c.args.a rows c.args.b others same.0 same.1)) c.difference.ensures
