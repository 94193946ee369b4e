use Rattle.std.proofs.Common.{◌≡◌, length, rules}
use Rattle.collector.proofs.MergeLemmas.{merged_alone}
use Rattle.collector.proofs.merging.merge.Goals as goal

pub returns : goal.returns
returns g c =
    let long : length c.args.lists.items ≡ 1 = search rules in
    merged_alone g.T.Ord.cmp c.args.lists.items c.pop.new.self.items c.in-Some.only (search rules) long c.requires
