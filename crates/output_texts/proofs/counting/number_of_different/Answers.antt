use Rattle.std.proofs.Common.{arith}
use Rattle.output_texts.proofs.TrialLemmas.{different-counted, same-values}
use Rattle.output_texts.proofs.counting.number_of_different.Goals as goal

pub returns : goal.returns
returns c =
    let counted =
    different-counted _ (λ r s. same-values r.now s.now) c.args.rows.items _ _ c.sort_unstable.ensures.permutation c.sort_unstable.ensures.sorted c.dedup.ensures.filtered in
    omega (arith, counted)
