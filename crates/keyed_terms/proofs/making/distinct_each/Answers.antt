use Rattle.std.proofs.Common.{◌≡◌, ◌<◌, ◌∙◌, ℕ, List, [], length, map, get_or, Result, Ok, ap, subst, sym, arith}
use Rattle.std.specs.Prelude.{IfOk}
use Rattle.std.proofs.lemmas.Result.{IfOk-weaker}
use Rattle.rel_base.specs.Bags.{SameBag}
use Rattle.rel_base.specs.declared.failure.Memory.{Memory}
use Rattle.myrial_ast.specs.Bags.{distinct}
use Rattle.myrial_ast.specs.Combinations.{Rows}
use Rattle.keyed_terms.specs.inner.Making.{AreMadeBy}
use Rattle.keyed_terms.proofs.MakingLemmas.{gathered-made}
use Rattle.keyed_terms.proofs.making.distinct_each.Goals as goal

pub returns : goal.returns
returns g c =
    let parts = c.args.parts in
    let made : ℕ → Rows = λ w. distinct (get_or parts w []) in
    let all = c.in_ok-all.all.items in
    let same = c.in_ok-own.ensures in
    let many = ap length same in
    let long : length all ≡ length parts = omega (arith, c.in_ok-all.ensures.len, c.in_ok-all.all.ok.0, c.in_ok-own.own.ok.0, many) in
    let each : (w : ℕ) (d : Result Rows Memory) → w < length parts → IfOk (get_or all w d) (SameBag (made w)) =
    λ w d below. let h = (c.in_ok-all.ensures.each w d (omega (arith, below, many))).1 in
    subst (λ (rows : Rows). IfOk (get_or all w d) (SameBag (distinct rows)))
    (sym (h.job_is []) ∙ ap (λ (l : List Rows). get_or l w []) same) h.call.met in
    IfOk-weaker c.gather.result (λ rows. map Ok rows ≡ all) (AreMadeBy (length parts) made)
    (λ rows is. gathered-made (length parts) made all rows long each is) c.gather.ensures
