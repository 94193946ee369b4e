use Rattle.std.proofs.Common.{◌≡◌, ◌<◌, ◌∙◌, ℕ, List, [], length, map, get_or, Result, Ok, ap, subst, sym, arith}
use Rattle.std.specs.Prelude.{IfOk}
use Rattle.std.proofs.lemmas.List.{get_or-map, length-map}
use Rattle.std.proofs.lemmas.Result.{IfOk-weaker}
use Rattle.rel_base.specs.Bags.{SameBag}
use Rattle.rel_base.specs.declared.failure.Memory.{Memory}
use Rattle.myrial_ast.specs.Bags.{difference}
use Rattle.myrial_ast.specs.Combinations.{Rows}
use Rattle.keyed_terms.specs.inner.Making.{AreMadeBy}
use Rattle.keyed_terms.proofs.MakingLemmas.{gathered-made}
use Rattle.keyed_terms.proofs.making.difference_each.Goals as goal

pub returns : goal.returns
returns g c =
    let parts = c.args.parts in
    let others = c.args.others in
    let made : ℕ → Rows = λ w. difference (get_or parts w []) (get_or others w []) in
    let all = c.in_ok-all.all.items in
    let own = c.in_ok-own.own.items in
    let first : Rows × Rows → Rows = λ p. p.0 in
    let second : Rows × Rows → Rows = λ p. p.1 in
    let one : map first own ≡ parts = c.in_ok-own.ensures.parts in
    let two : map second own ≡ others = c.in_ok-own.ensures.others in
    let many : length own ≡ length parts = sym (length-map own first) ∙ ap length one in
    let long : length all ≡ length parts = omega (arith, c.in_ok-all.ensures.len, c.in_ok-all.all.ok.0, c.in_ok-own.own.ok.0, many) in
    let each : (w : ℕ) (d : Result Rows Memory) → w < length parts → IfOk (get_or all w d) (SameBag (made w)) =
    λ w d below. let low : w < length own = omega (arith, below, many) in
    let h = (c.in_ok-all.ensures.each w d low).1 in
    let front : first h.job ≡ get_or parts w [] =
    ap first (sym (h.job_is ([], []))) ∙ sym (get_or-map first own w ([], []) [] low) ∙ ap (λ (l : List Rows). get_or l w []) one in
    let back : second h.job ≡ get_or others w [] =
    ap second (sym (h.job_is ([], []))) ∙ sym (get_or-map second own w ([], []) [] low) ∙ ap (λ (l : List Rows). get_or l w []) two in
    subst (λ (pair : Rows × Rows). IfOk (get_or all w d) (SameBag (difference pair.0 pair.1))) (λ i. (front i, back i)) h.call.met in
    IfOk-weaker c.gather.result (λ rows. map Ok rows ≡ all) (AreMadeBy (length parts) made)
    (λ rows is. gathered-made (length parts) made all rows long each is) c.gather.ensures
