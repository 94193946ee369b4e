use Rattle.std.proofs.Common.{◌≡◌, ◌<◌, ◌^◌, ℕ, List, [], length, map, get_or, Result, Ok, ap, subst, arith}
use Rattle.std.specs.Prelude.{IfOk}
use Rattle.std.proofs.lemmas.Result.{IfOk-weaker}
use Rattle.rel_base.specs.Bags.{SameBag}
use Rattle.rel_base.specs.declared.failure.Memory.{Memory}
use Rattle.myrial_ast.specs.Partials.{partial_rows}
use Rattle.myrial_ast.specs.Combinations.{Rows}
use Rattle.algebra.specs.Trees.{kind_of_emit}
use Rattle.placement.specs.Layouts.{together}
use Rattle.keyed_terms.specs.inner.Making.{AreMadeBy}
use Rattle.keyed_terms.proofs.MakingLemmas.{gathered-made, few-together}
use Rattle.keyed_terms.proofs.making.partial_each.Goals as goal

pub returns-clause-rows : goal.returns-clause-rows
returns-clause-rows g c =
    let parts = c.args.listed.now in
    let kinds = map kind_of_emit c.args.kinds.now in
    let all = c.in_ok-all.all.items in
    let one = c.as_slice-workers.ensures.value in
    let long : length all ≡ length parts = omega (arith, c.in_ok-all.ensures.len, c.in_ok-all.all.ok.0, ap length one) in
    let each : (w : ℕ) (d : Result Rows Memory) → w < length parts → IfOk (get_or all w d) (SameBag (partial_rows kinds (get_or parts w []))) × (length (get_or parts w []) < 2 ^ 32) =
    λ w d below. let h = (c.in_ok-all.ensures.each w d (omega (arith, below, ap length one))).1.met in
    subst (λ (x : List Rows). IfOk (get_or all w d) (SameBag (partial_rows kinds (get_or x w []))) × (length (get_or x w []) < 2 ^ 32)) one h in
    let made : ℕ → Rows = λ w. partial_rows kinds (get_or parts w []) in
    IfOk-weaker c.gather.result (λ rows. map Ok rows ≡ all) (AreMadeBy (length parts) made)
    (λ rows is. gathered-made (length parts) made all rows long (λ w d below. (each w d below).0) is) c.gather.ensures

pub returns-clause-few : goal.returns-clause-few
returns-clause-few g c =
    let parts = c.args.listed.now in
    let kinds = map kind_of_emit c.args.kinds.now in
    let all = c.in_ok-all.all.items in
    let one = c.as_slice-workers.ensures.value in
    let long : length all ≡ length parts = omega (arith, c.in_ok-all.ensures.len, c.in_ok-all.all.ok.0, ap length one) in
    let each : (w : ℕ) (d : Result Rows Memory) → w < length parts → IfOk (get_or all w d) (SameBag (partial_rows kinds (get_or parts w []))) × (length (get_or parts w []) < 2 ^ 32) =
    λ w d below. let h = (c.in_ok-all.ensures.each w d (omega (arith, below, ap length one))).1.met in
    subst (λ (x : List Rows). IfOk (get_or all w d) (SameBag (partial_rows kinds (get_or x w []))) × (length (get_or x w []) < 2 ^ 32)) one h in
    IfOk-weaker c.gather.result (λ rows. map Ok rows ≡ all) (λ rows. length (together parts) < 2 ^ 63)
    (λ rows is. few-together parts c.requires.workers (λ w below. (each w (Ok []) below).1)) c.gather.ensures
