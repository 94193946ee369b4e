use Rattle.std.proofs.Common.{◌≡◌, ◌<◌, true, ℕ, List, [], length, map, get_or, Result, Ok, ap, subst, arith}
use Rattle.std.specs.List.{list_all}
use Rattle.std.proofs.lemmas.Result.{IfOk-weaker, IfErr-weaker}
use Rattle.myrial_ast.specs.Partials.{merged}
use Rattle.myrial_ast.specs.Combinations.{Rows}
use Rattle.algebra.specs.Trees.{kind_of_emit}
use Rattle.aggregate_ops.specs.Columns.{Overflows}
use Rattle.aggregate_ops.specs.Forms.{merged_fits}
use Rattle.aggregate_ops.specs.declared.faults.AggFault.{AggFault}
use Rattle.keyed_terms.specs.inner.Making.{AreMadeBy, IsMerged, IsFaultOf}
use Rattle.keyed_terms.proofs.MakingLemmas.{gathered-made, merged-ok, gathered-fits, gathered-fault}
use Rattle.keyed_terms.proofs.making.merge_each.Goals as goal

pub returns-in-Ok-clause-rows : goal.returns-in-Ok-clause-rows
returns-in-Ok-clause-rows g c =
    let parts = c.args.partials.now in
    let kinds = map kind_of_emit c.args.kinds.now in
    let all = c.in-Ok.all.items in
    let one = c.as_slice-workers.ensures.value in
    let long : length all ≡ length parts = omega (arith, c.in-Ok.ensures.len, c.in-Ok.all.ok.0, ap length one) in
    let each : (w : ℕ) (d : Result Rows AggFault) → w < length parts → IsMerged kinds (get_or parts w []) (get_or all w d) =
    λ w d below. let h = (c.in-Ok.ensures.each w d (omega (arith, below, ap length one))).1.met in
    subst (λ (x : List Rows). IsMerged kinds (get_or x w []) (get_or all w d)) one h in
    let made : ℕ → Rows = λ w. merged kinds (get_or parts w []) in
    IfOk-weaker c.gather_merged.result (λ rows. map Ok rows ≡ all) (AreMadeBy (length parts) made)
    (λ rows is. gathered-made (length parts) made all rows long (λ w d below. merged-ok kinds (get_or parts w []) (get_or all w d) (each w d below)) is)
    c.gather_merged.ensures.ok

pub returns-in-Ok-clause-fits : goal.returns-in-Ok-clause-fits
returns-in-Ok-clause-fits g c =
    let parts = c.args.partials.now in
    let kinds = map kind_of_emit c.args.kinds.now in
    let all = c.in-Ok.all.items in
    let one = c.as_slice-workers.ensures.value in
    let long : length all ≡ length parts = omega (arith, c.in-Ok.ensures.len, c.in-Ok.all.ok.0, ap length one) in
    let each : (w : ℕ) (d : Result Rows AggFault) → w < length parts → IsMerged kinds (get_or parts w []) (get_or all w d) =
    λ w d below. let h = (c.in-Ok.ensures.each w d (omega (arith, below, ap length one))).1.met in
    subst (λ (x : List Rows). IsMerged kinds (get_or x w []) (get_or all w d)) one h in
    IfOk-weaker c.gather_merged.result (λ rows. map Ok rows ≡ all) (λ rows. list_all (merged_fits kinds) parts ≡ true)
    (λ rows is. gathered-fits kinds parts all each long rows is) c.gather_merged.ensures.ok

pub returns-in-Ok-clause-fault : goal.returns-in-Ok-clause-fault
returns-in-Ok-clause-fault g c =
    let parts = c.args.partials.now in
    let kinds = map kind_of_emit c.args.kinds.now in
    let all = c.in-Ok.all.items in
    let one = c.as_slice-workers.ensures.value in
    let long : length all ≡ length parts = omega (arith, c.in-Ok.ensures.len, c.in-Ok.all.ok.0, ap length one) in
    let each : (w : ℕ) (d : Result Rows AggFault) → w < length parts → IsMerged kinds (get_or parts w []) (get_or all w d) =
    λ w d below. let h = (c.in-Ok.ensures.each w d (omega (arith, below, ap length one))).1.met in
    subst (λ (x : List Rows). IsMerged kinds (get_or x w []) (get_or all w d)) one h in
    IfErr-weaker c.gather_merged.result (IsFaultOf all) (λ wrong. Overflows wrong (list_all (merged_fits kinds) parts))
    (λ wrong is. gathered-fault kinds parts all each long wrong is) c.gather_merged.ensures.err
