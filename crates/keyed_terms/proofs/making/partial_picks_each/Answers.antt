use Rattle.std.proofs.Common.{◌≡◌, ◌<◌, ◌^◌, true, ℕ, List, [], length, map, get_or, Result, Ok, ap, subst, arith}
use Rattle.std.specs.List.{list_all}
use Rattle.std.proofs.lemmas.Result.{IfOk-weaker}
use Rattle.rel_base.specs.declared.failure.Memory.{Memory}
use Rattle.myrial_ast.specs.CandidateFaults.{all_fit}
use Rattle.myrial_ast.specs.Combinations.{Rows}
use Rattle.myrial_ast.specs.Partials.{partial_rows}
use Rattle.myrial_ast.specs.ScalarTrees.{scalar_tree_of}
use Rattle.algebra.specs.Trees.{kind_of_emit}
use Rattle.placement.specs.Layouts.{together}
use Rattle.keyed_terms.specs.KeyedTerms.{emitted_parts}
use Rattle.keyed_terms.specs.inner.Making.{AreMadeBy, IsPicked}
use Rattle.keyed_terms.proofs.MakingLemmas.{gathered-made, picked-rows, picked-few, picked-fits}
use Rattle.keyed_terms.proofs.making.partial_picks_each.Goals as goal

pub returns-clause-rows : goal.returns-clause-rows
returns-clause-rows g c =
    let parts = c.args.parts.now in
    let picks = map scalar_tree_of c.args.picks.now in
    let kinds = map kind_of_emit c.args.kinds.now in
    let all = c.in_ok-all.all.items in
    let one = c.as_slice-workers.ensures.value in
    let long : length all ≡ length parts = omega (arith, c.in_ok-all.ensures.len, c.in_ok-all.all.ok.0, ap length one) in
    let each : (w : ℕ) (d : Result Rows Memory) → w < length parts → IsPicked kinds picks (get_or parts w []) (get_or all w d) =
    λ w d below. let h = (c.in_ok-all.ensures.each w d (omega (arith, below, ap length one))).1.met in
    subst (λ (x : List Rows). IsPicked kinds picks (get_or x w []) (get_or all w d)) one h in
    let made : ℕ → Rows = λ w. partial_rows kinds (get_or (emitted_parts picks parts) w []) in
    IfOk-weaker c.gather.result (λ rows. map Ok rows ≡ all) (AreMadeBy (length parts) made)
    (λ rows is. gathered-made (length parts) made all rows long (picked-rows kinds picks parts all each long) is) c.gather.ensures

pub returns-clause-few : goal.returns-clause-few
returns-clause-few g c =
    let parts = c.args.parts.now in
    let picks = map scalar_tree_of c.args.picks.now in
    let kinds = map kind_of_emit c.args.kinds.now in
    let all = c.in_ok-all.all.items in
    let one = c.as_slice-workers.ensures.value in
    let long : length all ≡ length parts = omega (arith, c.in_ok-all.ensures.len, c.in_ok-all.all.ok.0, ap length one) in
    let each : (w : ℕ) (d : Result Rows Memory) → w < length parts → IsPicked kinds picks (get_or parts w []) (get_or all w d) =
    λ w d below. let h = (c.in_ok-all.ensures.each w d (omega (arith, below, ap length one))).1.met in
    subst (λ (x : List Rows). IsPicked kinds picks (get_or x w []) (get_or all w d)) one h in
    IfOk-weaker c.gather.result (λ rows. map Ok rows ≡ all) (λ rows. length (together (emitted_parts picks parts)) < 2 ^ 63)
    (λ rows is. picked-few kinds picks parts all each long c.requires.workers) c.gather.ensures

pub returns-clause-fits : goal.returns-clause-fits
returns-clause-fits g c =
    let parts = c.args.parts.now in
    let picks = map scalar_tree_of c.args.picks.now in
    let kinds = map kind_of_emit c.args.kinds.now in
    let all = c.in_ok-all.all.items in
    let one = c.as_slice-workers.ensures.value in
    let long : length all ≡ length parts = omega (arith, c.in_ok-all.ensures.len, c.in_ok-all.all.ok.0, ap length one) in
    let each : (w : ℕ) (d : Result Rows Memory) → w < length parts → IsPicked kinds picks (get_or parts w []) (get_or all w d) =
    λ w d below. let h = (c.in_ok-all.ensures.each w d (omega (arith, below, ap length one))).1.met in
    subst (λ (x : List Rows). IsPicked kinds picks (get_or x w []) (get_or all w d)) one h in
    IfOk-weaker c.gather.result (λ rows. map Ok rows ≡ all) (λ rows. list_all (all_fit picks) (together parts) ≡ true)
    (λ rows is. picked-fits kinds picks parts all each long rows is) c.gather.ensures
