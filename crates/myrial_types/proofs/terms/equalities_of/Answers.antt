use Rattle.std.proofs.Common.{◌∙◌, ◌++◌, ◌∷◌, [], take, map, ap, sym}
use Rattle.std.proofs.lemmas.List.{append-nil}
use Rattle.std.specs.List.{cons_option}
use Rattle.myrial_ast.specs.Classes.{equalities}
use Rattle.myrial_ast.specs.ScalarTrees.{scalar_tree_of}
use Rattle.myrial_types.proofs.TermLemmas.{equalities-more}
use Rattle.myrial_types.proofs.terms.equalities_of.Goals as goal
use Rattle.myrial_types.proofs.terms.equalities_of.Goals.{in-Some+in_ok-push, in_default}

pub loop-conjunct-preserved : goal.loop-conjunct-preserved
loop-conjunct-preserved c =
    let conjuncts = c.as_slice-conjunct-items.result.now in
    let i = c.loop-conjunct.conjunct-index in
    let so_far = equalities (map scalar_tree_of (take i conjuncts)) in
    let more = equalities-more conjuncts i c.conjunct-item.result c.loop-conjunct-test.true c.conjunct-item.is in
    elim c.match-equality_of.branch [
      | in-Some+in_ok-push w ↦
          ap (λ v. v.items) w.found-is
          ∙ (w.in_ok-push.ensures.items
          ∙ (ap (λ found. found ++ w.in-Some.pair ∷ []) c.loop-conjunct.invariant
          ∙ sym (more ∙ ap (λ o. so_far ++ cons_option o []) (sym w.in-Some.ensures))))
      | in_default w ↦
          ap (λ v. v.items) w.found-is
          ∙ (c.loop-conjunct.invariant ∙ sym (more ∙ (ap (λ o. so_far ++ cons_option o []) (sym c.equality_of.ensures ∙ w.in_default.is) ∙ append-nil so_far)))
    ]
