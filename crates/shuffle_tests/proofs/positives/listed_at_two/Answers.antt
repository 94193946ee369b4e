use Rattle.std.proofs.Common.{◌≡◌, ◌∙◌, ◌++◌, [], ◌∷◌, ap}
use Rattle.algebra.specs.ShapeTrees.{shape_tree_of}
use Rattle.shuffle_tests.proofs.PositiveLemmas.{positives-kept, positives-ready}
use Rattle.shuffle_tests.proofs.positives.listed_at_two.Goals as goal

pub keep_rows-requires-clause-pushed : goal.keep_rows-requires-clause-pushed
keep_rows-requires-clause-pushed g c = positives-kept (shape_tree_of c.in_ok-shape.shape) c.in_ok-shape.ensures

pub list_alone-requires-clause-ready : goal.list_alone-requires-clause-ready
list_alone-requires-clause-ready g c κs within =
    let only : c.push.new.self ≡ c.in_ok-dealt.field-0 ∷ [] = c.in_ok-push.ensures.ok ∙ ap (λ l. l ++ c.in_ok-dealt.field-0 ∷ []) c.new-parts.ensures in
    (positives-ready (shape_tree_of c.in_ok-shape.shape) c.push.new.self c.in_ok-kept.kept c.in_ok-dealt.field-0 c.get.result.now c.in_ok-shape.ensures only
    c.in_ok-dealt.ensures c.in_ok-kept.ensures c.get.ensures).1
