use Rattle.std.proofs.Common.{◌+◌, List, [], ◌∷◌, length-append, sym, subst, arith}
use Rattle.std.proofs.lemmas.List.Elements.{All-nil, All-cons, All-append}
use Rattle.myrial_ast.specs.Combinations.{Rows}
use Rattle.algebra.specs.ShapeConditions.{HasKinds}
use Rattle.shuffle_tests.specs.inner.Numbers.{number_kinds, AreNumbers}
use Rattle.shuffle_tests.proofs.numbers.dealt.Goals as goal

pub loop-worker-preserved : goal.loop-worker-preserved
loop-worker-preserved c =
    let spread : List Rows = c.loop-worker.spread in
    let rows : Rows = c.in_ok-dealt_to.field-0 in
    subst (AreNumbers (c.loop-worker.worker + 1)) (sym c.in_ok-push.ensures.ok) (
      omega (arith, length-append spread (rows ∷ []), c.loop-worker.invariant.0),
      All-append (HasKinds number_kinds) spread (rows ∷ []) c.loop-worker.invariant.1
          (All-cons (HasKinds number_kinds) rows [] c.in_ok-dealt_to.ensures (All-nil (HasKinds number_kinds))),
    )
