use Rattle.std.proofs.Common.{◌∙◌, [], ◌∷◌, List, length, ap, arith}
use Rattle.std.proofs.lemmas.List.{get_or_default}
use Rattle.myrial_ast.specs.Combinations.{Rows}
use Rattle.algebra.specs.ShapeTrees.{shape_tree_of}
use Rattle.placement.specs.Layouts.{together}
use Rattle.shuffle_tests.proofs.NumberLemmas.{numbers-stay}
use Rattle.shuffle_tests.proofs.numbers.choice_for.Goals as goal

pub returns-clause-stays : goal.returns-clause-stays
returns-clause-stays c =
    let parts = c.args.join.now.parts.now in
    let first =
    c.rows_in.ensures ∙ ap (λ (spread : List Rows). length (together spread))
    (c.get.ensures ∙ get_or_default parts 0 c.get.result.now [] (omega (arith, c.requires.two))) in
    let second =
    c.rows_in-2.ensures ∙ ap (λ (spread : List Rows). length (together spread))
    (c.get-2.ensures ∙ get_or_default parts 1 c.get-2.result.now [] (omega (arith, c.requires.two))) in
    numbers-stay (shape_tree_of c.args.join.now.shape.now) parts (c.rows_in.result ∷ c.rows_in-2.result ∷ []) c.in_ok-choice.choice
    c.requires.numbers c.requires.two (λ i. first i ∷ second i ∷ []) c.in_ok-choice.ensures.choice.stays
