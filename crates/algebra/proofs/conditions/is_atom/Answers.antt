use Rattle.std.proofs.Common.{◌≡◌, ◌∙◌, true, length, map, sym, ap, arith}
use Rattle.std.specs.Prelude.{◌&&◌, nat_lt}
use Rattle.std.specs.List.{list_all}
use Rattle.std.proofs.lemmas.Bool.{lt-ltb}
use Rattle.std.proofs.lemmas.List.Folds.{list_all-map}
use Rattle.myrial_ast.specs.ScalarTrees.{scalar_tree_of}
use Rattle.algebra.specs.ShapeConditions.{is_plain_test}
use Rattle.algebra.proofs.conditions.is_atom.Goals as goal

pub returns-then-len-gt0 : goal.returns-then-len-gt0
returns-then-len-gt0 c =
    let kinds = c.args.atom.now.kinds in
    let keeps = c.args.atom.now.keeps in
    let some : nat_lt 0 (length kinds) ≡ true = lt-ltb 0 (length kinds) (omega (arith, c.if-len-gt0.true, c.len.ensures)) in
    c.are_plain_tests.ensures ∙ ap (λ ks. list_all (λ e. is_plain_test ks (scalar_tree_of e)) keeps) c.as_slice.ensures.value
    ∙ sym (list_all-map (is_plain_test kinds) scalar_tree_of keeps)
    ∙ ap (λ b. b && list_all (is_plain_test kinds) (map scalar_tree_of keeps)) (sym some)
