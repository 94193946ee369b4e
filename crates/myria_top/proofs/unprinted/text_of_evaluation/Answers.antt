use Rattle.std.proofs.Common.{◌∙◌, ap, List, ℕ, ◌++◌}
use Rattle.std.specs.List.{flat_map}
use Rattle.myrial_ast.specs.Trees.{trees_of}
use Rattle.output_texts.specs.OutputText.{relation_lines}
use Rattle.myria_top.proofs.CheckedLemmas.{evaluated-prints, evaluated-refuses}
use Rattle.myria_top.proofs.VerdictLemmas.{meets_step}
use Rattle.myria_top.proofs.unprinted.text_of_evaluation.Goals as goal

pub returns-clause-agrees : goal.returns-clause-agrees
returns-clause-agrees c =
    meets_step _ _
    (evaluated-prints (trees_of c.args.script.now) c.args.files c.in-Ok.stored _ c.sorted_lines_are_the_text.ensures
    c.in-Ok.ensures.no_fault c.in-Ok.ensures.stored
    (c.in_ok-add_relations.ensures ∙ ap (λ (text : List ℕ). text ++ flat_map relation_lines c.in-Ok.stored) c.new-text.ensures))

pub returns-in-Err-clause-agrees : goal.returns-in-Err-clause-agrees
returns-in-Err-clause-agrees c =
    evaluated-refuses (trees_of c.args.script.now) c.args.files c.in-Err.fault c.from.result c.from.ensures c.in-Err.ensures.fault
