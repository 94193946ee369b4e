use Rattle.std.proofs.Common.{map, sym, ap, ◌∙◌}
use Rattle.myrial_ast.specs.declared.relations.FromItem.{FromItem}
use Rattle.myrial_ast.specs.declared.statements.Stmt.TheVariants as stmt
use Rattle.myrial_ast.specs.Trees.{statement_tree_of}
use Rattle.myrial_parser.specs.Pieces as spec
use Rattle.myrial_parser.proofs.limits.columns_of.Goals as goal

pub returns-in-From : goal.returns-in-From
returns-in-From c =
    c.widest_item.ensures ∙ ap (λ n. spec.widest n (map (λ (item : FromItem). item.source) c.in-From.items)) c.emitted.ensures
    ∙ sym (ap (λ r. spec.columns_of (statement_tree_of (stmt.Assign c.in-Assign.field-0 r))) c.in-From.is) ∙ sym (ap (λ s. spec.columns_of (statement_tree_of s)) c.in-Assign.is)
