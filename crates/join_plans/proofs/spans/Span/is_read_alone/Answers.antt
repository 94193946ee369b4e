use Rattle.std.proofs.Common.{ℕ, not, ap, sym, ◌∙◌}
use Rattle.std.specs.Prelude.{◌==◌}
use Rattle.myrial_ast.specs.ScalarTrees.{scalar_tree_of}
use Rattle.join_plans.proofs.SpanLemmas.{moved-columns}
use Rattle.join_plans.proofs.spans.Span.is_read_alone.Goals as goal

pub returns-then-reads_a_column : goal.returns-then-reads_a_column
returns-then-reads_a_column c =
    let reads = ap (λ (n : ℕ). not (n == 0)) (moved-columns c.args.start (scalar_tree_of c.args.scalar.now))
    ∙ sym c.reads_a_column.ensures ∙ c.if-reads_a_column.true in
    rw reads (c.has_all_of.ensures)

pub returns-else-reads_a_column : goal.returns-else-reads_a_column
returns-else-reads_a_column c =
    let reads = ap (λ (n : ℕ). not (n == 0)) (moved-columns c.args.start (scalar_tree_of c.args.scalar.now))
    ∙ sym c.reads_a_column.ensures ∙ c.if-reads_a_column.false in
    rw reads c.if-reads_a_column.false
