-- The columns of atoms in the combined row.
--
--   span_of span       the span that a struct holds
--   most_shift         no atom of a join begins behind this column
use Rattle.std.specs.Prelude.{ℕ, ◌*◌}
use Rattle.rel_base.specs.Limits.{most_items}
use Rattle.myrial_ast.specs.KeptRows as kept
use Rattle.join_plans.specs.declared.spans.Span.{Span}

-- the columns from one on and before another
abbrev pub span_of : Span → kept.Span
span_of s = record { from = s.from; to = s.to }

-- no atom begins behind this column: there are at most eight, of fewer than 2^32 columns each
abbrev pub most_shift : ℕ
most_shift = most_items * 4294967295
