use Rattle.std.proofs.Common.{◌≡◌, ◌∙◌, ◌++◌, arith, rules, sym, ap, append-nil, subst}
use Rattle.std.proofs.lemmas.Grind.{common_steps}
use Rattle.std.proofs.lemmas.List.{map-append}
use Rattle.std.specs.Prelude.{IsSorted}
use Rattle.rel_base.specs.Values.{row_order}
use Rattle.collector.specs.inner.Sorted.{rows_at}
use Rattle.collector.proofs.SortingLemmas.{in_order_as_rows}
use Rattle.collector.proofs.runs.Run.rows.Goals as goal
use Rattle.collector.proofs.runs.Run.rows.Goals.{In_ok-extend_from_slice}

pub loop-row-preserved : goal.loop-row-preserved
loop-row-preserved c = grind (arith, common_steps)

-- all rows are referred to
all : (c : In_ok-extend_from_slice) → rows_at c.extend_from_slice.new.self.items ≡ c.self.inside.view ++ rows_at c.self.inside.listed.now
all c =
    let shown : rows_at c.loop-row.rows.items ≡ c.self.inside.view =
    sym (append-nil (rows_at c.loop-row.rows.items)) ∙ ap (λ left. rows_at c.loop-row.rows.items ++ left) (sym c.in-None.ensures.steps.0) ∙ c.loop-row.invariant.2 in
    ap rows_at c.in_ok-extend_from_slice.ensures.items ∙ map-append (λ row. row.now) c.loop-row.rows.items c.self.inside.listed.now
    ∙ ap (λ rows. rows ++ rows_at c.self.inside.listed.now) shown

pub returns-clause-rows : goal.returns-clause-rows
returns-clause-rows c = all (goal.at.returns-clause-rows c).In_ok-extend_from_slice ∙ c.self.view_is

pub returns-clause-ascending : goal.returns-clause-ascending
returns-clause-ascending c =
    let here = (goal.at.returns-clause-ascending c).In_ok-extend_from_slice in
    record {
      in_order = in_order_as_rows c.extend_from_slice.new.self.items (subst (IsSorted row_order) (sym (all here)) c.self.invariant);
      long = search rules;
    }
