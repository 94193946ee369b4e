use Rattle.std.proofs.Common.{ap, sym, ◌∙◌, arith}
use Rattle.std.proofs.lemmas.Grind.{common_steps}
use Rattle.std.specs.Borrow.{Bor}
use Rattle.rel_base.specs.declared.rows.Rows.{Rows}
use Rattle.word_table.proofs.UnlikeLemmas.{part_at, rows_tied}
use Rattle.word_table.proofs.unlike.UnlikeParts.place_of.Goals as goal

pub returns-then-eq-2-clause-rows : goal.returns-then-eq-2-clause-rows
returns-then-eq-2-clause-rows c =
    part_at c.args.self.now.parts.items c.loop-place.place c.index.result.now (omega arith)
    ∙ sym (ap (λ (rows : Bor Rows). rows.now) c.index.ensures)
    ∙ rows_tied c.index.result.now.now c.args.rows.now (sym c.eq-then-eq.ensures ∙ c.if-eq-2.true)

pub returns-then-eq-2-clause-within : goal.returns-then-eq-2-clause-within
returns-then-eq-2-clause-within c = grind (arith, common_steps)
