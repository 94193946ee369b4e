use Rattle.std.proofs.Common.{◌≡◌, ℕ, subst, Equal, arith}
use Rattle.std.proofs.lemmas.Grind.{common_steps}
use Rattle.rel_base.specs.Values.{row_order}
use Rattle.packed_rows.specs.Unpacked.{unpacked_row}
use Rattle.packed_rows.proofs.StepLemmas.{even}
use Rattle.packed_rows.proofs.word_runs.word_order.Goals as goal

-- equal words have equal rows
pub returns-then-word-other : goal.returns-then-word-other
returns-then-word-other c =
    let row = unpacked_row c.args.columns.now in
    subst (λ (other : ℕ). Equal ≡ row_order (row c.args.word) (row other)) c.if-word-other.true (even (row c.args.word))

pub loop-column-preserved : goal.loop-column-preserved
loop-column-preserved c = grind (arith, common_steps)

pub returns-then-is_ne : goal.returns-then-is_ne
returns-then-is_ne c = grind (arith, common_steps)
