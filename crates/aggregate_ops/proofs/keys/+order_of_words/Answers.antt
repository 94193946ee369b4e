use Rattle.std.proofs.Common.{◌≡◌, ℕ, subst, Equal}
use Rattle.rel_base.specs.Values.{row_order}
use Rattle.packed_rows.specs.Unpacked.{unpacked_row}
use Rattle.packed_rows.proofs.StepLemmas.{even}
use Rattle.aggregate_ops.specs.Columns.{key_at}
use Rattle.aggregate_ops.proofs.keys.+order_of_words.Goals as goal

-- equal words have equal rows
pub returns-then-word-other : goal.returns-then-word-other
returns-then-word-other t c =
    let key = λ (word : ℕ). key_at c.args.places.now (unpacked_row c.args.columns.now word) in
    subst (λ (other : ℕ). Equal ≡ row_order (key c.args.word) (key other)) c.if-word-other.true (even (key c.args.word))
