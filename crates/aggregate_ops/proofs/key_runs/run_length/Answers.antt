use Rattle.std.proofs.Common.{[], get_or, refl, arith, below_more, rules}
use Rattle.std.proofs.lemmas.List.{length-map}
use Rattle.aggregate_ops.specs.Columns.{key_at}
use Rattle.aggregate_ops.specs.inner.Reading.{rows_of}
use Rattle.aggregate_ops.proofs.StepLemmas.{key-same, key-other}
use Rattle.aggregate_ops.proofs.key_runs.run_length.Goals as goal

pub loop-count-preserved : goal.loop-count-preserved
loop-count-preserved c =
    let rows = rows_of c.args.rows in
    let count = c.loop-count.count in (
      omega arith,
      omega arith,
      below_more _ _ c.loop-count.invariant.2
          (key-same c.args.places.now rows count (get_or rows 0 []) (get_or rows count []) (omega arith) c.requires refl refl (search rules)),
    )

pub returns-else-is_eq : goal.returns-else-is_eq
returns-else-is_eq c =
    let rows = rows_of c.args.rows in
    let count = c.loop-count.count in record {
      some = c.loop-count.invariant.0;
      within = omega (arith, length-map rows (key_at c.args.places.now));
      same = c.loop-count.invariant.2;
      next = λ low. key-other c.args.places.now rows count (get_or rows 0 []) (get_or rows count []) (omega arith) c.requires refl refl (search rules);
    }
