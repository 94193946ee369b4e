-- the rows so far are those of the records that are no longer left
use Rattle.std.proofs.Common.{◌≡◌, [], length, All, IsTrue}
use denote.Shadow.{shadow}
use denote.Text.{Utf8}
use Rattle.rel_base.specs.declared.relations.Column.{Column}
use Rattle.rel_base.specs.declared.values.ColType.TheVariants as kind
use Rattle.csv.specs.declared.parser.State.TheVariants as state
use Rattle.relation_csv.specs.inner.RecordsLeft.{records_after}
use Rattle.relation_csv.proofs.RowsLemmas.{HasRows}
use Rattle.relation_csv.proofs.plain.rows_of_lines.Given as goal

abbrev pub invariant-rows : goal.invariant-rows
invariant-rows l = record {
  text : shadow (Utf8 l.left);
  empty : l.room.row ≡ [];
  ints : IsTrue l.room.are_ints → All (λ (c : Column). c.kind ≡ kind.Int) l.schema;
  read : HasRows l.schema (records_after state.StartRecord l.text) (records_after state.StartRecord l.left) l.rows;
}

abbrev pub decreases-rows : goal.decreases-rows
decreases-rows l = length l.left
