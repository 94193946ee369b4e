-- the records that are still to be passed over lie in front of what is left
use Rattle.std.proofs.Common.{◌≡◌, ◌-◌, drop}
use denote.Shadow.{shadow}
use denote.Text.{Utf8}
use Rattle.csv.specs.declared.parser.State.TheVariants as state
use Rattle.relation_csv.specs.inner.RecordsLeft.{records_after}
use Rattle.relation_csv.proofs.plain.behind_records.Given as goal

abbrev pub invariant-records : goal.invariant-records
invariant-records l = record {
  text : shadow (Utf8 l.left);
  left : drop l.count (records_after state.StartRecord l.text)
      ≡ drop (l.count - l.counter) (records_after state.StartRecord l.left);
}
