-- some fields were read, and the others of the record follow
use Rattle.std.proofs.Common.{◌≡◌, [], length}
use denote.Shadow.{shadow}
use denote.Text.{Utf8}
use Rattle.relation_csv.specs.Files.{Record}
use Rattle.relation_csv.specs.inner.PlainLines.{record_from}
use Rattle.relation_csv.proofs.plain.behind_record.Given as goal

abbrev pub invariant-fields : goal.invariant-fields
invariant-fields l = record {
  text : shadow (Utf8 l.left);
  reads : (done : Record) × (record_from [] l.line ≡ record_from done l.left);
}

abbrev pub decreases-fields : goal.decreases-fields
decreases-fields l = length l.left
