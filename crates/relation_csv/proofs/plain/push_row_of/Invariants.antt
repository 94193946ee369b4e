-- the values so far are those that the fields so far write under their columns
use denote.Shadow.{shadow}
use denote.Text.{Utf8}
use Rattle.relation_csv.proofs.PlainLemmas.{HasFields}
use Rattle.relation_csv.proofs.plain.push_row_of.Given as goal

abbrev pub invariant-loop-column : goal.invariant-loop-column
invariant-loop-column l = record {
  text : shadow (Utf8 l.left);
  read : HasFields l.schema l.nth l.line l.left l.more l.row l.column-index;
}
