-- the numbers so far are those that the fields so far write
use Rattle.std.proofs.Common.{◌+◌, length, map}
use denote.Shadow.{shadow}
use denote.Text.{Utf8}
use Rattle.rel_base.specs.declared.values.Value.TheVariants as value
use Rattle.relation_csv.proofs.PlainLemmas.{HasFields}
use Rattle.relation_csv.proofs.int_rows.push_ints_of.Given as goal

abbrev pub invariant-loop-column : goal.invariant-loop-column
invariant-loop-column l = record {
  text : shadow (Utf8 l.left);
  read : HasFields l.schema (length l.rows + 1) l.line l.left l.more (map value.Int l.numbers.items) l._column-index;
}
