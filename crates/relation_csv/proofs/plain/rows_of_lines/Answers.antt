use Rattle.std.proofs.Common.{◌≡◌, ◌∙◌, ◌+◌, ◌<◌, length, refl, arith, rules}
use Rattle.std.proofs.lemmas.Bool.Decides.{nat_tests}
use Rattle.csv.specs.declared.parser.State.TheVariants as state
use Rattle.relation_csv.specs.inner.RecordsLeft.{records_after}
use Rattle.relation_csv.proofs.PlainLemmas.{length-behind_line, records_after-line, records_after-nothing}
use Rattle.relation_csv.proofs.RowsLemmas.{HasRows-push, rows_of_records-all}
use Rattle.relation_csv.proofs.plain.rows_of_lines.Goals as goal

pub returns-then-is_empty : goal.returns-then-is_empty
returns-then-is_empty c =
    let empty : length c.in-Some.line.now ≡ 0 = grind (arith, nat_tests) in
    rw c.freeze.ensures (rows_of_records-all c.args.schema.now _ _ c.rows.rows c.rows.invariant.read
    (c.in-Some.ensures.same ∙ records_after-nothing c.in-Some.line.now empty))

pub rows-smaller : goal.rows-smaller
rows-smaller c =
    let some : 0 < length c.in-Some.line.now = grind (arith, nat_tests) in
    let (row, added, (fields, reads, made)) = rw c.in-Some-2.is at c.in_ok-rest.ensures.row in
    let shorter = length-behind_line c.in-Some.line.now fields c.in-Some-2.rest.now some reads in
    let bound = c.in-Some.ensures.bound in
    omega arith

pub rows-preserved : goal.rows-preserved
rows-preserved c =
    let some : 0 < length c.in-Some.line.now = grind (arith, nat_tests) in
    let nth = length c.rows.rows + 1 in
    let (row, added, (fields, reads, made)) = rw c.in-Some-2.is at c.in_ok-rest.ensures.row in
    let next = records_after-line c.in-Some.line.now fields c.in-Some-2.rest.now c.in-Some.ensures.line some reads in
    record {
      text = search rules;
      empty = search rules;
      ints = rw c.push_next.ensures.ints c.rows.invariant.ints;
      read = rw added (HasRows-push c.args.schema.now _ (records_after state.StartRecord c.rows.left.now)
          c.rows.rows c.rows.invariant.read fields _ row nth (c.in-Some.ensures.same ∙ next) refl (omega (arith, c.len.ensures)) made);
    }
