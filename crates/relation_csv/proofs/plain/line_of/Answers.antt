use Rattle.std.proofs.Common.{◌≡◌, ◌<◌, ◌∙◌, get_or, length, arith}
use Rattle.std.proofs.lemmas.Bool.Decides.{nat_tests}
use Rattle.std.proofs.lemmas.Str.{IsCharBoundary-after_ascii}
use Rattle.relation_csv.proofs.PlainLemmas.{IsLine-from_first, records_after-first_line_feed}
use Rattle.relation_csv.proofs.plain.line_of.Goals as goal

pub range_from-left-requires : goal.range_from-left-requires
range_from-left-requires c = λ _.
    let feed : get_or c.lines.left.now 0 0 ≡ 10 = cc in
    let some : 0 < length c.lines.left.now = grind (arith, nat_tests) in
    IsCharBoundary-after_ascii c.lines.left.now 0 c.lines.invariant.text some (omega arith)

pub lines-preserved : goal.lines-preserved
lines-preserved c =
    let feed : get_or c.lines.left.now 0 0 ≡ 10 = cc in
    let some : 0 < length c.lines.left.now = grind (arith, nat_tests) in
    record {
      text = c.range_from-left.utf8;
      same = c.lines.invariant.same
          ∙ records_after-first_line_feed c.lines.left.now _ some feed c.range_from-left.ensures.value;
      bound = omega (arith, c.range_from-left.ensures.len, c.lines.invariant.bound);
    }

pub returns-then-first-ne10-clause-line : goal.returns-then-first-ne10-clause-line
returns-then-first-ne10-clause-line c =
    IsLine-from_first c.lines.left.now (rw c.as_bytes.ensures.value at c.if-first-eq13.false)
    (rw c.as_bytes.ensures.value at c.if-first-ne10.true)
