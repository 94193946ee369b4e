use Rattle.std.proofs.Common.{◌≡◌, ◌+◌, ◌<◌, ap, length, get_or, arith, rules}
use Rattle.relation_csv.proofs.PlainLemmas.{BeginsWithRow-all, HasFields-none, HasFields-push, length-row}
use Rattle.relation_csv.proofs.plain.push_row_of.Goals as goal

pub loop-column-init : goal.loop-column-init
loop-column-init c = record {
  text = c.utf8.line;
  read = rw c.requires.empty (HasFields-none c.args.schema.now (c.len-nth.result + 1) c.args.line.now);
}

pub overflow_add-len : goal.overflow_add-len
overflow_add-len c =
    let schema = c.args.schema.now in
    let items = ap length c.as_slice-column-items.ensures.value in
    let size = length-row schema (c.len-nth.result + 1) c.args.line.now _ _ _ _ c.loop-column.invariant.read (omega arith) in
    let bound = c.as_slice-column-items.ensures.bound in
    omega arith

pub push-requires : goal.push-requires
push-requires c =
    let schema = c.args.schema.now in
    let items = ap length c.as_slice-column-items.ensures.value in
    let size = length-row schema (c.len-nth.result + 1) c.args.line.now _ _ _ _ c.loop-column.invariant.read (omega arith) in
    let bound = c.as_slice-column-items.ensures.bound in
    omega arith

pub loop-column-preserved : goal.loop-column-preserved
loop-column-preserved c =
    let schema = c.args.schema.now in
    let items = ap length c.as_slice-column-items.ensures.value in
    let low : c.loop-column.column-index < length schema = omega arith in
    let at : c.column-item.result ≡ get_or schema c.loop-column.column-index c.column-item.result =
    rw c.as_slice-column-items.ensures.value at c.column-item.is in
    let read = rw c.if-not-more.false at c.loop-column.invariant.read in
    let (field, text, begins, value) = rw c.in-Some.is at c.in_ok-read.ensures in
    record {
      text = search rules;
      read = rw c.in_ok-push.ensures.ok
          (HasFields-push schema (c.len-nth.result + 1) c.args.line.now c.loop-column.left.now c.loop-column.row
          c.loop-column.column-index read c.column-item.result field c.in-Some.follows c.in-Some.rest.now
          c.in-Some.value (c.len.result + 1) low at (omega arith) text begins value);
    }

pub returns-clause-row : goal.returns-clause-row
returns-clause-row c =
    let schema = c.args.schema.now in
    let items = ap length c.as_slice-column-items.ensures.value in
    let read = rw c.if-more.false at c.loop-column.invariant.read in
    let whole = BeginsWithRow-all schema (c.len-nth.result + 1) c.args.line.now c.loop-column.left.now c.loop-column.row
    c.loop-column.column-index read (omega arith) (omega (arith, c.requires.few, c.len-nth.ensures)) in
    (c.loop-column.row, c.in_ok-push_from.ensures.ok, rw c.len-nth.ensures at whole)
