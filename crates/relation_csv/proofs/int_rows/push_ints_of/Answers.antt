use Rattle.std.proofs.Common.{SFits, ◌≡◌, ◌+◌, ◌<◌, ◌++◌, ◌∷◌, [], List, Ok, ap, length, map, get_or, refl, ◌∙◌, arith, rules}
use Rattle.std.proofs.lemmas.Int.{to_z-of_z}
use Rattle.std.proofs.lemmas.List.{length-map, map_push}
use Rattle.std.specs.Int.{w64}
use Rattle.rel_base.specs.declared.relations.Column.{Column}
use Rattle.rel_base.specs.declared.values.Value.{Value}
use Rattle.rel_base.specs.declared.values.ColType.TheVariants as kind
use Rattle.rel_base.specs.declared.values.Value.TheVariants as value
use Rattle.relation_csv.specs.Fields.{value_of_field}
use Rattle.relation_csv.proofs.PlainLemmas.{BeginsWithRow-all, HasFields-none, HasFields-push, length-row}
use Rattle.relation_csv.proofs.int_rows.push_ints_of.Goals as goal

pub loop-column-init : goal.loop-column-init
loop-column-init c = record {
  text = c.utf8.line;
  read = rw c.clear.ensures.items (HasFields-none c.args.schema.now (length c.args.rows.now + 1) c.args.line.now);
}

pub loop-column-preserved : goal.loop-column-preserved
loop-column-preserved c =
    let schema = c.args.schema.now in
    let items = ap length c.as_slice-column-items.ensures.value in
    let place = c.loop-column._column-index in
    let column = c._column-item.result in
    let nth = length c.args.rows.now + 1 in
    let row : List Value = map value.Int c.loop-column.numbers.items in
    let low : place < length schema = omega arith in
    let at : column ≡ get_or schema place column = rw c.as_slice-column-items.ensures.value at c._column-item.is in
    let is_int : column.kind ≡ kind.Int = ap (λ (c : Column). c.kind) at ∙ c.requires.ints place column low in
    let read = rw c.if-not-more.false at c.loop-column.invariant.read in
    let (field, text, begins, number) = rw c.in-Some.is at c.first_int.ensures in
    let wrote : value_of_field nth (length row + 1) column.kind field ≡ Ok (value.Int c.in-Some.number) = rw (is_int, number) refl in
    let fits : SFits w64 c.in-Some.number = search in
    let pushed : map value.Int c.push.new.self.items ≡ row ++ value.Int c.in-Some.number ∷ [] =
    ap (map value.Int) (c.in_ok-push.ensures.items ∙ ap (λ n. c.loop-column.numbers.items ++ n ∷ []) (to_z-of_z w64 c.in-Some.number fits)) ∙ map_push value.Int c.loop-column.numbers.items c.in-Some.number in
    record {
      text = search rules;
      read = rw pushed (HasFields-push schema nth c.args.line.now c.loop-column.left.now row place read column field c.in-Some.follows c.in-Some.rest.now
          (value.Int c.in-Some.number) (length row + 1) low at refl text begins wrote);
    }

pub of-requires : goal.of-requires
of-requires c =
    let schema = c.args.schema.now in
    let items = ap length c.as_slice-column-items.ensures.value in
    let bound = c.as_slice-column-items.ensures.bound in
    let size = length-row schema (length c.args.rows.now + 1) c.args.line.now _ _ _ _ c.loop-column.invariant.read (omega arith) in
    let same = length-map c.loop-column.numbers.items value.Int in
    let long = ap length c.deref.ensures.value in
    omega (arith, size, same, long, bound, items)

pub returns : goal.returns
returns c =
    let schema = c.args.schema.now in
    let items = ap length c.as_slice-column-items.ensures.value in
    let nth = length c.args.rows.now + 1 in
    let row : List Value = map value.Int c.loop-column.numbers.items in
    let read = rw c.if-more.false at c.loop-column.invariant.read in
    let whole = BeginsWithRow-all schema nth c.args.line.now c.loop-column.left.now row c.loop-column._column-index read (omega arith) (omega (arith, c.requires.few)) in
    (row, c.in_ok-push_made.ensures.ok ∙ ap (λ (r : List Value). c.args.rows.now ++ r ∷ []) (c.of.ensures ∙ ap (map value.Int) c.deref.ensures.value), whole)
