use Rattle.std.proofs.Common.{◌≡◌, ◌<◌, All, ap, length, get_or, take, subst, arith, rules}
use Rattle.std.proofs.lemmas.List.{take_more, take_all}
use Rattle.std.proofs.lemmas.List.Elements.{All-push}
use Rattle.rel_base.specs.declared.relations.Column.{Column}
use Rattle.rel_base.specs.declared.values.ColType.TheVariants as kind
use Rattle.relation_csv.proofs.int_rows.are_ints.Goals as goal

pub loop-column-preserved : goal.loop-column-preserved
loop-column-preserved c =
    let schema = c.args.schema.now in
    let items = ap length c.as_slice-column-items.ensures.value in
    let low : c.loop-column.column-index < length schema = omega arith in
    let at : c.column-item.result ≡ get_or schema c.loop-column.column-index c.column-item.result =
    rw c.as_slice-column-items.ensures.value at c.column-item.is in
    let here : c.column-item.result.kind ≡ kind.Int = search rules in
    let own : (get_or schema c.loop-column.column-index c.column-item.result).kind ≡ kind.Int = rw (← at) here in
    rw (take_more schema c.loop-column.column-index c.column-item.result low)
    (All-push (λ (c : Column). c.kind ≡ kind.Int) (take c.loop-column.column-index schema) (get_or schema c.loop-column.column-index c.column-item.result) c.loop-column.invariant own)

pub returns : goal.returns
returns c told =
    let schema = c.args.schema.now in
    let items = ap length c.as_slice-column-items.ensures.value in
    subst (All (λ (c : Column). c.kind ≡ kind.Int)) (take_all c.loop-column.column-index schema (omega arith)) c.loop-column.invariant
