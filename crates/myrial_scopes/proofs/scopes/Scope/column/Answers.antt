use Rattle.std.proofs.Common.{◌≡◌, ◌∙◌, ◌<◌, ◌≤◌, List, length, get_or, sym, ap, arith}
use Rattle.rel_base.specs.declared.relations.Column.{Column}
use Rattle.myrial_scopes.specs.Scopes.{scoped}
use Rattle.myrial_scopes.proofs.MeaningLemmas.{column_at-own, column_at-behind, length-scope_from-more}
use Rattle.myrial_scopes.proofs.scopes.Scope.column.Goals as goal

pub returns-then-own-len : goal.returns-then-own-len
returns-then-own-len c =
    let items = c.deref-item-items.result.now in
    let i = c.loop-number.number in
    let own = c.loop-number.own in
    let item = c.item-item.result in
    let column = c.get.result.now in
    let within : own < length item.schema = omega (arith, c.if-own-len.true, c.len.ensures) in
    let there : column ≡ get_or item.schema own column =
    c.get.ensures ∙ ap (λ (columns : List Column). get_or columns own column) (ap (λ i. i.schema) c.item.view_is) in
    ap (λ alias. scoped i alias own column) (ap (λ i. i.alias) c.item.view_is)
    ∙ (sym (column_at-own items i item c.loop-number-test.true c.item-item.is own column within there)
    ∙ c.loop-number.invariant.column)

pub loop-number-preserved : goal.loop-number-preserved
loop-number-preserved c =
    let items = c.deref-item-items.result.now in
    let i = c.loop-number.number in
    let own = c.loop-number.own in
    let item = c.item-item.result in
    let past : length item.schema ≤ own = omega (arith, c.if-own-len.false, c.len.ensures) in
    let long = length-scope_from-more items i item c.loop-number-test.true c.item-item.is in
    record {
      column = rw c.len-own.ensures
          (sym (column_at-behind items i item c.loop-number-test.true c.item-item.is own past) ∙ c.loop-number.invariant.column);
      low = omega (arith, long, past, c.len-own.ensures, c.loop-number.invariant.low);
    }
