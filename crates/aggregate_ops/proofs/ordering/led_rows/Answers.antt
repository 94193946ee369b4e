use Rattle.std.proofs.Common.{◌≡◌, ◌∷◌, [], ◌++◌, map, append_assoc, arith}
use Rattle.std.proofs.lemmas.Grind.{common_steps}
use Rattle.std.proofs.lemmas.List.{map-append}
use Rattle.std.proofs.lemmas.List.Elements.{All-append}
use Rattle.rel_base.specs.Beginnings.{BeginsWith}
use Rattle.rel_base.proofs.SortLemmas.{All-one}
use Rattle.aggregate_ops.proofs.ordering.led_rows.Goals as goal

pub loop-row-preserved : goal.loop-row-preserved
loop-row-preserved c =
    let rows = c.args.rows.now in
    let pairs = c.loop-row.led.items in
    let done = map (λ e. e.2.now) pairs in
    let row = c.in-Some.row.now in
    let left = c.next.new.self in
    let item = c.led_row-item.result in
    let whole : done ++ (row ∷ left) ≡ rows = rw c.in-Some.ensures.steps at c.loop-row.invariant.2 in (
      tt,
      tt,
      rw (c.in_ok-push.ensures.items, map-append, append_assoc, c.led_row-item.ensures.row) whole,
      rw c.in_ok-push.ensures.items (All-append (λ e. BeginsWith e.2.now e.0 e.1) pairs (item ∷ []) c.loop-row.invariant.3
          (All-one (λ e. BeginsWith e.2.now e.0 e.1) item (rw c.led_row-item.ensures.row c.led_row-item.ensures.leading))),
    )

pub returns-clause-rows : goal.returns-clause-rows
returns-clause-rows c = grind (arith, common_steps)

pub returns-clause-leading : goal.returns-clause-leading
returns-clause-leading c = grind (arith, common_steps)

pub loop-row-init : goal.loop-row-init
loop-row-init c = grind (arith, common_steps)
