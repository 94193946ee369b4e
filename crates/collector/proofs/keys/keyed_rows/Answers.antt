use Rattle.std.proofs.Common.{◌≡◌, ◌∷◌, [], ◌++◌, map, append_assoc}
use Rattle.std.proofs.lemmas.List.{map-append}
use Rattle.std.proofs.lemmas.List.Elements.{All-append}
use Rattle.rel_base.specs.Beginnings.{BeginsWith}
use Rattle.rel_base.proofs.SortLemmas.{All-one}
use Rattle.collector.proofs.keys.keyed_rows.Goals as goal

pub loop-row-preserved : goal.loop-row-preserved
loop-row-preserved c =
    let pairs = c.loop-row.keyed.items in
    let row = c.in-Some.row.now in
    let left = c.next.new.self in
    let item = c.led_row.result in
    let done = map (λ e. e.2.now) pairs in
    let whole : done ++ (row ∷ left) ≡ c.args.part.now = rw c.in-Some.ensures.steps at c.loop-row.invariant.2 in (
      tt,
      tt,
      rw (c.in_ok-push.ensures.items, map-append, append_assoc, c.led_row.ensures.row) whole,
      rw c.in_ok-push.ensures.items (All-append (λ e. BeginsWith e.2.now e.0 e.1) pairs (item ∷ []) c.loop-row.invariant.3
          (All-one (λ e. BeginsWith e.2.now e.0 e.1) item (rw c.led_row.ensures.row c.led_row.ensures.leading))),
    )
