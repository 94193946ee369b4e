use Rattle.std.proofs.Common.{◌≡◌, ◌∙◌, ◌<◌, ◌^◌, ◌∷◌, [], ◌++◌, length, map, sym, ap, arith, rules, append_assoc, length-append}
use Rattle.std.proofs.lemmas.List.{length-map, map-append}
use Rattle.std.proofs.lemmas.List.Elements.{All-append}
use Rattle.rel_base.specs.Picks.{items_at}
use Rattle.rel_base.specs.Beginnings.{BeginsWith}
use Rattle.rel_base.proofs.SortLemmas.{All-one, item_behind}
use Rattle.rel_base.proofs.rows.numbered_rows.Goals as goal

pub loop-row-preserved : goal.loop-row-preserved
loop-row-preserved c =
    let rows = c.args.rows.now in
    let pairs = c.loop-row.numbered.items in
    let done = map (λ e. e.2.now) pairs in
    let row = c.in-Some.row.now in
    let left = c.next.new.self in
    let number = c.len-in-loop-row.result in
    let item = c.numbered_row-item.result in
    let whole : done ++ (row ∷ left) ≡ rows = rw c.in-Some.ensures.steps at c.loop-row.invariant.2 in
    let count : number ≡ length pairs = search rules in
    let at : number ≡ length done = count ∙ sym (length-map pairs (λ e. e.2.now)) in
    let here : items_at rows (number ∷ []) ≡ row ∷ [] = rw (at, ← whole) (item_behind done row left) in (
      tt,
      tt,
      rw (c.in_ok-push.ensures.items, map-append, append_assoc, c.numbered_row-item.ensures.row) whole,
      rw c.in_ok-push.ensures.items (All-append (λ e. items_at rows (e.3 ∷ []) ≡ e.2.now ∷ []) pairs (item ∷ []) c.loop-row.invariant.3
          (All-one (λ e. items_at rows (e.3 ∷ []) ≡ e.2.now ∷ []) item (rw (c.numbered_row-item.ensures.number, c.numbered_row-item.ensures.row) here))),
      rw c.in_ok-push.ensures.items (All-append (λ e. BeginsWith e.2.now e.0 e.1) pairs (item ∷ []) c.loop-row.invariant.4
          (All-one (λ e. BeginsWith e.2.now e.0 e.1) item (rw c.numbered_row-item.ensures.row c.numbered_row-item.ensures.leading))),
    )

pub returns-clause-few : goal.returns-clause-few
returns-clause-few c =
    let left = rw c.in-None.is at c.next.ensures.steps in
    let whole = rw left.0 at c.loop-row.invariant.2 in
    let fits : c.len.result < 2 ^ 32 = search rules in
    omega (arith, ap length whole, length-append (map (λ e. e.2.now) c.loop-row.numbered.items) [], length-map c.loop-row.numbered.items (λ e. e.2.now), c.len.ensures, fits)
