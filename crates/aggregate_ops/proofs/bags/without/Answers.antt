use Rattle.std.proofs.Common.{◌≡◌, ◌+◌, ◌≤◌, ◌∷◌, [], ◌++◌, Bool, true, false, cond, length, drop, ap, subst, sym, arith, length-append}
use Rattle.std.proofs.lemmas.Grind.{common_steps}
use Rattle.std.proofs.lemmas.List.{length-map, length-drop}
use Rattle.std.specs.Borrow.{Bor}
use Rattle.myrial_ast.specs.Combinations.{Row, Rows}
use Rattle.packed_rows.proofs.StepLemmas.{behind, row-item}
use Rattle.packed_rows.proofs.BagLemmas.{SideBySide, one-gone-at}
use Rattle.aggregate_ops.specs.Columns.{rows_in}
use Rattle.aggregate_ops.proofs.bags.without.Goals as goal

pub loop-done-preserved : goal.loop-done-preserved
loop-done-preserved c =
    let rows = c.args.rows.now in
    let others = c.args.others.now in
    let done = c.loop-done.done in
    let passed = c.loop-done.passed in
    let below = simp behind at c.rows_below-passed.ensures in
    let begin = simp behind at c.begins_with-found.ensures in
    let run = simp behind at c.repeats-done.ensures in
    let count = c.repeats-done.result in
    let more = c.rows_below-passed.result in
    let first = c.index-left-0.result in
    let found = c.begins_with-found.result in
    let made : c.put_unless.new.into ≡ c.loop-done.made ++ cond found [] (first.now ∷ []) = c.in_ok-put_unless.ensures in
    let long : length (cond found [] (first.now ∷ [])) ≤ 1 = one found in
    let gone = one-gone-at (λ (r : Bor Row). r.now) rows others c.loop-done.made done passed count more first found c.loop-done.invariant.3 c.loop-done-test.true
    (row-item (λ (r : Bor Row). r.now) (drop done rows) 0 first (omega (arith, length-drop done rows)) (simp behind at c.index-left-0.is)) below begin run in (
      omega (arith, run.within, length-map (drop done rows) (λ r. r.now), length-drop done rows),
      omega (arith, below.within, length-map (drop passed others) (λ r. r.now), length-drop passed others),
      omega (arith, run.some, ap length made, length-append c.loop-done.made (cond found [] (first.now ∷ [])), long),
      subst (λ (made : Rows). SideBySide (rows_in rows) (rows_in others) made (rows_in (drop (done + count) rows)) (rows_in (drop (passed + more) others))) (sym made) gone,
    )
  where
    one : (b : Bool) → length (cond b [] (c.index-left-0.result.now ∷ [])) ≤ 1
    one true = omega arith
    one false = omega arith

pub returns : goal.returns
returns c = grind (arith, common_steps)

pub loop-done-init : goal.loop-done-init
loop-done-init c = grind (arith, common_steps)

pub put_unless-requires : goal.put_unless-requires
put_unless-requires c = grind (arith, common_steps)

pub loop-done-smaller : goal.loop-done-smaller
loop-done-smaller c = grind (arith, common_steps)

pub repeats-done-requires : goal.repeats-done-requires
repeats-done-requires c = grind (arith, common_steps)

pub overflow_add-passed : goal.overflow_add-passed
overflow_add-passed c = grind (arith, common_steps)

pub overflow_add-done : goal.overflow_add-done
overflow_add-done c = grind (arith, common_steps)
