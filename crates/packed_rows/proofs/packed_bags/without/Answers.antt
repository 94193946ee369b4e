use Rattle.std.proofs.Common.{◌≡◌, ◌+◌, ◌≤◌, ◌∷◌, [], ◌++◌, Bool, true, false, cond, length, map, drop, get_or, ap, subst, sym, arith, length-append}
use Rattle.std.proofs.lemmas.Grind.{common_steps}
use Rattle.std.proofs.lemmas.List.{get_or-map, length-map, length-drop}
use Rattle.myrial_ast.specs.Combinations.{Rows}
use Rattle.packed_rows.specs.Unpacked.{unpacked_row}
use Rattle.packed_rows.proofs.StepLemmas.{behind}
use Rattle.packed_rows.proofs.BagLemmas.{SideBySide, one-gone-at}
use Rattle.packed_rows.proofs.packed_bags.without.Goals as goal

pub loop-done-preserved : goal.loop-done-preserved
loop-done-preserved c =
    let row = unpacked_row c.args.columns.now in
    let words = c.args.words.now in
    let others = c.args.others.now in
    let done = c.loop-done.done in
    let passed = c.loop-done.passed in
    let below = simp behind at c.words_below-passed.ensures in
    let begin = simp behind at c.begins_with-found.ensures in
    let run = simp behind at c.repeats-done.ensures in
    let count = c.repeats-done.result in
    let more = c.words_below-passed.result in
    let first = get_or (drop done words) 0 0 in
    let found = c.begins_with-found.result in
    let made : c.put_unless.new.into ≡ c.loop-done.made ++ cond found [] (row first ∷ []) = simp behind at c.in_ok-put_unless.ensures in
    let long : length (cond found [] (row first ∷ [])) ≤ 1 = one found in
    let gone = one-gone-at row words others c.loop-done.made done passed count more first found c.loop-done.invariant.3 c.loop-done-test.true
    (get_or-map row (drop done words) 0 0 [] (omega (arith, length-drop done words))) below begin run in (
      omega (arith, run.within, length-map (drop done words) row, length-drop done words),
      omega (arith, below.within, length-map (drop passed others) row, length-drop passed others),
      omega (arith, run.some, ap length made, length-append c.loop-done.made (cond found [] (row first ∷ [])), long),
      subst (λ (made : Rows). SideBySide (map row words) (map row others) made (map row (drop (done + count) words)) (map row (drop (passed + more) others))) (sym made) gone,
    )
  where
    one : (b : Bool) → length (cond b [] (unpacked_row c.args.columns.now (get_or (drop c.loop-done.done c.args.words.now) 0 0) ∷ [])) ≤ 1
    one true = omega arith
    one false = omega arith

pub returns : goal.returns
returns c = grind (arith, common_steps)

pub loop-done-init : goal.loop-done-init
loop-done-init c = grind (arith, common_steps)

pub put_unless-requires-clause-room : goal.put_unless-requires-clause-room
put_unless-requires-clause-room c = grind (arith, common_steps)

pub loop-done-smaller : goal.loop-done-smaller
loop-done-smaller c = grind (arith, common_steps)

pub repeats-done-requires : goal.repeats-done-requires
repeats-done-requires c = grind (arith, common_steps)

pub overflow_add-passed : goal.overflow_add-passed
overflow_add-passed c = grind (arith, common_steps)

pub overflow_add-done : goal.overflow_add-done
overflow_add-done c = grind (arith, common_steps)
