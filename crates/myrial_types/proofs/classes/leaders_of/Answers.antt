use Rattle.std.proofs.Common.{◌≡◌, ◌∙◌, ◌<◌, ◌≤◌, ◌-◌, ◌+◌, ◌∷◌, length, map, drop, get_or, sym, ap, arith}
use Rattle.std.specs.Prelude.{sum}
use Rattle.std.specs.List.{range_with_len}
use Rattle.std.proofs.lemmas.List.{drop_all, drop_more}
use Rattle.std.proofs.lemmas.List.FromFn.{length-map-range_with_len}
use Rattle.myrial_ast.specs.Classes.{leader}
use Rattle.myrial_types.specs.inner.Leaders.{merged}
use Rattle.myrial_types.proofs.ClassesLemmas.{in-range-get, leaders-none, leaders-more}
use Rattle.myrial_types.proofs.classes.leaders_of.Goals as goal

pub loop-i-init : goal.loop-i-init
loop-i-init c =
    let pairs = c.args.equalities.now in
    let columns = range_with_len 0 (sum c.args.widths.now) in
    let past : length pairs ≤ length pairs = omega arith in
    c.in_ok-leaders.ensures ∙ (sym (leaders-none columns) ∙ ap (λ rest. map (leader rest) columns) (sym (drop_all (length pairs) pairs past)))

pub merged-requires-clause-left : goal.merged-requires-clause-left
merged-requires-clause-left c =
    let n = sum c.args.widths.now in
    let i = c.loop-i.i - 1 in
    let low : i < length c.args.equalities.now = omega arith in
    let long : length c.deref.result.now ≡ n =
    ap length c.deref.ensures.value ∙ (ap length c.loop-i.invariant ∙ length-map-range_with_len (leader (drop c.loop-i.i c.args.equalities.now)) 0 n) in
    let within = (in-range-get n c.args.equalities.now i c.requires low).0 in
    omega (arith, long, within)

pub merged-requires-clause-right : goal.merged-requires-clause-right
merged-requires-clause-right c =
    let n = sum c.args.widths.now in
    let i = c.loop-i.i - 1 in
    let low : i < length c.args.equalities.now = omega arith in
    let long : length c.deref.result.now ≡ n =
    ap length c.deref.ensures.value ∙ (ap length c.loop-i.invariant ∙ length-map-range_with_len (leader (drop c.loop-i.i c.args.equalities.now)) 0 n) in
    let within = (in-range-get n c.args.equalities.now i c.requires low).1 in
    omega (arith, long, within)

pub loop-i-preserved : goal.loop-i-preserved
loop-i-preserved c =
    let n = sum c.args.widths.now in
    let pairs = c.args.equalities.now in
    let i = c.loop-i.i - 1 in
    let low : i < length pairs = omega arith in
    let pair = get_or pairs i (0, 0) in
    let next : i + 1 ≡ c.loop-i.i = omega arith in
    let split : drop i pairs ≡ pair ∷ drop c.loop-i.i pairs = drop_more pairs i (0, 0) low ∙ ap (λ k. pair ∷ drop k pairs) next in
    let within = in-range-get n pairs i c.requires low in
    c.in_ok-leaders-2.ensures
    ∙ (ap (λ leaders. merged leaders pair.0 pair.1) (c.deref.ensures.value ∙ c.loop-i.invariant)
    ∙ (leaders-more (drop c.loop-i.i pairs) n pair.0 pair.1 within.0 within.1 ∙ ap (λ rest. map (leader rest) (range_with_len 0 n)) (sym split)))
