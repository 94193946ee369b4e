use Rattle.std.proofs.Common.{◌≡◌, ◌-◌, ◌≤◌, length, map, filter, ap, ◌∙◌, arith}
use Rattle.std.specs.Prelude.{is_none, is_some}
use Rattle.std.proofs.lemmas.List.{take_all, length-map}
use Rattle.algebra.specs.declared.notes.PlanNote.TheVariants as note
use Rattle.algebra.specs.Trees.{kind_of_emit}
use Rattle.join_plans.proofs.CountLemmas.{keys-rest}
use Rattle.join_plans.proofs.notes.group_note.Goals as goal

pub returns : goal.returns
returns c =
    let kinds = c.args.kinds.now in
    let same = c.as_slice-kind-items.ensures.value in
    let over : length c.as_slice-kind-items.result.now ≤ c.loop-kind.kind-index = omega arith in
    let enough : length c.args.kinds.now ≤ c.loop-kind.kind-index = omega (arith, over, ap length same) in
    let all = take_all c.loop-kind.kind-index c.args.kinds.now enough in
    let keys : c.loop-kind.keys ≡ length (filter (λ k. is_none k) (map kind_of_emit c.args.kinds.now)) =
    c.loop-kind.invariant.so_far ∙ ap (λ ks. length (filter (λ k. is_none k) (map kind_of_emit ks))) all in
    let rest = keys-rest (map kind_of_emit kinds) in
    let long = length-map kinds kind_of_emit in
    let others : c.len.result - c.loop-kind.keys ≡ length (filter (λ k. is_some k) (map kind_of_emit c.args.kinds.now)) =
    omega (arith, keys, rest, long, c.len.ensures) in
    (λ i. note.Group (keys i) (others i))
