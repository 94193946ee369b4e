use Rattle.std.proofs.Common.{◌≡◌, ◌∙◌, ◌+◌, ◌%◌, ◌^◌, ◌<◌, ◌++◌, sym, ap, append_assoc, drop, length, length-append, arith, rules}
use Rattle.std.proofs.lemmas.List.{drop_more}
use Rattle.rel_base.specs.Picks.{every_nth, joined}
use Rattle.rel_base.proofs.StrideLemmas.{every_nth-append, every_nth-front, length-every_nth}
use Rattle.rel_base.proofs.shared_rows.SharedRows.every_nth.Goals as goal
use Rattle.rel_base.proofs.shared_rows.SharedRows.every_nth.Goals.{In_ok-part}

-- the stretch in hand, and the rows behind it
in_hand : (c : In_ok-part) → joined (drop c.loop-stretch.stretch-index c.deref-stretch-items.result.now)
    ≡ c.stretch-item.result ++ joined (drop (c.loop-stretch.stretch-index + 1) c.deref-stretch-items.result.now)
in_hand c =
    let xss = c.deref-stretch-items.result.now in
    let i = c.loop-stretch.stretch-index in
    let low : i < length xss = omega (arith, c.loop-stretch-test.true) in
    ap joined (drop_more xss i c.stretch-item.result low) ∙ ap (λ xs. xs ++ joined (drop (i + 1) xss)) (sym c.stretch-item.is)

pub push-requires : goal.push-requires
push-requires c =
    let step = c.args.step in
    let next = c.loop-stretch.next in
    let picked = c.loop-stretch.picked in
    let left = joined (drop c.loop-stretch.stretch-index c.deref-stretch-items.result.now) in
    let behind = joined (drop (c.loop-stretch.stretch-index + 1) c.deref-stretch-items.result.now) in
    let few : c.len-few.result < 2 ^ 32 = search rules in
    let all = c.loop-stretch.invariant.0 ∙ ap (λ xs. picked ++ every_nth xs step next) (in_hand (goal.at.push-requires c).In_ok-part) in
    omega (
      arith,
      ap length all,
      length-append picked (every_nth (c.stretch-item.result ++ behind) step next),
      every_nth-front c.stretch-item.result behind step next,
      ap length c.in_ok-part.ensures,
      length-every_nth c.args.self.now step c.args.start,
      c.len-few.ensures,
      few,
    )

pub loop-stretch-preserved : goal.loop-stretch-preserved
loop-stretch-preserved c =
    let step = c.args.step in
    let next = c.loop-stretch.next in
    let later = c.start_behind-next.result in
    let picked = c.loop-stretch.picked in
    let part = c.in_ok-part.part in
    let stretch = c.stretch-item.result in
    let behind = joined (drop (c.loop-stretch.stretch-index + 1) c.deref-stretch-items.result.now) in
    let counted : (length stretch + later) % step ≡ next = rw c.len.ensures at c.start_behind-next.ensures.next in
    let apart = every_nth-append stretch behind step next later c.loop-stretch.invariant.1 c.start_behind-next.ensures.low counted in (
      c.loop-stretch.invariant.0
          ∙ ap (λ xs. picked ++ every_nth xs step next) (in_hand (goal.at.loop-stretch-preserved c).In_ok-part)
          ∙ ap (λ xs. picked ++ xs) (apart ∙ ap (λ xs. xs ++ every_nth behind step later) (sym c.in_ok-part.ensures))
          ∙ sym (append_assoc picked part (every_nth behind step later))
          ∙ ap (λ xs. xs ++ every_nth behind step later) (sym c.in_ok-push.ensures.ok),
      c.start_behind-next.ensures.low,
    )
