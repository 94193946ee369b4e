use Rattle.std.proofs.Common.{◌≡◌, ◌∙◌, ◌+◌, ◌%◌, ◌^◌, ◌<◌, ◌++◌, sym, ap, append-nil, length, length-append, arith}
use Rattle.rel_base.specs.Picks.{every_nth}
use Rattle.rel_base.proofs.StrideLemmas.{every_nth-append, length-every_nth}
use Rattle.rel_base.proofs.rows.Rows.every_nth.Goals as goal
use Rattle.rel_base.proofs.rows.Rows.every_nth.Goals.{In_ok-own}

-- what is picked of the shared rows, and behind it what is picked of the own ones
both : (c : In_ok-own) → c.in_ok-shared.shared ++ c.in_ok-own.own ≡ every_nth c.args.self.now c.args.step c.args.start
both c =
    let step = c.args.step in
    let start = c.args.start in
    let next = c.start_behind-next.result in
    let shared = c.self.inside.shared in
    let own = c.self.inside.own in
    let counted : (length shared + next) % step ≡ start = rw c.len.ensures at c.start_behind-next.ensures.next in
    let apart = every_nth-append shared own step start next c.requires c.start_behind-next.ensures.low counted in
    ap (λ xs. xs ++ c.in_ok-own.own) c.in_ok-shared.ensures ∙ ap (λ xs. every_nth shared step start ++ xs) c.in_ok-own.ensures
    ∙ sym apart ∙ ap (λ xs. every_nth xs step start) c.self.view_is

-- there are no more of them than rows in all
within : (c : In_ok-own) → length c.in_ok-shared.shared + length c.in_ok-own.own < 2 ^ 32
within c = omega (
  arith,
  ap length (both c),
  length-append c.in_ok-shared.shared c.in_ok-own.own,
  length-every_nth c.args.self.now c.args.step c.args.start,
  ap length c.self.view_is,
  c.self.invariant,
)

pub share-requires : goal.share-requires
share-requires c = within (goal.at.share-requires c).In_ok-own

pub invariant_of-result : goal.invariant_of-result
invariant_of-result c =
    let shared = c.in_ok-share.ensures.ok in
    omega (
      arith,
      within (goal.at.invariant_of-result c).In_ok-own,
      length-append c.share.new.shared c.share.new.own,
      length-append c.in_ok-shared.shared c.in_ok-own.own,
      ap length shared.0,
      ap length shared.1,
    )

pub returns : goal.returns
returns c =
    let shared = c.in_ok-share.ensures.ok in
    ap (λ xs. c.share.new.shared ++ xs) shared.1 ∙ append-nil c.share.new.shared ∙ shared.0
    ∙ both (goal.at.returns c).In_ok-own
