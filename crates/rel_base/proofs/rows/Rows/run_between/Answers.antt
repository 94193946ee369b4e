use Rattle.std.proofs.Common.{◌≡◌, ◌∙◌, ◌+◌, ◌-◌, ◌≤◌, sym, ap, length, length-append, take, drop, arith}
use Rattle.rel_base.specs.Picks.{items_at}
use Rattle.rel_base.specs.inner.Strides.{stepped}
use Rattle.rel_base.proofs.PickLemmas.{length-items_at, length-stepped}
use Rattle.rel_base.proofs.RangeLemmas.{items_at-range, stepped-below, stepped-from, stepped-minus}
use Rattle.rel_base.proofs.StartLemmas.{items_at-back, items_at-front}
use Rattle.rel_base.proofs.rows.Rows.run_between.Goals as goal

pub returns-then-from-first-clause-run : goal.returns-then-from-first-clause-run
returns-then-from-first-clause-run c =
    let shared = c.self.inside.shared in
    let run = c.in_ok-run.run' in
    let ns = stepped c.args.from 1 (length run) in
    c.in_ok-run.ensures.run
    ∙ sym (items_at-front shared c.self.inside.own ns (stepped-below c.args.from (length run) (length shared) c.in_ok-run.ensures.within))
    ∙ ap (λ xs. items_at xs ns) c.self.view_is

pub returns-clause-run : goal.returns-clause-run
returns-clause-run c =
    let shared = c.self.inside.shared in
    let own = c.self.inside.own in
    let first = c.len-first.result in
    let from = c.args.from in
    let n = c.args.to - from in
    let ns = stepped from 1 n in
    let sizes = ap length c.self.view_is in
    let low : first ≤ from = omega (arith, c.if-from-first.false) in
    let room : from + n ≤ first + length own =
    omega (arith, c.requires.within, c.requires.order, length-append shared own, sizes, c.len-first.ensures) in
    let copies = c.in_ok-copies.ensures in
    let taken : take (c.args.to - first - (from - first)) (drop (from - first) own) ≡ items_at own (stepped (from - first) 1 n) =
    ap (λ m. take m (drop (from - first) own)) (omega (arith, low, c.requires.order))
    ∙ sym (items_at-range own (from - first) n (omega (arith, room, low))) in
    let back = items_at-back shared own first ns c.len-first.ensures (λ k d less. omega (arith, low, stepped-from from n k d less))
    (stepped-below from n (first + length own) room) in
    let whole = c.whole.ensures ∙ c.in_ok-block.ensures.ok ∙ copies ∙ taken
    ∙ ap (items_at own) (sym (stepped-minus first from n low)) ∙ sym back ∙ ap (λ xs. items_at xs ns) c.self.view_is in
    let many : length c.whole.result ≡ n =
    ap length whole ∙ length-items_at c.args.self.now ns (stepped-below from n (length c.args.self.now) (omega (arith, c.requires.within, c.requires.order)))
    ∙ length-stepped from 1 n in
    whole ∙ ap (λ m. items_at c.args.self.now (stepped from 1 m)) (sym many)
