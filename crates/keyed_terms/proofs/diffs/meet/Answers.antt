use Rattle.std.proofs.Common.{ℕ, List, All, sym, subst, rules}
use Rattle.std.specs.List.{range_with_len}
use Rattle.myrial_ast.specs.Combinations.{Row}
use Rattle.hash_partition.specs.Hashing.{home_of}
use Rattle.row_exchange.specs.Exchanges.{nothing}
use Rattle.placement.specs.Runs.{size_of}
use Rattle.routed_joins.proofs.RouteLemmas.{told-low}
use Rattle.regular_shuffle.specs.KeySpreads.{HasColumns, IsSpread}
use Rattle.routed_joins.proofs.TapLemmas.{told-fair, fair-both}
use Rattle.keyed_terms.proofs.MeetLemmas.{meeting-failed, have-met}
use Rattle.keyed_terms.proofs.SpreadLemmas.{spread-as, tables-refl, whole-home, whole-columns}
use Rattle.keyed_terms.proofs.diffs.meet.Goals as goal

pub spread_by_key-requires-clause-columns : goal.spread_by_key-requires-clause-columns
spread_by_key-requires-clause-columns g c κs within =
    subst (λ (columns : List ℕ). All (All (HasColumns columns)) c.args.operands.now.left) (sym c.in_ok-columns.ensures)
    (whole-columns c.args.operands.now.width c.args.operands.now.left c.requires.left_width)

pub spread_by_key-requires-2-clause-columns : goal.spread_by_key-requires-2-clause-columns
spread_by_key-requires-2-clause-columns g c κs within =
    subst (λ (columns : List ℕ). All (All (HasColumns columns)) c.args.operands.now.right) (sym c.in_ok-columns.ensures)
    (whole-columns c.args.operands.now.width c.args.operands.now.right c.requires.right_width)

pub returns-in_err-met : goal.returns-in_err-met
returns-in_err-met g c =
    let a = c.args in
    let s = a.settings.now in
    let totals = g.T.Tap.totals in
    let tag = g.T.Tap.tag in
    let before = a.taps.now.items in
    let middle = c.spread_by_key.new.taps.items in
    let x = c.spread_by_key.ensures in
    meeting-failed s a.operands.now.left a.operands.now.right totals tag before middle c.from_residual-in_err-met.result (search rules)
    (told-fair totals tag s.workers x.sent_by x.got_by nothing before middle x.even x.told)
    (told-low totals tag s.workers x.sent_by x.got_by before middle x.told c.requires.unlisted)

pub returns-then-not-have_room : goal.returns-then-not-have_room
returns-then-not-have_room g c =
    let a = c.args in
    let s = a.settings.now in
    let totals = g.T.Tap.totals in
    let tag = g.T.Tap.tag in
    let before = a.taps.now.items in
    let middle = c.spread_by_key.new.taps.items in
    let x = c.spread_by_key.ensures in
    meeting-failed s a.operands.now.left a.operands.now.right totals tag before middle _ (search rules)
    (told-fair totals tag s.workers x.sent_by x.got_by nothing before middle x.even x.told)
    (told-low totals tag s.workers x.sent_by x.got_by before middle x.told c.requires.unlisted)

pub returns-in_err-others : goal.returns-in_err-others
returns-in_err-others g c =
    let a = c.args in
    let s = a.settings.now in
    let totals = g.T.Tap.totals in
    let tag = g.T.Tap.tag in
    let before = a.taps.now.items in
    let middle = c.spread_by_key.new.taps.items in
    let after = c.spread_by_key-2.new.taps.items in
    let x = c.spread_by_key.ensures in
    let y = c.spread_by_key-2.ensures in
    meeting-failed s a.operands.now.left a.operands.now.right totals tag before after c.from_residual-in_err-others.result (search rules)
    (fair-both totals tag before middle after (told-fair totals tag s.workers x.sent_by x.got_by nothing before middle x.even x.told)
    (told-fair totals tag s.workers y.sent_by y.got_by nothing middle after y.even y.told))
    (told-low totals tag s.workers y.sent_by y.got_by middle after y.told
    (told-low totals tag s.workers x.sent_by x.got_by before middle x.told c.requires.unlisted))

pub returns-in_err-receipts : goal.returns-in_err-receipts
returns-in_err-receipts g c =
    let a = c.args in
    let s = a.settings.now in
    let totals = g.T.Tap.totals in
    let tag = g.T.Tap.tag in
    let before = a.taps.now.items in
    let middle = c.spread_by_key.new.taps.items in
    let after = c.spread_by_key-2.new.taps.items in
    let x = c.spread_by_key.ensures in
    let y = c.spread_by_key-2.ensures in
    meeting-failed s a.operands.now.left a.operands.now.right totals tag before after c.from_residual-in_err-receipts.result (search rules)
    (fair-both totals tag before middle after (told-fair totals tag s.workers x.sent_by x.got_by nothing before middle x.even x.told)
    (told-fair totals tag s.workers y.sent_by y.got_by nothing middle after y.even y.told))
    (told-low totals tag s.workers y.sent_by y.got_by middle after y.told
    (told-low totals tag s.workers x.sent_by x.got_by before middle x.told c.requires.unlisted))

pub returns : goal.returns
returns g c =
    let a = c.args in
    let s = a.settings.now in
    let width = a.operands.now.width in
    let left = a.operands.now.left in
    let right = a.operands.now.right in
    let totals = g.T.Tap.totals in
    let tag = g.T.Tap.tag in
    let home : Row → ℕ = λ row. home_of s.seed row s.workers in
    let before = a.taps.now.items in
    let middle = c.spread_by_key.new.taps.items in
    let after = c.spread_by_key-2.new.taps.items in
    let x = c.in_ok-met.ensures in
    let y = c.in_ok-others.ensures in
    let met = c.in_ok-met.met in
    let others = c.in_ok-others.others in
    let first = c.in_ok-met.first in
    let second = c.in_ok-others.second in
    let one =
    spread-as s.seed (range_with_len 0 width) home left left (size_of s) x.sent_by x.got_by met first (tables-refl left) (whole-home s.seed s.workers width left c.requires.left_width)
    (subst (λ (columns : List ℕ). IsSpread s.seed columns left (size_of s) x.sent_by x.got_by met first) c.in_ok-columns.ensures x.ok) in
    let two =
    spread-as s.seed (range_with_len 0 width) home right right (size_of s) y.sent_by y.got_by others second (tables-refl right) (whole-home s.seed s.workers width right c.requires.right_width)
    (subst (λ (columns : List ℕ). IsSpread s.seed columns right (size_of s) y.sent_by y.got_by others second) c.in_ok-columns.ensures y.ok) in
    record {
      fair =
          fair-both totals tag before middle after (told-fair totals tag s.workers x.sent_by x.got_by nothing before middle x.even x.told)
          (told-fair totals tag s.workers y.sent_by y.got_by nothing middle after y.even y.told);
      unlisted =
          told-low totals tag s.workers y.sent_by y.got_by middle after y.told
          (told-low totals tag s.workers x.sent_by x.got_by before middle x.told c.requires.unlisted);
      ok =
          have-met s left right totals tag before middle after x.sent_by x.got_by y.sent_by y.got_by met others first second c.in_ok-receipts.receipts x.told y.told one two
          c.in_ok-receipts.ensures;
    }
