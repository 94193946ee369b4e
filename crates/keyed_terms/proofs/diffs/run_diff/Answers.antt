use Rattle.std.proofs.Common.{◌*◌, ◌≤◌, ◌==◌, ℕ, List, [], ◌∷◌, length, refl, sym, subst, arith, rules}
use Rattle.std.specs.Prelude.{filter}
use Rattle.myrial_ast.specs.Bags.{difference}
use Rattle.myrial_ast.specs.Combinations.{Row}
use Rattle.algebra.specs.declared.notes.Exchange.TheVariants as exchange
use Rattle.hash_partition.specs.Hashing.{home_of}
use Rattle.placement.specs.Exchanges.{PlacedExchange, row_exchange}
use Rattle.placement.specs.Layouts.{together}
use Rattle.row_exchange.specs.Moves.{sent, received}
use Rattle.routed_joins.specs.PlacedJoins.{placed_rows}
use Rattle.routed_joins.specs.Readings.{AreSeconds}
use Rattle.keyed_terms.specs.KeyedTerms.{keyed_placing, diff_parts}
use Rattle.keyed_terms.proofs.BagLemmas.{difference-made}
use Rattle.keyed_terms.proofs.ConcludeLemmas.{tables-made, concluded}
use Rattle.keyed_terms.proofs.MeetLemmas.{met-added}
use Rattle.keyed_terms.proofs.diffs.run_diff.Goals as goal

pub returns : goal.returns
returns g c =
    let a = c.args in
    let s = a.settings.now in
    let left = a.operands.left in
    let right = a.operands.right in
    let totals = g.T.Tap.totals in
    let tag = g.T.Tap.tag in
    let home : Row → ℕ = λ row. home_of s.seed row s.workers in
    let before = a.taps.now.items in
    let middle = c.meet.new.taps.items in
    let since = c.deref.result.now in
    let met = c.in_ok-met.met in
    let others = c.in_ok-met.others in
    let made = c.in_ok-made.made in
    let x = c.in_ok-met.ensures in
    let room : 2 * s.workers ≤ length before = omega (arith, c.requires.taps, a.taps.now.ok.0) in
    let read : AreSeconds totals s.workers before since =
    subst (λ (since : List _). AreSeconds totals s.workers before since) (sym c.deref.ensures.value)
    (subst (λ (taps : List _). AreSeconds totals s.workers taps c.in_ok-since.since.items) c.as_slice-2.ensures.value c.in_ok-since.ensures) in
    let rows = difference-made s.workers (λ w row. home row == w) (together left) (together right) met others made x.ok.met_are x.ok.others_are c.in_ok-made.ensures in
    let e : PlacedExchange = row_exchange (keyed_placing s) exchange.Diff (placed_rows left ∷ placed_rows right ∷ []) (diff_parts s left right) in
    concluded s a.statement (diff_parts s left right) e totals tag before middle c.conclude.new.taps.items (sent e.moves) (received e.moves)
    since made c.in_ok-met.receipts room read (met-added s left right totals tag before middle x.ok.moved) (λ u below. refl) (λ w below. refl)
    refl rows.count (tables-made s.workers (λ w. filter (λ row. home row == w) (difference (together left) (together right))) made rows)
    x.ok.shown c.conclude.ensures.listed x.fair c.conclude.result c.conclude.ensures.ok

pub returns-in_err-since : goal.returns-in_err-since
returns-in_err-since g c = search rules

pub returns-in_err-met : goal.returns-in_err-met
returns-in_err-met g c = search rules

pub returns-in_err-made : goal.returns-in_err-made
returns-in_err-made g c = search rules
