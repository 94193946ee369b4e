use Rattle.std.proofs.Common.{rules}
use Rattle.row_exchange.proofs.AssemblyLemmas.{nothing-done}
use Rattle.row_exchange.proofs.exchanging.exchange.Goals as goal

pub returns-in_err-room : goal.returns-in_err-room
returns-in_err-room g c =
    nothing-done _ _ c.args.size g.T.Tap.totals g.T.Tap.tag c.args.taps.now.items c.from_residual.result (search rules)

pub returns-in_err-idle : goal.returns-in_err-idle
returns-in_err-idle g c =
    nothing-done _ _ c.args.size g.T.Tap.totals g.T.Tap.tag c.args.taps.now.items c.from_residual-in_err-idle.result (search rules)

pub returns-in-Err : goal.returns-in-Err
returns-in-Err g c =
    nothing-done _ _ c.args.size g.T.Tap.totals g.T.Tap.tag c.args.taps.now.items _ (search rules)
