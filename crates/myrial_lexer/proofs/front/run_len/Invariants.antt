-- the bytes so far and those behind them that go on are all that go on
use Rattle.std.proofs.Common.{◌≡◌, ◌+◌, ◌-◌, ◌≤◌, length, drop}
use Rattle.myrial_lexer.specs.Tokens.{run_len}
use Rattle.myrial_lexer.proofs.front.run_len.Given as goal

abbrev pub invariant-loop-len : goal.invariant-loop-len
invariant-loop-len l = (l.len + run_len l.run (drop l.len l.text) ≡ run_len l.run l.text) × (l.len ≤ length l.text)

abbrev pub decreases-loop-len : goal.decreases-loop-len
decreases-loop-len l = length l.text - l.len
