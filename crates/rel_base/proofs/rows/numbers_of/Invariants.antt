use Rattle.std.proofs.Common.{◌≡◌, map, take}
use Rattle.rel_base.proofs.rows.numbers_of.Given as goal

abbrev pub invariant-loop-number : goal.invariant-loop-number
invariant-loop-number l = l.numbers.items ≡ map (λ e. e.3) (take l.number-index l.numbered)
