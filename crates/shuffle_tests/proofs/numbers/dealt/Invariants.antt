-- each worker so far has numbers
use Rattle.shuffle_tests.specs.inner.Numbers.{AreNumbers}
use Rattle.shuffle_tests.proofs.numbers.dealt.Given as goal

abbrev pub invariant-loop-worker : goal.invariant-loop-worker
invariant-loop-worker l = AreNumbers l.worker l.spread
