use Rattle.std.proofs.Common.{◌≡◌, ◌++◌, ◌+◌, map, take}
use Rattle.rel_base.proofs.shared_rows.push_later.Given as goal

abbrev pub invariant-loop-start : goal.invariant-loop-start
invariant-loop-start l = l.starts.items ≡ l.initial.starts.items ++ map (λ s. l.by + s) (take l.start-index l.more)
