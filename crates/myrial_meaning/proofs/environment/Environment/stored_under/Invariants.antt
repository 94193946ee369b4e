use Rattle.std.proofs.Common.{◌≡◌, find, reverse, take}
use Rattle.rel_base.specs.Keys.{File, same_key}
use Rattle.myrial_meaning.proofs.environment.Environment.stored_under.Given as goal

abbrev pub invariant-loop-i : goal.invariant-loop-i
invariant-loop-i l =
    find (λ (file : File). same_key file.0 l.key) (reverse l.self-inside.stored.items)
    ≡ find (λ (file : File). same_key file.0 l.key) (reverse (take l.i l.self-inside.stored.items))
