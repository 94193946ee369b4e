use Rattle.std.proofs.Common.{◌≡◌, ◌+◌, ◌-◌, ◌*◌, drop}
use Rattle.rel_base.specs.SortKeys.{span, key_of, sort_key}
use Rattle.rel_base.proofs.sort_keys.sort_key.Given as goal

-- the digits so far, and the key of what is left, are the whole key
abbrev pub invariant-loop-place : goal.invariant-loop-place
invariant-loop-place l = l.key * span (7 - l.place) + key_of (7 - l.place) (drop l.place l.bytes) ≡ sort_key l.bytes
