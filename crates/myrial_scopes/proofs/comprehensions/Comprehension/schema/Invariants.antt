use Rattle.std.proofs.Common.{◌≡◌, map, take}
use Rattle.myrial_scopes.specs.Emits.{schema_of}
use Rattle.myrial_scopes.specs.Resolutions.{emit_of}
use Rattle.myrial_scopes.proofs.comprehensions.Comprehension.schema.Given as goal

abbrev pub invariant-loop-place : goal.invariant-loop-place
invariant-loop-place l = l.schema ≡ schema_of (map emit_of (take l.place l.self.emits.items))
