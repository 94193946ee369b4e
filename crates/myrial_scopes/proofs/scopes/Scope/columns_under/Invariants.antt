use Rattle.std.proofs.Common.{◌≡◌, map}
use Rattle.std.specs.Option.{option_copied}
use Rattle.myrial_scopes.specs.Resolutions.{emit_of}
use Rattle.myrial_scopes.specs.inner.Columns.{emits_first}
use Rattle.myrial_scopes.proofs.scopes.Scope.columns_under.Given as goal

abbrev pub invariant-loop-place : goal.invariant-loop-place
invariant-loop-place l = map emit_of l.columns.items ≡ emits_first l.self (option_copied l.alias) l.place
