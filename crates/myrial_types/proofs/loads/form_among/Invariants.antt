-- none of the loads so far is of this key
use Rattle.std.proofs.Common.{◌≡◌, find, drop}
use Rattle.myrial_ast.specs.Loads.{is_load_key}
use Rattle.myrial_meaning.specs.Fetches.{Load}
use Rattle.myrial_types.proofs.loads.form_among.Given as goal

abbrev pub invariant-loop-load : goal.invariant-loop-load
invariant-loop-load l =
    find (λ (m : Load). is_load_key m.0 l.key) l.loads ≡ find (λ (m : Load). is_load_key m.0 l.key) (drop l.load-index l.loads)
