-- the keys of the operands so far are there
use Rattle.std.proofs.Common.{◌≡◌, map, take}
use Rattle.std.specs.List.{flat_map}
use Rattle.indexmap.specs.IndexSet.{insert_all}
use Rattle.rel_base.specs.Keys.{same_key}
use Rattle.myrial_meaning.specs.Fetches.{keys_needed}
use Rattle.myrial_types.proofs.fetching.insert_keys.Given as goal

abbrev pub invariant-loop-operand : goal.invariant-loop-operand
invariant-loop-operand l =
    l.keys.keys ≡ insert_all same_key l.initial.keys.keys (flat_map (keys_needed l.stored) (map (λ o. o.now) (take l.operand-index l.operand-items)))
