-- the fetches of the keys so far
use Rattle.std.proofs.Common.{◌≡◌, map, take}
use Rattle.rel_base.specs.declared.names.Key.{Key}
use Rattle.myrial_meaning.specs.Fetches.{form_among}
use Rattle.myrial_types.proofs.fetching.fetch_each.Given as goal

abbrev pub invariant-loop-key : goal.invariant-loop-key
invariant-loop-key l =
    l.found ≡ map (λ (key : Key). record { key = key; form = form_among l.loads key }) (take l.key-index l.keys)
