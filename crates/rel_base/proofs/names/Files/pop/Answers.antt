use Rattle.std.proofs.Common.{◌∙◌, sym, ap}
use Rattle.std.specs.Option.{option_to_list}
use Rattle.rel_base.specs.Keys.{distinct_keys}
use Rattle.rel_base.proofs.KeyLemmas.{distinct_keys-front}
use Rattle.rel_base.proofs.names.Files.pop.Goals as goal

pub invariant_of-self : goal.invariant_of-self
invariant_of-self c =
    distinct_keys-front c.pop.new.self (option_to_list c.pop.result) (sym (ap distinct_keys c.pop.ensures.items) ∙ c.self.invariant)
