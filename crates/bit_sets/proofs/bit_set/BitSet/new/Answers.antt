use Rattle.std.proofs.Common.{◌∙◌, ℕ, List, ap}
use Rattle.bit_sets.proofs.BitLemmas.{bit_in, none-set}
use Rattle.bit_sets.proofs.bit_set.BitSet.new.Goals as goal

pub returns : goal.returns
returns c number = ap (λ (ws : List ℕ). bit_in ws number) (c.in_ok-words.ensures.items_if_clones_equal (λ y e. e)) ∙ none-set c.args.words number
