use Rattle.std.proofs.Common.{◌∙◌, ℕ, List, sym, ap}
use Rattle.bit_sets.proofs.BitLemmas.{bit_in, bit-is}
use Rattle.bit_sets.proofs.bit_set.BitSet.find.Goals as goal

pub returns : goal.returns
returns c =
    let words : List ℕ = c.deref.result.now in
    let lookup = c.in_ok-word.ensures.lookup in
    bit-is words c.args.number c.in_ok-word.word.now (sym lookup.0) lookup.1 ∙ ap (λ (ws : List ℕ). bit_in ws c.args.number) c.deref.ensures.value
