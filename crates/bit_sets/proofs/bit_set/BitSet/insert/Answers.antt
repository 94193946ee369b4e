use Rattle.std.proofs.Common.{◌∙◌, ◌<◌, ◌*◌, ◌/◌, ◌%◌, ◌^◌, ℕ, List, length, not, option_map, set, ap, sym}
use Rattle.std.specs.Prelude.{bit_or}
use Rattle.bit_sets.proofs.BitLemmas.{bit_in, bit-set, bit-there}
use Rattle.bit_sets.proofs.bit_set.BitSet.insert.Goals as goal

pub returns-clause-new : goal.returns-clause-new
returns-clause-new c = ap (option_map not) c.in_ok-is_there.ensures

pub returns-clause-added : goal.returns-clause-added
returns-clause-added c k =
    let words : List ℕ = c.args.self.now.words.items in
    let number : ℕ = c.args.number in
    let low : number / 64 < length words = bit-there words number c.in_ok-is_there.is_there (sym c.in_ok-is_there.ensures) in
    ap (λ word. bit_in (set words (number / 64) (bit_or word (1 * 2 ^ (number % 64) % 2 ^ 64))) k) c.index_mut.ensures.value
    ∙ bit-set words number c.index_mut.result.now low k
